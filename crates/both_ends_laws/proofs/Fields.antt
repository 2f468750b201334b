-- What the fields that messages share have at most.
use Rattle.std.proofs.Common.{ℕ, ◌==◌, Bool, true, false, if◌then◌else◌, List, [], ◌∷◌, Some, None, refl, arith}
use Rattle.serde_json.specs.Data.{Data, number, unsigned, object, Members, no_members, member}
use Rattle.sb_json.specs.declared.fields.Field.TheVariants as field
use Rattle.sb_members.specs.Parts.{Parts}
use Rattle.sb_members.specs.Writing.{text_written, bytes_written, number_written, long_written, duration_written, unless_bare}
use Rattle.update_messages.specs.declared.client.ClientInfo.{ClientInfo}
use Rattle.update_messages.specs.Writing.{client_members}
use Rattle.both_ends_laws.proofs.Costs.{Costs, string_costs, MayCost, object_costs}

pub text_costs : (cs : List ℕ) → MayCost 0 0 (text_written cs)
text_costs [] = tt
text_costs (c ∷ cs) = string_costs _

pub bytes_costs : (bs : List ℕ) → MayCost 0 0 (bytes_written bs)
bytes_costs [] = tt
bytes_costs (b ∷ bs) = string_costs _

chosen_costs : (b : Bool) (o v : ℕ) (d : Data) → Costs o v d → MayCost o v (if b then None else Some d)
chosen_costs true o v d h = tt
chosen_costs false o v d h = h

pub unsigned_costs : (n : ℕ) → Costs 0 0 (number (unsigned n))
unsigned_costs n = record { opens = omega arith; has = omega arith; whole = refl }

pub number_costs : (n : ℕ) → MayCost 0 0 (number_written n)
number_costs n = chosen_costs (n == 0) 0 0 _ (unsigned_costs n)

pub long_costs : (n : ℕ) → MayCost 0 0 (long_written n)
long_costs n = chosen_costs (n == 0) 0 0 _ (string_costs _)

pub duration_costs : (n : ℕ) → MayCost 0 0 (duration_written n)
duration_costs n = chosen_costs (n == 0) 0 0 _ (string_costs _)

pub bare_costs : (o v : ℕ) (ms : Members) → Costs o v (object ms) → MayCost o v (unless_bare ms)
bare_costs o v no_members h = tt
bare_costs o v (member k d ms) h = h

abbrev client_parts : ClientInfo → Parts
client_parts c = (field.ClientId, text_written c.id) ∷ (field.ClientVersion, text_written c.version) ∷ []

pub client_costs : (c : ClientInfo) → MayCost 1 5 (unless_bare (client_members c))
client_costs c =
    bare_costs 1 5 (client_members c) (object_costs ((0, 0) ∷ (0, 0) ∷ []) (client_parts c) (text_costs c.id, (text_costs c.version, tt)))
