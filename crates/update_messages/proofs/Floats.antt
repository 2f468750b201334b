-- No message has a float.
use Rattle.std.proofs.Common.{◌≡◌, ℕ, Bool, true, false, ◌==◌, if◌then◌else◌, List, [], ◌∷◌, map, Some, None, refl}
use Rattle.std.specs.Prelude.{codes}
use Rattle.serde_json.specs.Data.{Data, number, unsigned, Members, no_members, member}
use Rattle.serde_json.specs.View.{items_of}
use Rattle.serde_json.specs.Written.{has_float, items_have_float, members_have_float}
use Rattle.sb_json.specs.declared.fields.Field.{Field}
use Rattle.sb_json.specs.declared.fields.Field.TheVariants as field
use Rattle.sb_members.specs.Laws.{FloatAsValues}
use Rattle.sb_members.specs.Parts.{HasNoFloat}
use Rattle.sb_members.specs.Writing.{bytes_written, text_written, number_written, long_written, duration_written, list_written, unless_bare}
use Rattle.rice_coding.specs.declared.record.RiceRecord.{RiceRecord}
use Rattle.update_messages.specs.declared.client.ClientInfo.{ClientInfo}
use Rattle.update_messages.specs.declared.sets.Additions.{Additions}
use Rattle.update_messages.specs.declared.sets.Additions.TheVariants as added
use Rattle.update_messages.specs.declared.sets.Removals.{Removals}
use Rattle.update_messages.specs.declared.sets.Removals.TheVariants as removed
use Rattle.update_messages.specs.declared.response.FetchResponse.{FetchResponse}
use Rattle.update_messages.specs.Messages.{AskedList, Request, UpdatedList}
use Rattle.update_messages.specs.Writing as spec
use Rattle.update_messages.proofs.RequestAgain.{constraint_parts, asked_parts, client_parts, request_parts}
use Rattle.update_messages.proofs.ResponseAgain.{rice_parts, hashes_parts, indices_parts, set_parts, checksum_parts, update_parts, response_parts}

bytes_none : (bs : List ℕ) → HasNoFloat (bytes_written bs)
bytes_none [] = tt
bytes_none (b ∷ bs) = refl

text_none : (cs : List ℕ) → HasNoFloat (text_written cs)
text_none [] = tt
text_none (c ∷ cs) = refl

chosen_none : (b : Bool) (d : Data) → has_float d ≡ false → HasNoFloat (if b then None else Some d)
chosen_none true d h = tt
chosen_none false d h = h

number_none : (n : ℕ) → HasNoFloat (number_written n)
number_none n = chosen_none (n == 0) (number (unsigned n)) refl

long_none : (n : ℕ) → HasNoFloat (long_written n)
long_none n = chosen_none (n == 0) _ refl

duration_none : (n : ℕ) → HasNoFloat (duration_written n)
duration_none n = chosen_none (n == 0) _ refl

items_none : {A : Type 0} (write : A → Data) → ((a : A) → has_float (write a) ≡ false) → (xs : List A) → items_have_float (items_of (map write xs)) ≡ false
items_none write h [] = refl
items_none write h (x ∷ xs) = rw (h x, items_none write h xs) refl

list_none : {A : Type 0} (write : A → Data) → ((a : A) → has_float (write a) ≡ false) → (xs : List A) → HasNoFloat (list_written write xs)
list_none write h [] = tt
list_none write h (x ∷ xs) = items_none write h (x ∷ xs)

compressions_none : (raw rice : Bool) → HasNoFloat (spec.compressions_written raw rice)
compressions_none true true = refl
compressions_none true false = refl
compressions_none false true = refl
compressions_none false false = tt

bare_none : (ms : Members) → members_have_float ms ≡ false → HasNoFloat (unless_bare ms)
bare_none no_members m = tt
bare_none (member k d ms) m = m

-- ---- the response

rice_none : FloatAsValues → (r : RiceRecord) → has_float (spec.rice_written r) ≡ false
rice_none none r = none (rice_parts r) (bytes_none r.coded, (long_none r.first, (number_none r.count, (number_none r.parameter, tt))))

hashes_none : FloatAsValues → (size : ℕ) (bytes : List ℕ) → has_float (spec.hashes_written size bytes) ≡ false
hashes_none none size bytes = none (hashes_parts size bytes) (number_none size, (bytes_none bytes, tt))

indices_none : FloatAsValues → (indices : List ℕ) → has_float (spec.indices_written indices) ≡ false
indices_none none indices = none (indices_parts indices) (list_none (λ (n : ℕ). number (unsigned n)) (λ n. refl) indices, tt)

set_none : FloatAsValues → (word : List ℕ) (f : Field) (d : Data) → has_float d ≡ false → has_float (spec.set_written word f d) ≡ false
set_none none word f d h = none (set_parts word f d) (refl, (h, tt))

addition_none : FloatAsValues → (a : Additions) → has_float (spec.addition_written a) ≡ false
addition_none none (added.Raw size bytes) = set_none none (codes "RAW") field.RawHashes (spec.hashes_written size bytes) (hashes_none none size bytes)
addition_none none (added.Rice r) = set_none none (codes "RICE") field.RiceHashes (spec.rice_written r) (rice_none none r)

removal_none : FloatAsValues → (a : Removals) → has_float (spec.removal_written a) ≡ false
removal_none none (removed.Raw indices) = set_none none (codes "RAW") field.RawIndices (spec.indices_written indices) (indices_none none indices)
removal_none none (removed.Rice r) = set_none none (codes "RICE") field.RiceIndices (spec.rice_written r) (rice_none none r)

checksum_none : FloatAsValues → (digest : List ℕ) → has_float (spec.checksum_written digest) ≡ false
checksum_none none digest = none (checksum_parts digest) (bytes_none digest, tt)

update_none : FloatAsValues → (u : UpdatedList) → has_float (spec.update_written u) ≡ false
update_none none u =
    none (update_parts u) (
      list_none spec.addition_written (addition_none none) u.additions,
      (
        bytes_none u.base,
        (
          checksum_none none u.checksum,
          (bytes_none u.new_state, (refl, (list_none spec.removal_written (removal_none none) u.removals, (refl, (refl, (refl, tt)))))),
        ),
      ),
    )

pub response_has_none : FloatAsValues → (m : FetchResponse) → has_float (spec.response_written m) ≡ false
response_has_none none m = none (response_parts m) (list_none spec.update_written (update_none none) m.items, (duration_none m.wait, tt))

-- ---- the request

constraints_none : FloatAsValues → (a : AskedList) → members_have_float (spec.constraint_members a) ≡ false
constraints_none none a =
    none (constraint_parts a) (number_none a.max_database, (number_none a.max_update, (compressions_none a.raw a.rice, tt)))

asked_none : FloatAsValues → (a : AskedList) → has_float (spec.asked_written a) ≡ false
asked_none none a =
    none (asked_parts a)
    (bare_none (spec.constraint_members a) (constraints_none none a), (refl, (bytes_none a.state, (refl, (refl, tt)))))

client_none : FloatAsValues → (c : ClientInfo) → HasNoFloat (unless_bare (spec.client_members c))
client_none none c = bare_none (spec.client_members c) (none (client_parts c) (text_none c.id, (text_none c.version, tt)))

pub request_has_none : FloatAsValues → (m : Request) → has_float (spec.request_written m) ≡ false
request_has_none none m = none (request_parts m) (client_none none m.client, (list_none spec.asked_written (asked_none none) m.items, tt))
