-- What the fetch messages have at most.
use Rattle.std.proofs.Common.{◌+◌, ◌*◌, ◌≤◌, Bool, true, false, [], ◌∷◌, length, Some, refl, arith}
use Rattle.serde_json.specs.Data.{string, object}
use Rattle.sb_json.specs.declared.fields.Field.TheVariants as field
use Rattle.sb_model.specs.Names.{threat_word, platform_word, entry_word}
use Rattle.sb_members.specs.Parts.{Parts}
use Rattle.sb_members.specs.Writing.{bytes_written, number_written, list_written, unless_bare}
use Rattle.update_messages.specs.Messages.{AskedList, Request}
use Rattle.update_messages.specs.Writing as spec
use Rattle.both_ends_laws.proofs.Sparse.{IsSparse}
use Rattle.both_ends_laws.proofs.Costs.{Costs, string_costs, MayCost, object_costs, cheaper, alike_cost, sparse}
use Rattle.both_ends_laws.proofs.Fields.{bytes_costs, number_costs, bare_costs, client_costs}

abbrev constraint_parts : AskedList → Parts
constraint_parts a =
    (field.MaxDatabaseEntries, number_written a.max_database)
    ∷ (field.MaxUpdateEntries, number_written a.max_update)
    ∷ (field.SupportedCompressions, spec.compressions_written a.raw a.rice) ∷ []

abbrev asked_parts : AskedList → Parts
asked_parts a =
    (field.Constraints, unless_bare (spec.constraint_members a))
    ∷ (field.PlatformType, Some (string (platform_word a.name.platform)))
    ∷ (field.State, bytes_written a.state)
    ∷ (field.ThreatEntryType, Some (string (entry_word a.name.entry)))
    ∷ (field.ThreatType, Some (string (threat_word a.name.threat))) ∷ []

abbrev request_parts : Request → Parts
request_parts m = (field.Client, unless_bare (spec.client_members m.client)) ∷ (field.ListUpdateRequests, list_written spec.asked_written m.items) ∷ []

words_cost : (raw rice : Bool) → MayCost 1 3 (spec.compressions_written raw rice)
words_cost true true = record { opens = omega arith; has = omega arith; whole = refl }
words_cost true false = record { opens = omega arith; has = omega arith; whole = refl }
words_cost false true = record { opens = omega arith; has = omega arith; whole = refl }
words_cost false false = tt

constraints_cost : (a : AskedList) → Costs 2 10 (object (spec.constraint_members a))
constraints_cost a =
    object_costs ((0, 0) ∷ (0, 0) ∷ (1, 3) ∷ []) (constraint_parts a)
    (number_costs a.max_database, (number_costs a.max_update, (words_cost a.raw a.rice, tt)))

asked_costs : (a : AskedList) → Costs 3 21 (spec.asked_written a)
asked_costs a =
    object_costs ((2, 10) ∷ (0, 0) ∷ (0, 0) ∷ (0, 0) ∷ (0, 0) ∷ []) (asked_parts a)
    (bare_costs 2 10 (spec.constraint_members a) (constraints_cost a), (string_costs _, (bytes_costs a.state, (string_costs _, (string_costs _, tt)))))

request_costs : (m : Request) → Costs (3 + 3 * length m.items) (11 + 22 * length m.items) (spec.request_written m)
request_costs m =
    cheaper _ _ _ _ (spec.request_written m) (omega arith) (omega arith)
    (object_costs ((1, 5) ∷ (1 + 3 * length m.items, 1 + 22 * length m.items) ∷ []) (request_parts m)
    (client_costs m.client, (alike_cost spec.asked_written 3 21 asked_costs m.items, tt)))

pub requests_sparse : (m : Request) → length m.items ≤ 1024 → IsSparse (spec.request_written m)
requests_sparse m few =
    sparse (3 + 3 * length m.items) (11 + 22 * length m.items) (spec.request_written m) (request_costs m)
    (omega (arith, few)) (omega (arith, few))
