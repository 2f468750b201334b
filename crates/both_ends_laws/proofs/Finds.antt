-- What a find request has at most.
use Rattle.std.proofs.Common.{ℕ, ◌+◌, ◌*◌, List, [], ◌∷◌, length, Some, arith}
use Rattle.sb_json.specs.declared.fields.Field.TheVariants as field
use Rattle.sb_members.specs.Parts.{Parts}
use Rattle.sb_members.specs.Writing.{bytes_written, list_written, unless_bare}
use Rattle.update_messages.specs.Writing.{client_members}
use Rattle.hash_messages.specs.Messages.{AskedHashes}
use Rattle.hash_messages.specs.Writing as spec
use Rattle.both_ends_laws.specs.Limits.{HasFewOfEach}
use Rattle.both_ends_laws.proofs.Sparse.{IsSparse}
use Rattle.both_ends_laws.proofs.Costs.{Costs, string_costs, object_costs, cheaper, alike_cost, sparse}
use Rattle.both_ends_laws.proofs.Fields.{bytes_costs, client_costs}

abbrev prefix_parts : List ℕ → Parts
prefix_parts prefix = (field.Hash, bytes_written prefix) ∷ []

abbrev info_parts : AskedHashes → Parts
info_parts m =
    (field.PlatformTypes, list_written spec.platform_written m.platforms)
    ∷ (field.ThreatEntries, list_written spec.prefix_written m.prefixes)
    ∷ (field.ThreatEntryTypes, list_written spec.entry_written m.entries)
    ∷ (field.ThreatTypes, list_written spec.threat_written m.threats) ∷ []

abbrev find_parts : AskedHashes → Parts
find_parts m =
    (field.Client, unless_bare (client_members m.client))
    ∷ (field.ClientStates, list_written spec.state_written m.states)
    ∷ (field.ThreatInfo, Some (spec.info_written m)) ∷ []

prefix_costs : (prefix : List ℕ) → Costs 1 3 (spec.prefix_written prefix)
prefix_costs prefix = object_costs ((0, 0) ∷ []) (prefix_parts prefix) (bytes_costs prefix, tt)

info_costs : (m : AskedHashes) → HasFewOfEach m → Costs 1029 7181 (spec.info_written m)
info_costs m few =
    cheaper _ _ 1029 7181 (spec.info_written m) (omega (arith, few.prefixes)) (omega (arith, few.prefixes, few.platforms, few.entries, few.threats))
    (object_costs (
    (1 + 0 * length m.platforms, 1 + 1 * length m.platforms)
    ∷ (1 + 1 * length m.prefixes, 1 + 4 * length m.prefixes)
    ∷ (1 + 0 * length m.entries, 1 + 1 * length m.entries)
    ∷ (1 + 0 * length m.threats, 1 + 1 * length m.threats) ∷ []
    ) (info_parts m) (
      alike_cost spec.platform_written 0 0 (λ p. string_costs _) m.platforms,
      (
        alike_cost spec.prefix_written 1 3 prefix_costs m.prefixes,
        (
          alike_cost spec.entry_written 0 0 (λ e. string_costs _) m.entries,
          (alike_cost spec.threat_written 0 0 (λ t. string_costs _) m.threats, tt),
        ),
      ),
    ))

find_costs : (m : AskedHashes) → HasFewOfEach m → Costs 1032 8218 (spec.find_request_written m)
find_costs m few =
    cheaper _ _ 1032 8218 (spec.find_request_written m) (omega (arith, few.states)) (omega (arith, few.states))
    (object_costs ((1, 5) ∷ (1 + 0 * length m.states, 1 + 1 * length m.states) ∷ (1029, 7181) ∷ []) (find_parts m) (
      client_costs m.client,
      (alike_cost spec.state_written 0 0 (λ s. string_costs _) m.states, (info_costs m few, tt)),
    ))

pub finds_sparse : (m : AskedHashes) → HasFewOfEach m → IsSparse (spec.find_request_written m)
finds_sparse m few = sparse 1032 8218 (spec.find_request_written m) (find_costs m few) (omega arith) (omega arith)
