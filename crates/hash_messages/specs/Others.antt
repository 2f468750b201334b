-- A find request, and the same request without what the server does not know.
use Rattle.std.specs.Prelude.{◌≡◌, Option, Result, Ok}
use Rattle.serde_json.specs.Data.{Data, Items}
use Rattle.sb_json.specs.Values.{◌>>=◌}
use Rattle.sb_json.specs.declared.faults.FieldFault.{FieldFault}
use Rattle.sb_members.specs.Somes.{without_nothing}
use Rattle.update_messages.specs.RequestRows.{root_row, client_row}
use Rattle.hash_messages.specs.RequestRows as request

-- These are the other items without those that a row reads as nothing.
abbrev pub IsWithoutNothing : {A : Type 0} → (Data → Result (Option A) FieldFault) → Result Items FieldFault → Result Items FieldFault → Type 0
IsWithoutNothing row items others = others ≡ (items >>= λ all. Ok (without_nothing row all))

-- The other value has the same client and prefixes; of the states all but those that are null, and of the types all but those that
-- are no names of the tables, in their order.
pub record IsFindWithoutOthers (value other : Data) : Type 0 where
  pub object : root_row other ≡ Ok other
  pub client : client_row other ≡ client_row value
  pub states : IsWithoutNothing request.asked_state_row (request.states_row value) (request.states_row other)
  pub threats : IsWithoutNothing request.asked_threat_row (request.in_info request.threats_row value) (request.in_info request.threats_row other)
  pub platforms : IsWithoutNothing request.asked_platform_row (request.in_info request.platforms_row value) (request.in_info request.platforms_row other)
  pub entries : IsWithoutNothing request.asked_entry_row (request.in_info request.entries_row value) (request.in_info request.entries_row other)
  pub prefixes : request.in_info request.prefixes_row other ≡ request.in_info request.prefixes_row value
