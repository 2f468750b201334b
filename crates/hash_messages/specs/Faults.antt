-- The first fault of a JSON value that is no message: the faults of its rows, in the order in which
-- they are looked at.
use Rattle.std.specs.Prelude.{nat_le, if◌then◌else◌, List, [], ◌∷◌, Option, Some, Result, Ok, Err}
use Rattle.serde_json.specs.Data.{Data, Items}
use Rattle.sb_json.specs.Faults.{fault_in_item}
use Rattle.sb_json.specs.declared.faults.FieldFault.{FieldFault}
use Rattle.sb_json.specs.declared.faults.MessageFault.{MessageFault}
use Rattle.sb_json.specs.declared.faults.MessageFault.TheVariants.{TooManyItems}
use Rattle.sb_members.specs.Lists.{fault_of_row, first, fault_of_list, in_item, first_from, item_count}
use Rattle.sb_members.specs.Rows.{threat_row, platform_row, entry_row}
use Rattle.update_messages.specs.RequestRows.{root_row, client_row}
use Rattle.update_messages.specs.Faults.{faults_of_client}
use Rattle.hash_messages.specs.Messages.{most_prefixes}
use Rattle.hash_messages.specs.RequestRows as request
use Rattle.hash_messages.specs.ResponseRows as response
use Rattle.update_messages.specs.ResponseRows.{wait_row}

-- the fault of a row at a value
abbrev pub fault_by : {A : Type 0} → (Data → Result A FieldFault) → Data → Option FieldFault
fault_by row value = fault_of_row (row value)

-- the fault of a list, or the first fault of a row at its items
abbrev pub fault_of_each : {A : Type 0} → (Data → Result A FieldFault) → Result Items FieldFault → Option FieldFault
fault_of_each row items = fault_of_list (fault_by row) items

-- ---- the request

-- of the types that are asked for
abbrev pub faults_of_types : Data → List (Option FieldFault)
faults_of_types value =
    fault_of_each request.asked_threat_row (request.in_info request.threats_row value)
    ∷ fault_of_each request.asked_platform_row (request.in_info request.platforms_row value)
    ∷ fault_of_each request.asked_entry_row (request.in_info request.entries_row value) ∷ []

-- outside the items, which come after all of these
abbrev pub faults_outside_items : Data → List (Option FieldFault)
faults_outside_items value =
    fault_of_row (root_row value)
    ∷ first (faults_of_client (client_row value))
    ∷ fault_of_each request.asked_state_row (request.states_row value)
    ∷ faults_of_types value

-- the items, where there are no more than a request may have
abbrev pub fault_of_prefixes : Result Items FieldFault → Option MessageFault
fault_of_prefixes (Ok items) = if nat_le (item_count items) most_prefixes then first_from (fault_by request.prefix_row) 1 items else Some (TooManyItems (item_count items))
fault_of_prefixes (Err fault) = Some (fault_in_item fault 0)

abbrev pub faults_of_find_request : Data → List (Option MessageFault)
faults_of_find_request value =
    in_item 0 (first (faults_outside_items value))
    ∷ fault_of_prefixes (request.in_info request.prefixes_row value) ∷ []

abbrev pub fault_of_find_request : Data → Option MessageFault
fault_of_find_request value = first (faults_of_find_request value)

-- ---- the response

abbrev pub faults_of_match : Data → List (Option FieldFault)
faults_of_match value =
    fault_of_row (response.match_row value)
    ∷ fault_of_row (threat_row value)
    ∷ fault_of_row (platform_row value)
    ∷ fault_of_row (entry_row value)
    ∷ fault_of_row (response.hash_row value)
    ∷ fault_of_row (response.cache_row value) ∷ []

abbrev pub fault_of_match : Data → Option FieldFault
fault_of_match value = first (faults_of_match value)

abbrev pub fault_of_matches : Result Items FieldFault → Option MessageFault
fault_of_matches (Ok items) = first_from fault_of_match 1 items
fault_of_matches (Err fault) = Some (fault_in_item fault 0)

abbrev pub faults_of_find_response : Data → List (Option MessageFault)
faults_of_find_response value =
    in_item 0 (fault_of_row (root_row value))
    ∷ fault_of_matches (response.matches_row value)
    ∷ in_item 0 (fault_of_row (wait_row value))
    ∷ in_item 0 (fault_of_row (response.negative_row value)) ∷ []

abbrev pub fault_of_find_response : Data → Option MessageFault
fault_of_find_response value = first (faults_of_find_response value)
