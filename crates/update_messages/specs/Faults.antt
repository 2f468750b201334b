-- The first fault of a JSON value that is no message: the faults of its rows, in the order in which they are looked at.
use Rattle.std.specs.Prelude.{ℕ, nat_le, if◌then◌else◌, List, [], ◌∷◌, Option, Some, Result, Ok, Err}
use Rattle.serde_json.specs.Data.{Data, Items}
use Rattle.sb_json.specs.Values.{◌>>=◌}
use Rattle.sb_json.specs.Faults.{fault_in_item}
use Rattle.sb_json.specs.declared.faults.FieldFault.{FieldFault}
use Rattle.sb_json.specs.declared.faults.MessageFault.{MessageFault}
use Rattle.sb_json.specs.declared.faults.MessageFault.TheVariants.{TooManyItems}
use Rattle.sb_members.specs.Rows.{threat_row, platform_row, entry_row}
use Rattle.sb_members.specs.Lists.{fault_of_row, first, fault_of_list, in_item, first_from}
use Rattle.sb_members.specs.Somes.{something_count}
use Rattle.update_messages.specs.declared.sets.Compression.{Compression}
use Rattle.update_messages.specs.declared.sets.Compression.TheVariants as compression
use Rattle.update_messages.specs.Messages.{most_items}
use Rattle.update_messages.specs.RequestRows as request
use Rattle.update_messages.specs.ResponseRows as response

-- ---- the response

abbrev pub faults_of_rice : Result Data FieldFault → List (Option FieldFault)
faults_of_rice holder =
    fault_of_row (holder >>= response.first_value_row)
    ∷ fault_of_row (holder >>= response.rice_parameter_row)
    ∷ fault_of_row (holder >>= response.entry_count_row)
    ∷ fault_of_row (holder >>= response.encoded_row) ∷ []

abbrev pub faults_of_raw_hashes : Result Data FieldFault → List (Option FieldFault)
faults_of_raw_hashes holder =
    fault_of_row (holder >>= response.prefix_size_row)
    ∷ fault_of_row (holder >>= response.prefix_size_row >>= λ size. holder >>= response.raw_bytes_row size) ∷ []

-- what is looked at in a set goes by its compression
abbrev pub faults_of_hashes : Data → Result Compression FieldFault → List (Option FieldFault)
faults_of_hashes set (Ok compression.Raw) = faults_of_raw_hashes (response.raw_hashes_row set)
faults_of_hashes set (Ok compression.Rice) = faults_of_rice (response.rice_hashes_row set)
faults_of_hashes set (Err fault) = []

abbrev pub fault_of_index : Data → Option FieldFault
fault_of_index value = fault_of_row (response.index_row value)

abbrev pub faults_of_indices : Data → Result Compression FieldFault → List (Option FieldFault)
faults_of_indices set (Ok compression.Raw) = fault_of_list fault_of_index (response.raw_indices_row set >>= response.indices_row) ∷ []
faults_of_indices set (Ok compression.Rice) = faults_of_rice (response.rice_indices_row set)
faults_of_indices set (Err fault) = []

abbrev pub faults_of_addition : Data → List (Option FieldFault)
faults_of_addition set =
    fault_of_row (response.addition_row set)
    ∷ fault_of_row (response.compression_row set)
    ∷ faults_of_hashes set (response.compression_row set)

abbrev pub fault_of_addition : Data → Option FieldFault
fault_of_addition set = first (faults_of_addition set)

abbrev pub faults_of_removal : Data → List (Option FieldFault)
faults_of_removal set =
    fault_of_row (response.removal_row set)
    ∷ fault_of_row (response.compression_row set)
    ∷ faults_of_indices set (response.compression_row set)

abbrev pub fault_of_removal : Data → Option FieldFault
fault_of_removal set = first (faults_of_removal set)

abbrev pub faults_of_update : Data → List (Option FieldFault)
faults_of_update value =
    fault_of_row (response.update_row value)
    ∷ fault_of_row (threat_row value)
    ∷ fault_of_row (platform_row value)
    ∷ fault_of_row (entry_row value)
    ∷ fault_of_row (response.response_type_row value)
    ∷ fault_of_list fault_of_addition (response.additions_row value)
    ∷ fault_of_list fault_of_removal (response.removals_row value)
    ∷ fault_of_row (response.new_state_row value)
    ∷ fault_of_row (response.base_state_row value)
    ∷ fault_of_row (response.digest_row value) ∷ []

abbrev pub fault_of_update : Data → Option FieldFault
fault_of_update value = first (faults_of_update value)

-- ---- the request

abbrev pub fault_of_name : Data → Option FieldFault
fault_of_name value = fault_of_row (request.compression_name_row value)

abbrev pub faults_of_constraints : Data → List (Option FieldFault)
faults_of_constraints value =
    fault_of_row (request.in_constraints request.max_update_row value)
    ∷ fault_of_row (request.in_constraints request.max_database_row value)
    ∷ fault_of_list fault_of_name (request.in_constraints request.compressions_row value) ∷ []

abbrev pub faults_of_asked : Data → List (Option FieldFault)
faults_of_asked value =
    fault_of_row (request.request_row value)
    ∷ fault_of_row (request.asked_name_row value)
    ∷ fault_of_row (request.state_row value)
    ∷ faults_of_constraints value

abbrev pub fault_of_asked : Data → Option FieldFault
fault_of_asked value = first (faults_of_asked value)

abbrev pub faults_of_client : Result Data FieldFault → List (Option FieldFault)
faults_of_client holder = fault_of_row (holder >>= request.client_id_row) ∷ fault_of_row (holder >>= request.client_version_row) ∷ []

-- ---- the messages

-- how many items have the name of a list
abbrev pub named_count : Items → ℕ
named_count items = something_count request.asked_name_row items

-- the items, where no more of them have names than a request may have
abbrev pub fault_of_requests : Result Items FieldFault → Option MessageFault
fault_of_requests (Ok items) = if nat_le (named_count items) most_items then first_from fault_of_asked 1 items else Some (TooManyItems (named_count items))
fault_of_requests (Err fault) = Some (fault_in_item fault 0)

abbrev pub fault_of_updates : Result Items FieldFault → Option MessageFault
fault_of_updates (Ok items) = first_from fault_of_update 1 items
fault_of_updates (Err fault) = Some (fault_in_item fault 0)

abbrev pub faults_of_request : Data → List (Option MessageFault)
faults_of_request value =
    in_item 0 (fault_of_row (request.root_row value))
    ∷ in_item 0 (first (faults_of_client (request.client_row value)))
    ∷ fault_of_requests (request.requests_row value) ∷ []

abbrev pub fault_of_request : Data → Option MessageFault
fault_of_request value = first (faults_of_request value)

abbrev pub faults_of_response : Data → List (Option MessageFault)
faults_of_response value =
    in_item 0 (fault_of_row (request.root_row value))
    ∷ fault_of_updates (response.updates_row value)
    ∷ in_item 0 (fault_of_row (response.wait_row value)) ∷ []

abbrev pub fault_of_response : Data → Option MessageFault
fault_of_response value = first (faults_of_response value)

-- The first fault of a text by its value, or by why it has none: that it is too dense or not JSON comes before every other.
abbrev pub fault_of_text : (Data → Option MessageFault) → Result Data MessageFault → Option MessageFault
fault_of_text fault (Err why) = Some why
fault_of_text fault (Ok value) = fault value
