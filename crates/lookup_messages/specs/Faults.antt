-- The first fault of a JSON value that is no message: the faults of its rows, in the order in which they are looked at.
use Rattle.std.specs.Prelude.{nat_le, if◌then◌else◌, List, [], ◌∷◌, Option, Some, Result, Ok, Err}
use Rattle.serde_json.specs.Data.{Data, Items}
use Rattle.sb_json.specs.Faults.{fault_in_item}
use Rattle.sb_json.specs.declared.faults.FieldFault.{FieldFault}
use Rattle.sb_json.specs.declared.faults.MessageFault.{MessageFault}
use Rattle.sb_json.specs.declared.faults.MessageFault.TheVariants.{TooManyItems}
use Rattle.sb_members.specs.Lists.{fault_of_row, first, in_item, first_from, item_count}
use Rattle.sb_members.specs.Rows.{threat_row, platform_row, entry_row}
use Rattle.update_messages.specs.RequestRows.{root_row, client_row}
use Rattle.update_messages.specs.Faults.{faults_of_client}
use Rattle.hash_messages.specs.RequestRows.{in_info}
use Rattle.hash_messages.specs.ResponseRows.{matches_row, match_row, cache_row}
use Rattle.hash_messages.specs.Faults.{fault_by, faults_of_types}
use Rattle.lookup_messages.specs.Messages.{most_urls}
use Rattle.lookup_messages.specs.RequestRows as request
use Rattle.lookup_messages.specs.ResponseRows as response

-- ---- the request

-- outside the items, which come after all of these
abbrev pub lookup_faults_outside_items : Data → List (Option FieldFault)
lookup_faults_outside_items value =
    fault_of_row (root_row value)
    ∷ first (faults_of_client (client_row value))
    ∷ faults_of_types value

-- the items, if there are no more than a request may have
abbrev pub fault_of_urls : Result Items FieldFault → Option MessageFault
fault_of_urls (Ok items) = if nat_le (item_count items) most_urls then first_from (fault_by request.url_row) 1 items else Some (TooManyItems (item_count items))
fault_of_urls (Err fault) = Some (fault_in_item fault 0)

abbrev pub faults_of_lookup : Data → List (Option MessageFault)
faults_of_lookup value =
    in_item 0 (first (lookup_faults_outside_items value))
    ∷ fault_of_urls (in_info request.urls_row value) ∷ []

abbrev pub fault_of_lookup : Data → Option MessageFault
fault_of_lookup value = first (faults_of_lookup value)

-- ---- the response

abbrev pub faults_of_lookup_match : Data → List (Option FieldFault)
faults_of_lookup_match value =
    fault_of_row (match_row value)
    ∷ fault_of_row (threat_row value)
    ∷ fault_of_row (platform_row value)
    ∷ fault_of_row (entry_row value)
    ∷ fault_of_row (response.found_url_row value)
    ∷ fault_of_row (cache_row value) ∷ []

abbrev pub fault_of_lookup_match : Data → Option FieldFault
fault_of_lookup_match value = first (faults_of_lookup_match value)

abbrev pub fault_of_lookup_matches : Result Items FieldFault → Option MessageFault
fault_of_lookup_matches (Ok items) = first_from fault_of_lookup_match 1 items
fault_of_lookup_matches (Err fault) = Some (fault_in_item fault 0)

abbrev pub faults_of_lookup_response : Data → List (Option MessageFault)
faults_of_lookup_response value =
    in_item 0 (fault_of_row (root_row value))
    ∷ fault_of_lookup_matches (matches_row value) ∷ []

abbrev pub fault_of_lookup_response : Data → Option MessageFault
fault_of_lookup_response value = first (faults_of_lookup_response value)
