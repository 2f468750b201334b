-- What is read of the items of a fetch request, one after the other.
use Rattle.std.proofs.Common.{◌≡◌, ℕ, suc, ◌+◌, if◌then◌else◌, Bool, true, false, List, [], ◌∷◌, ◌++◌, length, Option, Some, None, Result, Ok, Err, is_some, refl, sym, ap, ◌∙◌, append_assoc, length-append, arith}
use Rattle.std.proofs.lemmas.List.{append-nil}
use Rattle.proto_wire.specs.Wire.{WireValue, WireField}
use Rattle.sb_json.specs.Values.{◌>>=◌}
use Rattle.sb_json.specs.declared.fields.Field.TheVariants as field
use Rattle.sb_model.specs.declared.names.ListName.{ListName}
use Rattle.update_messages.specs.Messages.{AskedList}
use Rattle.proto_messages.specs.declared.fault.PartFault.{PartFault}
use Rattle.proto_messages.specs.declared.fault.ProtoFault.{ProtoFault}
use Rattle.proto_messages.specs.declared.fetch_items.ItemName.{ItemName}
use Rattle.proto_messages.specs.declared.fetch_items.Constraints.{Constraints}
use Rattle.proto_messages.specs.declared.fetch_items.NumberedList.{NumberedList}
use Rattle.proto_messages.specs.declared.fetch_request.AskedLists.{AskedLists}
use Rattle.proto_messages.specs.Fields.{message_of, part_fault_in_item}
use Rattle.proto_messages.specs.Rows.{items_numbered_from, in_numbered_item, state_token_row}
use Rattle.proto_messages.specs.Fetch.{asked_of, item_of, item_name_of, constraints_message_row, list_asked, is_named, has_name, named_items_count, lists_of, threats_of, with_asked_item, more_asked}

-- ---- what is appended
lists_more : (lists : List AskedList) (item : Option NumberedList) (more : List (Option NumberedList))
    → lists ++ lists_of (item ∷ more) ≡ (lists ++ lists_of (item ∷ [])) ++ lists_of more
lists_more lists None more = ap (λ (l : List AskedList). l ++ lists_of more) (sym (append-nil lists))
lists_more lists (Some item) more = sym (append_assoc lists (item.list ∷ []) (lists_of more))

threats_more : (threats : List ℕ) (item : Option NumberedList) (more : List (Option NumberedList))
    → threats ++ threats_of (item ∷ more) ≡ (threats ++ threats_of (item ∷ [])) ++ threats_of more
threats_more threats None more = ap (λ (l : List ℕ). l ++ threats_of more) (sym (append-nil threats))
threats_more threats (Some item) more = sym (append_assoc threats (item.threat ∷ []) (threats_of more))

asked_more : (asked : AskedLists) (item : Option NumberedList) (more : List (Option NumberedList))
    → more_asked asked (item ∷ more) ≡ more_asked (with_asked_item asked item) more
asked_more asked item more = rw (lists_more asked.lists item more, threats_more asked.threats item more) refl

later_more : (asked : AskedLists) (item : Option NumberedList) (later : Result (List (Option NumberedList)) ProtoFault)
    → (later >>= λ more. Ok (item ∷ more)) >>= (λ all. Ok (more_asked asked all)) ≡ (later >>= λ more. Ok (more_asked (with_asked_item asked item) more))
later_more asked item (Ok more) = ap (λ (a : AskedLists). Ok a) (asked_more asked item more)
later_more asked item (Err fault) = refl

pub items_next : (asked : AskedLists) (item : Option NumberedList) (number : ℕ) (value : WireValue) (values : List WireValue) → asked_of value ≡ Ok item
    → (items_numbered_from asked_of number (value ∷ values) >>= λ more. Ok (more_asked asked more))
    ≡ (items_numbered_from asked_of (number + 1) values >>= λ more. Ok (more_asked (with_asked_item asked item) more))
items_next asked item number value values is =
    ap (λ (r : Result (Option NumberedList) PartFault).
    (in_numbered_item number r >>= λ a. items_numbered_from asked_of (number + 1) values >>= λ more. Ok (a ∷ more)) >>= λ more. Ok (more_asked asked more)) is
    ∙ later_more asked item (items_numbered_from asked_of (number + 1) values)

pub items_stop : (asked : AskedLists) (number : ℕ) (value : WireValue) (values : List WireValue) (fault : PartFault) → asked_of value ≡ Err fault
    → (items_numbered_from asked_of number (value ∷ values) >>= λ more. Ok (more_asked asked more)) ≡ Err (part_fault_in_item fault number)
items_stop asked number value values fault is =
    ap (λ (r : Result (Option NumberedList) PartFault).
    (in_numbered_item number r >>= λ a. items_numbered_from asked_of (number + 1) values >>= λ more. Ok (a ∷ more)) >>= λ more. Ok (more_asked asked more)) is

-- ---- whether an item has a name
name_kept : (item : ItemName) (name : Option ListName) (state : List ℕ) (constraints : Constraints) → item.name ≡ name
    → is_some (list_asked item state constraints) ≡ is_some name
name_kept item None state constraints is = rw is refl
name_kept item (Some name) state constraints is = rw is refl

named_after : (item : ItemName) (state : Result (List ℕ) PartFault) (constraints : Result Constraints PartFault) (found : Option NumberedList)
    → (state >>= λ s. constraints >>= λ k. Ok (list_asked item s k)) ≡ Ok found → is_some item.name ≡ is_some found
named_after item (Ok s) (Ok k) found is = let same : list_asked item s k ≡ found = cc in sym (name_kept item item.name s k refl) ∙ ap is_some same
named_after item (Ok s) (Err f) found is = absurd (cc)
named_after item (Err f) constraints found is = absurd (cc)

named_of : (name : Result ItemName PartFault) (state : Result (List ℕ) PartFault) (constraints : Result Constraints PartFault) (found : Option NumberedList)
    → (name >>= λ n. state >>= λ s. constraints >>= λ k. Ok (list_asked n s k)) ≡ Ok found → is_named name ≡ is_some found
named_of (Ok item) state constraints found is = named_after item state constraints found is
named_of (Err f) state constraints found is = absurd (cc)

named_in : (fields : Result (List WireField) PartFault) (found : Option NumberedList) → (fields >>= item_of) ≡ Ok found
    → is_named (fields >>= item_name_of) ≡ is_some found
unfolding item_of
named_in (Ok fields) found is = named_of (item_name_of fields) (state_token_row field.State 3 fields) (constraints_message_row fields) found is
named_in (Err f) found is = absurd (cc)

lists_count : (lists : List AskedList) (item : Option NumberedList) (named : Bool) → named ≡ is_some item
    → (count : ℕ) → length (lists ++ lists_of (item ∷ [])) + count ≡ length lists + (if named then suc count else count)
lists_count lists None true is count = absurd (cc)
lists_count lists None false is count = omega (arith, length-append lists [])
lists_count lists (Some item) true is count = omega (arith, length-append lists (item.list ∷ []))
lists_count lists (Some item) false is count = absurd (cc)

count_with : (value : WireValue) (values : List WireValue) (named : Bool) → has_name value ≡ named
    → named_items_count (value ∷ values) ≡ (if named then suc (named_items_count values) else named_items_count values)
count_with value values true is = rw is refl
count_with value values false is = rw is refl

pub count_next : (asked : AskedLists) (item : Option NumberedList) (value : WireValue) (values : List WireValue) → asked_of value ≡ Ok item
    → length (with_asked_item asked item).lists + named_items_count values ≡ length asked.lists + named_items_count (value ∷ values)
count_next asked item value values is =
    lists_count asked.lists item (has_name value) (named_in (message_of field.ListUpdateRequests value) item is) (named_items_count values)
    ∙ ap (λ (n : ℕ). length asked.lists + n) (sym (count_with value values (has_name value) refl))
