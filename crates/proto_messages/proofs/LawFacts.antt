-- The facts of the laws of requests.
use Rattle.std.proofs.Common.{◌≡◌, ◌⊎◌, ℕ, Bool, true, false, List, [], ◌∷◌, filter, nat_eq, None, Result, Ok, Err, inl, inr, refl, sym, ap, ◌∙◌}
use Rattle.std.proofs.lemmas.Bool.{eqb-true}
use Rattle.proto_wire.specs.Wire.{WireValue, WireField}
use Rattle.proto_wire.specs.Reading.{WireReading, wire_fields}
use Rattle.sb_json.specs.Values.{◌>>=◌}
use Rattle.sb_json.specs.declared.fields.Field.TheVariants as field
use Rattle.std.specs.List.{flat_map}
use Rattle.sb_json.specs.declared.fields.Field.{Field}
use Rattle.proto_messages.specs.declared.fault.PartFault.{PartFault}
use Rattle.proto_messages.specs.declared.fault.ProtoFault.{ProtoFault}
use Rattle.proto_messages.specs.declared.fetch_request.NumberedFetch.{NumberedFetch}
use Rattle.proto_messages.specs.declared.find_request.NumberedFind.{NumberedFind}
use Rattle.proto_messages.specs.Fields.{field_values_at, whole, fields_of, fields_in, each, message_of, message_row}
use Rattle.proto_messages.specs.Rows.{in_numbered_item, client_message_row}
use Rattle.proto_messages.specs.Fetch.{asked_items_of, fetch_of}
use Rattle.proto_messages.specs.Find.{client_states_row, threat_info_row, types_of, outside_of, prefixes_in, with_prefixes, find_of}
use Rattle.proto_messages.specs.Reading.{is_fetch_field, is_find_field}

pub one : {A F : Type 0} (r : Result A F) (a b : A) → r ≡ Ok a → r ≡ Ok b → a ≡ b
one r a b p q = cc

pub both : {A F : Type 0} (r : Result A F) (a : A) (f : F) → r ≡ Ok a → r ≡ Err f → ⊥
both r a f p q = cc

pub either : {A F : Type 0} (r : Result A F) → ((a : A) × (r ≡ Ok a)) ⊎ ((f : F) × (r ≡ Err f))
either (Ok a) = inl (a, refl)
either (Err f) = inr (f, refl)

-- the values of a number that is known are among the fields that are known
pub known_values : (is_known : WireField → Bool) (number : ℕ) → ((f : WireField) → f.number ≡ number → is_known f ≡ true) → (fields : List WireField)
    → field_values_at number (filter is_known fields) ≡ field_values_at number fields
known_values is_known number known [] = refl
known_values is_known number known (f ∷ fields) =
    go (is_known f) refl (nat_eq f.number number) refl (known_values is_known number known fields) where
      go : (k : Bool) → is_known f ≡ k → (b : Bool) → nat_eq f.number number ≡ b → field_values_at number (filter is_known fields) ≡ field_values_at number fields
          → field_values_at number (filter is_known (f ∷ fields)) ≡ field_values_at number (f ∷ fields)
      go true k true b later = rw (k, b) (ap (λ (l : List WireValue). f.value ∷ l) later)
      go true k false b later = rw (k, b) later
      go false k false b later = rw (k, b) later
      go false k true b later = absurd (cc (known f (eqb-true f.number number b)))

-- ---- a request by its fields
whole_fields : (text : List ℕ) (fields : List WireField) → wire_fields text ≡ record { items = fields; fault = None } → fields_of field.Root text ≡ Ok fields
whole_fields text fields is = ap (λ (r : WireReading WireField). whole field.Root r.items r.fault) is

message_same : (name : Field) (number : ℕ) (fields others : List WireField) → field_values_at number fields ≡ field_values_at number others
    → message_row name number fields ≡ message_row name number others
unfolding message_row
message_same name number fields others is =
    ap (λ (values : List WireValue). each (message_of name) values >>= λ _. Ok (flat_map fields_in values)) is

fetch_by : List WireField → Result NumberedFetch ProtoFault
fetch_by fields = in_numbered_item 0 (client_message_row fields) >>= λ client. asked_items_of (field_values_at 3 fields) >>= λ items.
    Ok (record { request = record { client = client; items = items.lists }; threats = items.threats })

fetch_is : (text : List ℕ) (fields : List WireField) → fields_of field.Root text ≡ Ok fields → fetch_of text ≡ fetch_by fields
unfolding fetch_of fetch_by
fetch_is text fields is = ap (λ (r : Result (List WireField) PartFault). in_numbered_item 0 r >>= fetch_by) is

fetch_same : (fields others : List WireField) → field_values_at 1 fields ≡ field_values_at 1 others → field_values_at 3 fields ≡ field_values_at 3 others → fetch_by fields ≡ fetch_by others
unfolding fetch_by
fetch_same fields others one three = rw (message_same field.Client 1 fields others one, three) refl

same_values : (is_known : WireField → Bool) (number : ℕ) → ((f : WireField) → f.number ≡ number → is_known f ≡ true) → (fields others : List WireField)
    → filter is_known fields ≡ filter is_known others → field_values_at number fields ≡ field_values_at number others
same_values is_known number known fields others is =
    sym (known_values is_known number known fields) ∙ ap (field_values_at number) is ∙ known_values is_known number known others

fetch_known : (number : ℕ) → (number ≡ 1) ⊎ (number ≡ 3) → (f : WireField) → f.number ≡ number → is_fetch_field f ≡ true
fetch_known number (inl one) f is = rw (is ∙ one) refl
fetch_known number (inr three) f is = rw (is ∙ three) refl

pub fetch_others : (text other : List ℕ) (fields others : List WireField) → wire_fields text ≡ record { items = fields; fault = None }
    → wire_fields other ≡ record { items = others; fault = None } → filter is_fetch_field fields ≡ filter is_fetch_field others → fetch_of text ≡ fetch_of other
fetch_others text other fields others a b is =
    fetch_is text fields (whole_fields text fields a)
    ∙ fetch_same fields others (same_values is_fetch_field 1 (fetch_known 1 (inl refl)) fields others is) (same_values is_fetch_field 3 (fetch_known 3 (inr refl)) fields others is)
    ∙ sym (fetch_is other others (whole_fields other others b))

find_by : List WireField → Result NumberedFind ProtoFault
find_by fields = in_numbered_item 0 (client_message_row fields >>= λ client. client_states_row fields >>= λ states. threat_info_row fields >>= types_of >>= λ types.
    Ok (record { client = client; states = states; types = types })) >>= λ outside. prefixes_in fields >>= λ prefixes. Ok (with_prefixes outside prefixes)

find_is : (text : List ℕ) (fields : List WireField) → fields_of field.Root text ≡ Ok fields → find_of text ≡ find_by fields
unfolding find_of find_by outside_of
find_is text fields is = rw is refl

find_same : (fields others : List WireField) → field_values_at 1 fields ≡ field_values_at 1 others → field_values_at 2 fields ≡ field_values_at 2 others → field_values_at 3 fields ≡ field_values_at 3 others
    → find_by fields ≡ find_by others
unfolding find_by client_states_row prefixes_in
find_same fields others one two three = rw (message_same field.Client 1 fields others one, two, message_same field.ThreatInfo 3 fields others three) refl

find_known : (number : ℕ) → (number ≡ 1) ⊎ (number ≡ 2) ⊎ (number ≡ 3) → (f : WireField) → f.number ≡ number → is_find_field f ≡ true
find_known number (inl one) f is = rw (is ∙ one) refl
find_known number (inr (inl two)) f is = rw (is ∙ two) refl
find_known number (inr (inr three)) f is = rw (is ∙ three) refl

pub find_others : (text other : List ℕ) (fields others : List WireField) → wire_fields text ≡ record { items = fields; fault = None }
    → wire_fields other ≡ record { items = others; fault = None } → filter is_find_field fields ≡ filter is_find_field others → find_of text ≡ find_of other
find_others text other fields others a b is =
    find_is text fields (whole_fields text fields a)
    ∙ find_same fields others (same_values is_find_field 1 (find_known 1 (inl refl)) fields others is)
    (same_values is_find_field 2 (find_known 2 (inr (inl refl))) fields others is) (same_values is_find_field 3 (find_known 3 (inr (inr refl))) fields others is)
    ∙ sym (find_is other others (whole_fields other others b))
