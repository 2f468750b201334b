-- Facts about what is written, piece by piece.
use Rattle.std.proofs.Common.{◌≡◌, ℕ, ◌+◌, ◌/◌, ◌%◌, Bool, true, false, nat_eq, List, [], ◌∷◌, ◌++◌, length, refl, sym, ap, ◌∙◌, append_assoc, length-append, arith}
use Rattle.std.proofs.lemmas.Bool.{eqb-true}
use Rattle.std.proofs.lemmas.List.{append-nil}
use Rattle.proto_wire.specs.Wire.{WireField, number_field, bytes_field}
use Rattle.proto_wire.specs.Spelling.{shortest_varint, written_key, written_opening, written_field, written_fields}
use Rattle.proto_messages.specs.Writing.{message_field, number_unless_zero, bytes_unless_none, duration_fields, duration_field, raw_fields, packed_varint_bytes, indices_fields}

pub with_nothing : (out : List ℕ) → out ≡ out ++ []
with_nothing out = sym (append-nil out)

pub with_one : (out : List ℕ) (field : WireField) → out ++ written_field field ≡ out ++ written_fields (field ∷ [])
with_one out field = ap (λ (l : List ℕ). out ++ l) (sym (append-nil (written_field field)))

pub length_of_one : (field : WireField) → length (written_field field) ≡ length (written_fields (field ∷ []))
length_of_one field = ap length (sym (append-nil (written_field field)))

-- fields that are written after others
pub written_both : (fields more : List WireField) → written_fields (fields ++ more) ≡ written_fields fields ++ written_fields more
written_both [] more = refl
written_both (field ∷ fields) more =
    ap (λ (l : List ℕ). written_field field ++ l) (written_both fields more)
    ∙ sym (append_assoc (written_field field) (written_fields fields) (written_fields more))

pub length_of_both : (fields more : List WireField) → length (written_fields (fields ++ more)) ≡ length (written_fields fields) + length (written_fields more)
length_of_both fields more = ap length (written_both fields more) ∙ length-append (written_fields fields) (written_fields more)

-- the opening of a field, and then its bytes
pub opened : (out : List ℕ) (field count : ℕ) (body : List ℕ) → count ≡ length body
    → (out ++ written_opening field count) ++ body ≡ out ++ written_field (bytes_field field body)
unfolding written_field
opened out field count body is =
    ap (λ (n : ℕ). (out ++ written_opening field n) ++ body) is
    ∙ append_assoc out (written_key field 2 ++ shortest_varint (length body)) body
    ∙ ap (λ (l : List ℕ). out ++ l) (append_assoc (written_key field 2) (shortest_varint (length body)) body)

-- how many bytes fields take, the first one and those after it
pub length_of_more : (field : WireField) (fields : List WireField)
    → length (written_fields (field ∷ fields)) ≡ length (written_field field) + length (written_fields fields)
length_of_more field fields = length-append (written_field field) (written_fields fields)

pub length_of_field : (field : ℕ) (body : List ℕ) → length (written_field (bytes_field field body)) ≡ length (written_opening field (length body)) + length body
length_of_field field body = sym (ap length (opened [] field (length body) body refl)) ∙ length-append (written_opening field (length body)) body

-- ---- durations
nothing_if : (field nanos : ℕ) → nanos ≡ 0 → written_fields (duration_field field nanos) ≡ []
nothing_if field nanos is = rw is refl

pub nothing_if_zero : (out : List ℕ) (field nanos : ℕ) → nanos / 1000000000 ≡ 0 → nanos % 1000000000 ≡ 0
    → out ≡ out ++ written_fields (duration_field field nanos)
nothing_if_zero out field nanos seconds more =
    let zero : nanos ≡ 0 = omega arith in
    sym (append-nil out) ∙ ap (λ (l : List ℕ). out ++ l) (sym (nothing_if field nanos zero))

duration_is : (field nanos : ℕ) (b : Bool) → nat_eq nanos 0 ≡ b → (nanos ≡ 0 → ⊥)
    → written_field (message_field field (duration_fields nanos)) ≡ written_fields (duration_field field nanos)
duration_is field nanos true is some = absurd (some (eqb-true nanos 0 is))
duration_is field nanos false is some = rw is (sym (append-nil (written_field (message_field field (duration_fields nanos)))))

pub duration_written : (out : List ℕ) (field nanos count : ℕ) → (nanos ≡ 0 → ⊥) → count ≡ length (written_fields (duration_fields nanos))
    → ((out ++ written_opening field count) ++ written_fields (number_unless_zero 1 (nanos / 1000000000))) ++ written_fields (number_unless_zero 2 (nanos % 1000000000))
    ≡ out ++ written_fields (duration_field field nanos)
duration_written out field nanos count some is =
    append_assoc (out ++ written_opening field count) (written_fields (number_unless_zero 1 (nanos / 1000000000))) (written_fields (number_unless_zero 2 (nanos % 1000000000)))
    ∙ ap (λ (l : List ℕ). (out ++ written_opening field count) ++ l)
    (sym (written_both (number_unless_zero 1 (nanos / 1000000000)) (number_unless_zero 2 (nanos % 1000000000))))
    ∙ opened out field count (written_fields (duration_fields nanos)) is
    ∙ ap (λ (l : List ℕ). out ++ l) (duration_is field nanos (nat_eq nanos 0) refl some)

-- ---- a message whose only field is bytes
pub wrapped : (out : List ℕ) (outer inner count : ℕ) (bytes : List ℕ) → count ≡ length (written_opening inner (length bytes)) + length bytes
    → (out ++ written_opening outer count) ++ written_field (bytes_field inner bytes) ≡ out ++ written_field (message_field outer (bytes_field inner bytes ∷ []))
wrapped out outer inner count bytes is =
    ap (λ (l : List ℕ). (out ++ written_opening outer count) ++ l) (sym (append-nil (written_field (bytes_field inner bytes))))
    ∙ opened out outer count (written_fields (bytes_field inner bytes ∷ [])) (is ∙ sym (length_of_field inner bytes) ∙ length_of_one (bytes_field inner bytes))

-- ---- fields that are written one after the other
pub matches_more : (out body later : List ℕ) → (out ++ body) ++ later ≡ out ++ (body ++ later)
matches_more out body later = append_assoc out body later

pub length_of_packed : (number : ℕ) (numbers : List ℕ) → length (packed_varint_bytes (number ∷ numbers)) ≡ length (shortest_varint number) + length (packed_varint_bytes numbers)
length_of_packed number numbers = length-append (shortest_varint number) (packed_varint_bytes numbers)

pub two_fields : (out : List ℕ) (a b : WireField) → (out ++ written_field a) ++ written_field b ≡ out ++ written_fields (a ∷ b ∷ [])
two_fields out a b = append_assoc out (written_field a) (written_field b) ∙ ap (λ (l : List ℕ). out ++ (written_field a ++ l)) (sym (append-nil (written_field b)))

pub four_fields : (out : List ℕ) (a b c d : WireField)
    → (((out ++ written_field a) ++ written_field b) ++ written_field c) ++ written_field d ≡ out ++ written_fields (a ∷ b ∷ c ∷ d ∷ [])
four_fields out a b c d =
    two_fields ((out ++ written_field a) ++ written_field b) c d
    ∙ append_assoc (out ++ written_field a) (written_field b) (written_fields (c ∷ d ∷ []))
    ∙ append_assoc out (written_field a) (written_field b ++ written_fields (c ∷ d ∷ []))

-- a message of four fields, of two or of one
pub rice_written : (out : List ℕ) (field count : ℕ) (a b c d : WireField) → count ≡ length (written_fields (a ∷ b ∷ c ∷ d ∷ []))
    → ((((out ++ written_opening field count) ++ written_field a) ++ written_field b) ++ written_field c) ++ written_field d
    ≡ out ++ written_field (message_field field (a ∷ b ∷ c ∷ d ∷ []))
rice_written out field count a b c d is = four_fields (out ++ written_opening field count) a b c d ∙ opened out field count (written_fields (a ∷ b ∷ c ∷ d ∷ [])) is

pub set_written : (out : List ℕ) (field count : ℕ) (a b : WireField) → count ≡ length (written_fields (a ∷ b ∷ []))
    → ((out ++ written_opening field count) ++ written_field a) ++ written_field b ≡ out ++ written_field (message_field field (a ∷ b ∷ []))
set_written out field count a b is = two_fields (out ++ written_opening field count) a b ∙ opened out field count (written_fields (a ∷ b ∷ [])) is

pub raw_alone : (out : List ℕ) (field count : ℕ) (a : WireField) → count ≡ length (written_fields (a ∷ []))
    → (out ++ written_opening field count) ++ written_field a ≡ out ++ written_field (message_field field (a ∷ []))
raw_alone out field count a is =
    with_one (out ++ written_opening field count) a ∙ opened out field count (written_fields (a ∷ [])) is

some_written : (field : ℕ) (bytes : List ℕ) → (bytes ≡ [] → ⊥) → bytes_field field bytes ∷ [] ≡ bytes_unless_none field bytes
some_written field [] some = absurd (some refl)
some_written field (byte ∷ bytes) some = refl

pub raw_written : (out : List ℕ) (field count size : ℕ) (bytes : List ℕ) → (bytes ≡ [] → ⊥) → count ≡ length (written_fields (raw_fields size bytes))
    → ((out ++ written_opening field count) ++ written_field (number_field 1 size)) ++ written_field (bytes_field 2 bytes)
    ≡ out ++ written_field (message_field field (raw_fields size bytes))
raw_written out field count size bytes some is =
    two_fields (out ++ written_opening field count) (number_field 1 size) (bytes_field 2 bytes)
    ∙ ap (λ (l : List WireField). (out ++ written_opening field count) ++ written_fields (number_field 1 size ∷ l)) (some_written 2 bytes some)
    ∙ opened out field count (written_fields (raw_fields size bytes)) is

pub indices_written : (out : List ℕ) (field size count : ℕ) (indices : List ℕ) → count ≡ length (packed_varint_bytes indices)
    → size ≡ length (written_fields (indices_fields indices))
    → ((out ++ written_opening field size) ++ written_opening 1 count) ++ packed_varint_bytes indices ≡ out ++ written_field (message_field field (indices_fields indices))
indices_written out field size count indices is all =
    opened (out ++ written_opening field size) 1 count (packed_varint_bytes indices) is ∙ raw_alone out field size (bytes_field 1 (packed_varint_bytes indices)) all

-- the three parts of an update
pub update_written : (out : List ℕ) (count : ℕ) (kinds additions removals end : List WireField) → count ≡ length (written_fields (kinds ++ ((additions ++ removals) ++ end)))
    → ((((out ++ written_opening 1 count) ++ written_fields kinds) ++ written_fields additions) ++ written_fields removals) ++ written_fields end
    ≡ out ++ written_field (message_field 1 (kinds ++ ((additions ++ removals) ++ end)))
update_written out count kinds additions removals end is =
    let open_ = out ++ written_opening 1 count in
    ap (λ (l : List ℕ). l ++ written_fields end) (append_assoc (open_ ++ written_fields kinds) (written_fields additions) (written_fields removals))
    ∙ ap (λ (l : List ℕ). ((open_ ++ written_fields kinds) ++ l) ++ written_fields end) (sym (written_both additions removals))
    ∙ append_assoc (open_ ++ written_fields kinds) (written_fields (additions ++ removals)) (written_fields end)
    ∙ ap (λ (l : List ℕ). (open_ ++ written_fields kinds) ++ l) (sym (written_both (additions ++ removals) end))
    ∙ append_assoc open_ (written_fields kinds) (written_fields ((additions ++ removals) ++ end))
    ∙ ap (λ (l : List ℕ). open_ ++ l) (sym (written_both kinds ((additions ++ removals) ++ end)))
    ∙ opened out 1 count (written_fields (kinds ++ ((additions ++ removals) ++ end))) is

-- ---- how many bytes messages take
pub alone_length : (field count : ℕ) (body : List ℕ) → count ≡ length body
    → length (written_fields (bytes_field field body ∷ [])) ≡ length (written_opening field count) + count
alone_length field count body is = sym (length_of_one (bytes_field field body)) ∙ length_of_field field body ∙ ap (λ (n : ℕ). length (written_opening field n) + n) (sym is)

pub one_length : (a : WireField) (field count : ℕ) (body : List ℕ) → count ≡ length body
    → length (written_fields (a ∷ bytes_field field body ∷ [])) ≡ length (written_field a) + (length (written_opening field count) + count)
one_length a field count body is =
    length_of_more a (bytes_field field body ∷ []) ∙ ap (λ (n : ℕ). length (written_field a) + n) (alone_length field count body is)

pub rice_length : (a b c : WireField) (field : ℕ) (body : List ℕ)
    → length (written_fields (a ∷ b ∷ c ∷ bytes_field field body ∷ []))
    ≡ ((length (written_field a) + length (written_field b)) + length (written_field c)) + (length (written_opening field (length body)) + length body)
rice_length a b c field body =
    omega (arith, length_of_more a (b ∷ c ∷ bytes_field field body ∷ []), length_of_more b (c ∷ bytes_field field body ∷ []), one_length c field (length body) body refl)

pub raw_length_none : (size : ℕ) (bytes : List ℕ) → bytes ≡ [] → length (written_fields (raw_fields size bytes)) ≡ length (written_field (number_field 1 size))
raw_length_none size bytes is = rw is (sym (length_of_one (number_field 1 size)))

pub raw_length_some : (size : ℕ) (bytes : List ℕ) → (bytes ≡ [] → ⊥)
    → length (written_fields (raw_fields size bytes)) ≡ length (written_field (number_field 1 size)) + (length (written_opening 2 (length bytes)) + length bytes)
raw_length_some size bytes some =
    ap (λ (l : List WireField). length (written_fields (number_field 1 size ∷ l))) (sym (some_written 2 bytes some))
    ∙ one_length (number_field 1 size) 2 (length bytes) bytes refl

pub end_length : (state checksum : List ℕ) (digest : ℕ) → digest ≡ length (written_opening 1 (length checksum)) + length checksum
    → length (written_fields (bytes_field 7 state ∷ message_field 8 (bytes_field 1 checksum ∷ []) ∷ []))
    ≡ (length (written_opening 7 (length state)) + length state) + (length (written_opening 8 digest) + digest)
end_length state checksum digest is =
    one_length (bytes_field 7 state) 8 digest (written_fields (bytes_field 1 checksum ∷ [])) (is ∙ sym (alone_length 1 (length checksum) checksum refl))
    ∙ ap (λ (n : ℕ). n + (length (written_opening 8 digest) + digest)) (length_of_field 7 state)
