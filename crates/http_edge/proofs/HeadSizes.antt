-- The front of a text in which a head stands, and how many fields it can have.
use Rattle.std.proofs.Common.{ℕ, ◌+◌, ◌*◌, ◌<◌, ◌≤◌, List, [], ◌∷◌, ◌++◌, length, take, ap, arith, length-append, lit<}
use Rattle.std.specs.Prelude.{All}
use Rattle.std.specs.List.{flat_map}
use Rattle.std.proofs.lemmas.List.{length-take}
use Rattle.std.proofs.lemmas.List.Elements.{All-head, All-tail}
use Rattle.httparse.specs.Grammar.{LineEnd, crlf, lf, print_end, Field, IsField, print_field, print_section, RequestHead, IsRequestHead, print_request, ResponseHead, IsResponseHead, print_response}
use Rattle.httparse.specs.Spans.{RequestExceeds, ResponseExceeds, SectionExceeds}

end_some : (end : LineEnd) → 0 < length (print_end end)
end_some crlf = lit< tt
end_some lf = lit< tt

field_size : (field : Field) → IsField field → 3 ≤ length (print_field field)
field_size field is =
    let name = is.name.0 in
    let end = end_some field.end in
    omega (arith, length-append (field.name ++ 58 ∷ field.raw) (print_end field.end), length-append field.name (58 ∷ field.raw))

-- a field takes three bytes at least
fields_size : (fields : List Field) → All IsField fields → 3 * length fields ≤ length (flat_map print_field fields)
fields_size [] each = omega arith
fields_size (field ∷ fields) each =
    let first = field_size field (All-head IsField field fields each) in
    let rest = fields_size fields (All-tail IsField field fields each) in
    omega (arith, length-append (print_field field) (flat_map print_field fields))

section_size : (fields : List Field) (last : LineEnd) → All IsField fields → 3 * length fields < length (print_section fields last)
section_size fields last each =
    let some = end_some last in
    let sizes = fields_size fields each in
    omega (arith, length-append (flat_map print_field fields) (print_end last))

last_part : (first last : List ℕ) → length last ≤ length (first ++ last)
last_part first last = omega (arith, length-append first last)

request_size : (head : RequestHead) → length (print_section head.fields head.last) ≤ length (print_request head)
unfolding print_request
request_size head = last_part _ (print_section head.fields head.last)

response_size : (head : ResponseHead) → length (print_section head.fields head.last) ≤ length (print_response head)
unfolding print_response
response_size head = last_part _ (print_section head.fields head.last)

pub request_some : (head : RequestHead) → IsRequestHead head → 0 < length (print_request head)
request_some head is =
    let size = section_size head.fields head.last is.fields in
    let whole = request_size head in
    omega arith

pub response_some : (head : ResponseHead) → IsResponseHead head → 0 < length (print_response head)
response_some head is =
    let size = section_size head.fields head.last is.fields in
    let whole = response_size head in
    omega arith

-- there is room for the fields of a head that is short enough
pub request_fits : (room : ℕ) (buffer : List ℕ) → length buffer ≤ 3 * room + 2 → RequestExceeds room buffer → ⊥
request_fits room buffer short (front, rest, parts, head, reads, more) =
    let size = section_size head.fields head.last reads.0.fields in
    let whole = request_size head in
    let printed = ap length reads.1 in
    omega (arith, length-append front rest, length-append front (10 ∷ []), length-append (print_request head) [], ap length parts, printed)

-- there is room for the fields of every head
pub response_fits : (buffer : List ℕ) → length buffer ≤ 16384 → ResponseExceeds 5461 buffer → ⊥
response_fits buffer short (front, rest, parts, head, reads, more) =
    let size = section_size head.fields head.last reads.0.fields in
    let whole = response_size head in
    let printed = ap length reads.1 in
    omega (arith, length-append front rest, length-append front (10 ∷ []), length-append (print_response head) [], ap length parts, printed)

pub section_fits : (buffer : List ℕ) → length buffer ≤ 16384 → SectionExceeds 5461 buffer → ⊥
section_fits buffer short (front, rest, parts, fields, reads, more) =
    let size = section_size fields lf reads.0 in
    let printed = ap length reads.1 in
    omega (arith, length-append front rest, length-append front (10 ∷ []), length-append (print_section fields lf) [], ap length parts, printed)

pub front_short : (text : List ℕ) → length (take 16384 text) ≤ 16384
front_short text = omega (arith, length-take 16384 text)
