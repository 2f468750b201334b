-- The response of the status 200 of a body, as a server writes it, is read with that body.
use Rattle.std.proofs.Common.{◌≡◌, ℕ, ◌+◌, ◌-◌, ◌*◌, ◌/◌, ◌%◌, ◌^◌, ◌<◌, ◌≤◌, List, [], ◌∷◌, ◌++◌, length, map, reverse, replicate, take, zero, suc, cond, Bool, true, false, Some, refl, sym, ap, ◌∙◌, subst, arith, inl, inr, append_assoc, length-append, lit<}
use Rattle.std.specs.Prelude.{Ok, IsTrue, ◌==◌, ◌&&◌, nat_lt, not, All, codes, decimal, slice_index}
use Rattle.std.specs.List.{flat_map, list_all}
use Rattle.std.specs.Char.{is_ascii_digit}
use Rattle.std.specs.Str.Parse.{digits_value, AllDigits}
use Rattle.std.proofs.lemmas.Bool.{cases_lt}
use Rattle.std.proofs.lemmas.Bool.Decides.{nat_tests}
use Rattle.std.proofs.lemmas.Nat.{mod_below}
use Rattle.std.proofs.lemmas.Fmt.{decimal_is_IsNumeral, length-decimal-le}
use Rattle.std.proofs.lemmas.List.{append-nil, reverse-reverse, length-reverse, get_or-reverse, get_or_past, length-replicate, take-append-le, take_all}
use Rattle.std.proofs.lemmas.List.Splits.{slice_split_none}
use Rattle.std.proofs.lemmas.List.Sums.{AllPass-from_list_all}
use Rattle.std.proofs.lemmas.List.Elements.{All-nil, All-cons, All-append, All-head, All-tail, All-weaker, All-replicate}
use Rattle.std.specs.Int.{byte_at, bytes_high_first}
use Rattle.std.proofs.lemmas.Str.Parse.{digit_from_value}
use Rattle.base64.specs.Engines.{standard}
use Rattle.base64.specs.GeneralPurpose.{encode_of, IsBytes}
use Rattle.base64.specs.Rfc4648.{encode_symbols, encode_group, padding_len}
use Rattle.base64.proofs.RoundTrip.{length-encode_symbols}
use Rattle.sha2.specs.Sha256.{sha256, digest_bytes}
use Rattle.sha2.proofs.Facts256.{length-sha256}
use Rattle.httparse.specs.Ascii.{crlf_bytes}
use Rattle.httparse.specs.Grammar.{crlf, is_token_byte, is_value_byte, is_ows, skip_ows, trim_ows, Field, IsField, print_field, ResponseHead, IsResponseHead, print_response}
use Rattle.httparse.proofs.GrammarLemmas.{print_response-append}
use Rattle.http_edge.specs.Fields.{capped, is_number, number_said, length_in, length_said, encodings_said, field_values_of}
use Rattle.http_edge.specs.Digests.{members_in, digest_members, IsNoDigest, IsDigestGiven}
use Rattle.http_edge.specs.Responses.{line, digest_text, media_text, response_text}
use Rattle.http_edge.specs.Outcomes.{framing_in, framing_of, HasBody, BytesOutcome}
use Rattle.http_edge.specs.declared.fields.BodyLength.TheVariants.{Said, Malformed}
use Rattle.http_edge.specs.declared.fields.Framing.{Framing}
use Rattle.http_edge.specs.declared.fields.Framing.TheVariants.{ByLength}
use Rattle.http_edge.specs.declared.messages.Status.TheVariants.{Success}
use Rattle.http_edge.specs.declared.messages.MediaType.{MediaType}
use Rattle.http_edge.specs.declared.messages.MediaType.TheVariants.{Json, Protobuf}
use Rattle.http_edge.specs.declared.messages.ResponseFields.{ResponseFields}

-- ---- plain values: bytes that are visible, and no comma

abbrev is_plain : ℕ → Bool
is_plain b = nat_lt 32 b && (not (b == 127) && not (b == 44))

abbrev IsPlain : ℕ → Type 0
IsPlain b = is_plain b ≡ true

plain_value : (b : ℕ) → IsPlain b → is_value_byte b ≡ true
plain_value b is = grind (arith, nat_tests)

plain_not_ows : (b : ℕ) → IsPlain b → is_ows b ≡ false
plain_not_ows b is = grind (arith, nat_tests)

plain_not_comma : (b : ℕ) → IsPlain b → (b == 44) ≡ false
plain_not_comma b is = grind (arith, nat_tests)

skip_plain : (text : List ℕ) → All IsPlain text → skip_ows text ≡ text
skip_plain [] all = refl
skip_plain (b ∷ text) all = ap (λ (t : Bool). cond t (skip_ows text) (b ∷ text)) (plain_not_ows b (All-head IsPlain b text all))

plain_reverse : (text : List ℕ) → All IsPlain text → All IsPlain (reverse text)
plain_reverse text all = λ k d less.
    let inside : k < length text = omega (arith, less, length-reverse text) in
    subst IsPlain (sym (get_or-reverse text k d inside)) (all (length text - 1 - k) d (omega (arith, inside)))

trim_plain : (text : List ℕ) → All IsPlain text → trim_ows text ≡ text
unfolding trim_ows
trim_plain text all =
    ap (λ (t : List ℕ). reverse (skip_ows (reverse t))) (skip_plain text all) ∙ ap reverse (skip_plain (reverse text) (plain_reverse text all)) ∙ reverse-reverse text

trim_spaced : (text : List ℕ) → All IsPlain text → trim_ows (32 ∷ text) ≡ text
unfolding trim_ows
trim_spaced text all =
    ap (λ (t : List ℕ). reverse (skip_ows (reverse t))) (skip_plain text all) ∙ ap reverse (skip_plain (reverse text) (plain_reverse text all)) ∙ reverse-reverse text

members_plain : (text : List ℕ) → All IsPlain text → members_in text ≡ text ∷ []
members_plain text all =
    ap (map trim_ows) (slice_split_none (λ (b : ℕ). b == 44) text (All-weaker IsPlain (λ (b : ℕ). (b == 44) ≡ false) plain_not_comma text all))
    ∙ ap (λ (t : List ℕ). t ∷ []) (trim_plain text all)

-- ---- a length

digit_plain : (b : ℕ) → 48 ≤ b → b ≤ 57 → IsPlain b
digit_plain b low high = grind (arith, nat_tests)

digit_is : (b : ℕ) → 48 ≤ b → b ≤ 57 → is_ascii_digit b ≡ true
digit_is b low high = grind (arith, nat_tests)

digits_plain : (digits : List ℕ) → AllDigits 10 digits → All IsPlain digits
digits_plain [] all = All-nil IsPlain
digits_plain (d ∷ digits) all =
    let range = digit_from_value d all.0 in
    All-cons IsPlain d digits (digit_plain d range.0 range.1) (digits_plain digits all.1)

digits_pass : (digits : List ℕ) → AllDigits 10 digits → list_all is_ascii_digit digits ≡ true
digits_pass [] all = refl
digits_pass (d ∷ digits) all =
    let range = digit_from_value d all.0 in
    ap (λ (t : Bool). t && list_all is_ascii_digit digits) (digit_is d range.0 range.1) ∙ digits_pass digits all.1

decimal_plain : (n : ℕ) → n < 2 ^ 64 → All IsPlain (decimal n)
decimal_plain n small = digits_plain (decimal n) (decimal_is_IsNumeral n small).0.1

positive : (n : ℕ) → 0 < n → nat_lt 0 n ≡ true
positive n some = grind (arith, nat_tests)

decimal_number : (n : ℕ) → n < 2 ^ 64 → is_number (decimal n) ≡ true
decimal_number n small =
    ap (λ (t : Bool). t && list_all is_ascii_digit (decimal n)) (positive (length (decimal n)) (decimal_is_IsNumeral n small).0.0)
    ∙ digits_pass (decimal n) (decimal_is_IsNumeral n small).0.1

number_said_decimal : (n : ℕ) → n < 2 ^ 64 → number_said (decimal n) ≡ Said n
number_said_decimal n small =
    let same : capped n ≡ n = omega (arith, small) in
    ap (λ (t : Bool). cond t (Said (capped (digits_value 10 (decimal n)))) Malformed) (decimal_number n small)
    ∙ ap (λ (m : ℕ). Said (capped m)) (decimal_is_IsNumeral n small).1 ∙ ap Said same

-- ---- a digest

symbol_plain : (i : ℕ) → i < 64 → IsPlain (slice_index standard.encode_table i)
symbol_plain i less = AllPass-from_list_all is_plain standard.encode_table refl i 0 less

abbrev IsByte : ℕ → Type 0
IsByte b = b < 256

symbols_plain : (t : List ℕ) → ((i : ℕ) → i < 64 → IsPlain (slice_index t i)) → (bytes : List ℕ) → All IsByte bytes → All IsPlain (encode_symbols t bytes)
unfolding encode_symbols
symbols_plain t is [] all = All-nil IsPlain
symbols_plain t is (a ∷ []) all =
    let small : a < 256 = All-head IsByte a [] all in
    All-cons IsPlain (slice_index t (a / 4)) (slice_index t (a % 4 * 16) ∷ []) (is (a / 4) (omega (arith, small)))
    (All-cons IsPlain (slice_index t (a % 4 * 16)) [] (is (a % 4 * 16) (omega arith)) (All-nil IsPlain))
symbols_plain t is (a ∷ b ∷ []) all =
    let small : a < 256 = All-head IsByte a (b ∷ []) all in
    let small_b : b < 256 = All-head IsByte b [] (All-tail IsByte a (b ∷ []) all) in
    All-cons IsPlain (slice_index t (a / 4)) (slice_index t (a % 4 * 16 + b / 16) ∷ slice_index t (b % 16 * 4) ∷ []) (is (a / 4) (omega (arith, small)))
    (All-cons IsPlain (slice_index t (a % 4 * 16 + b / 16)) (slice_index t (b % 16 * 4) ∷ []) (is (a % 4 * 16 + b / 16) (omega (arith, small_b)))
    (All-cons IsPlain (slice_index t (b % 16 * 4)) [] (is (b % 16 * 4) (omega arith)) (All-nil IsPlain)))
symbols_plain t is (a ∷ b ∷ c ∷ rest) all =
    let small : a < 256 = All-head IsByte a (b ∷ c ∷ rest) all in
    let after = All-tail IsByte a (b ∷ c ∷ rest) all in
    let small_b : b < 256 = All-head IsByte b (c ∷ rest) after in
    let last = All-tail IsByte b (c ∷ rest) after in
    let small_c : c < 256 = All-head IsByte c rest last in
    All-append IsPlain (encode_group t a b c) (encode_symbols t rest)
    (All-cons IsPlain (slice_index t (a / 4)) (slice_index t (a % 4 * 16 + b / 16) ∷ slice_index t (b % 16 * 4 + c / 64) ∷ slice_index t (c % 64) ∷ []) (is (a / 4) (omega (arith, small)))
    (All-cons IsPlain (slice_index t (a % 4 * 16 + b / 16)) (slice_index t (b % 16 * 4 + c / 64) ∷ slice_index t (c % 64) ∷ []) (is (a % 4 * 16 + b / 16) (omega (arith, small_b)))
    (All-cons IsPlain (slice_index t (b % 16 * 4 + c / 64)) (slice_index t (c % 64) ∷ []) (is (b % 16 * 4 + c / 64) (omega (arith, small_c)))
    (All-cons IsPlain (slice_index t (c % 64)) [] (is (c % 64) (omega arith)) (All-nil IsPlain)))))
    (symbols_plain t is rest (All-tail IsByte c rest last))

encoded_plain : (bytes : List ℕ) → All IsByte bytes → All IsPlain (encode_of standard bytes)
encoded_plain bytes all =
    All-append IsPlain (encode_symbols standard.encode_table bytes) (replicate (padding_len (length bytes)) 61) (symbols_plain standard.encode_table symbol_plain bytes all)
    (All-replicate IsPlain (padding_len (length bytes)) 61 refl)

digest_plain : (digest : List ℕ) → All IsByte digest → All IsPlain (digest_text digest)
unfolding digest_text
digest_plain digest all =
    All-append IsPlain (codes "sha-256=:" ++ encode_of standard digest) (codes ":")
    (All-append IsPlain (codes "sha-256=:") (encode_of standard digest) (AllPass-from_list_all is_plain (codes "sha-256=:") refl) (encoded_plain digest all))
    (AllPass-from_list_all is_plain (codes ":") refl)

digest_long : (digest : List ℕ) → length digest ≡ 32 → length (digest_text digest) ≤ 54
unfolding digest_text
digest_long digest long =
    let symbols = length-encode_symbols standard.encode_table digest in
    let pads = length-replicate {A = ℕ} (padding_len (length digest)) 61 in
    let encoded : length (encode_of standard digest) ≤ 44 =
    omega (arith, symbols, pads, long, length-append (encode_symbols standard.encode_table digest) (replicate (padding_len (length digest)) 61)) in
    let nine : length (codes "sha-256=:") ≡ 9 = refl in
    let one : length (codes ":") ≡ 1 = refl in
    omega (arith, encoded, nine, one, length-append (codes "sha-256=:" ++ encode_of standard digest) (codes ":"), length-append (codes "sha-256=:") (encode_of standard digest))

byte_small : (i n : ℕ) → byte_at i n < 256
byte_small zero n = mod_below n 256 (lit< tt)
byte_small (suc i) n = mod_below (n / 256 ^ suc i) 256 (lit< tt)

word_bytes : (k n : ℕ) → All IsByte (bytes_high_first k n)
word_bytes zero n = All-nil IsByte
word_bytes (suc k) n = All-cons IsByte (byte_at k n) (bytes_high_first k n) (byte_small k n) (word_bytes k n)

digest_each : (h : List ℕ) (n : ℕ) → All IsByte (digest_bytes h n)
unfolding digest_bytes
digest_each h zero = All-nil IsByte
digest_each h (suc n) = All-append IsByte (digest_bytes h n) (bytes_high_first 4 (slice_index h n)) (digest_each h n) (word_bytes 4 (slice_index h n))

sha_bytes : (body : List ℕ) → All IsByte (sha256 body)
unfolding sha256
sha_bytes body = digest_each _ 8

is_bytes : (bytes : List ℕ) → All IsByte bytes → IsBytes bytes
is_bytes bytes all = λ i.
    elim (cases_lt i (length bytes)) [
      | inl less ↦ all i 0 less
      | inr past ↦ subst IsByte (sym (get_or_past bytes i 0 past)) (lit< tt)
    ]

-- ---- the head

abbrev a_field : List ℕ → List ℕ → Field
a_field name value = record { name = name; raw = 32 ∷ value; end = crlf }

abbrev fields_of : List ℕ → List ℕ → List ℕ → List Field
fields_of type number digest =
    a_field (codes "Content-Type") type ∷ a_field (codes "Content-Length") number ∷ a_field (codes "Content-Digest") digest
    ∷ a_field (codes "Connection") (codes "close") ∷ []

abbrev head_of : List ℕ → List ℕ → List ℕ → ResponseHead
head_of type number digest =
    record { blank = []; minor = 1; digits = codes "200"; reason = Some (codes "OK"); line_end = crlf; fields = fields_of type number digest; last = crlf }

field_is : (name value : List ℕ) → 0 < length name → list_all is_token_byte name ≡ true → All IsPlain value → IsField (a_field name value)
field_is name value some token plain = record {
  name = (some, AllPass-from_list_all is_token_byte name token);
  raw = All-cons (λ (b : ℕ). IsTrue (is_value_byte b)) 32 value refl (All-weaker IsPlain (λ (b : ℕ). IsTrue (is_value_byte b)) plain_value value plain);
}

head_is : (type number digest : List ℕ) → All IsPlain type → All IsPlain number → All IsPlain digest → IsResponseHead (head_of type number digest)
unfolding is_token_byte
head_is type number digest plain_type plain_number plain_digest = record {
  minor = omega arith;
  digits = (refl, AllPass-from_list_all is_ascii_digit (codes "200") refl);
  reason = AllPass-from_list_all is_value_byte (codes "OK") refl;
  fields =
      let media = a_field (codes "Content-Type") type in
      let size = a_field (codes "Content-Length") number in
      let sum = a_field (codes "Content-Digest") digest in
      let close = a_field (codes "Connection") (codes "close") in
      All-cons IsField media (size ∷ sum ∷ close ∷ [])
      (field_is (codes "Content-Type") type (lit< tt) refl plain_type)
      (All-cons IsField size (sum ∷ close ∷ []) (field_is (codes "Content-Length") number (lit< tt) refl plain_number)
      (All-cons IsField sum (close ∷ []) (field_is (codes "Content-Digest") digest (lit< tt) refl plain_digest)
      (All-cons IsField close [] (field_is (codes "Connection") (codes "close") (lit< tt) refl (AllPass-from_list_all is_plain (codes "close") refl)) (All-nil IsField))));
}

-- ---- its bytes

lines : (a b c d e f g r : List ℕ) → (((((((a ++ b) ++ c) ++ d) ++ []) ++ e) ++ f) ++ g) ++ r ≡ a ++ (b ++ (c ++ (d ++ (e ++ (f ++ (g ++ r))))))
lines a b c d e f g r = simp (append_assoc, append-nil)

section : (p q r s e more : List ℕ) → ((p ++ (q ++ (r ++ (s ++ [])))) ++ e) ++ more ≡ p ++ (q ++ (r ++ (s ++ (e ++ more))))
section p q r s e more = simp (append_assoc, append-nil)

-- the bytes of a head, and what follows
printed : (type number digest more : List ℕ) → print_response (head_of type number digest) ++ more
    ≡ codes "HTTP/1.1 200 OK\r\n" ++ (print_field (a_field (codes "Content-Type") type) ++ (print_field (a_field (codes "Content-Length") number)
    ++ (print_field (a_field (codes "Content-Digest") digest) ++ (print_field (a_field (codes "Connection") (codes "close")) ++ (crlf_bytes ++ more)))))
printed type number digest more =
    print_response-append (head_of type number digest) more
    ∙ ap (λ (t : List ℕ). codes "HTTP/1.1 200 OK\r\n" ++ t)
    (section (print_field (a_field (codes "Content-Type") type)) (print_field (a_field (codes "Content-Length") number))
    (print_field (a_field (codes "Content-Digest") digest)) (print_field (a_field (codes "Connection") (codes "close"))) crlf_bytes more)

abbrev written : List ℕ → List ℕ → List ℕ → List ℕ → List ℕ
written type number digest body =
    ((((((line (codes "HTTP/1.1 " ++ codes "200 OK") ++ line (codes "Content-Type: " ++ type)) ++ line (codes "Content-Length: " ++ number))
    ++ line (codes "Content-Digest: " ++ digest)) ++ []) ++ line (codes "Connection: close")) ++ line []) ++ body

written_reads : (type number digest body rest : List ℕ) → written type number digest body ++ rest ≡ print_response (head_of type number digest) ++ (body ++ rest)
unfolding line
written_reads type number digest body rest =
    lines (line (codes "HTTP/1.1 " ++ codes "200 OK")) (line (codes "Content-Type: " ++ type)) (line (codes "Content-Length: " ++ number))
    (line (codes "Content-Digest: " ++ digest)) (line (codes "Connection: close")) (line []) body rest
    ∙ sym (printed type number digest (body ++ rest))

field_long : (name value : List ℕ) → length (print_field (a_field name value)) ≡ length name + length value + 4
field_long name value =
    let two : length crlf_bytes ≡ 2 = refl in
    let value-long : length (58 ∷ 32 ∷ value) ≡ length value + 2 = omega arith in
    omega (arith, two, value-long, length-append (name ++ 58 ∷ 32 ∷ value) crlf_bytes, length-append name (58 ∷ 32 ∷ value))

six_long : (a b c d e f : List ℕ) → length (a ++ (b ++ (c ++ (d ++ (e ++ (f ++ [])))))) ≡ length a + length b + length c + length d + length e + length f
six_long a b c d e f =
    let none : length f ≡ length (f ++ []) = sym (ap length (append-nil f)) in
    omega (
      arith,
      none,
      length-append a (b ++ (c ++ (d ++ (e ++ (f ++ []))))),
      length-append b (c ++ (d ++ (e ++ (f ++ [])))),
      length-append c (d ++ (e ++ (f ++ []))),
      length-append d (e ++ (f ++ [])),
      length-append e (f ++ []),
    )

head_long : (type number digest : List ℕ) → length type ≤ 22 → length number ≤ 20 → length digest ≤ 54 → length (print_response (head_of type number digest)) ≤ 16384
head_long type number digest brief few short =
    let head = print_response (head_of type number digest) in
    let a = print_field (a_field (codes "Content-Type") type) in
    let b = print_field (a_field (codes "Content-Length") number) in
    let c = print_field (a_field (codes "Content-Digest") digest) in
    let d = print_field (a_field (codes "Connection") (codes "close")) in
    let parts : length head ≡ length (codes "HTTP/1.1 200 OK\r\n") + length a + length b + length c + length d + length crlf_bytes =
    sym (ap length (append-nil head)) ∙ ap length (printed type number digest []) ∙ six_long (codes "HTTP/1.1 200 OK\r\n") a b c d crlf_bytes in
    let first : length (codes "HTTP/1.1 200 OK\r\n") ≡ 17 = refl in
    let two : length crlf_bytes ≡ 2 = refl in
    let a-name : length (codes "Content-Type") ≡ 12 = refl in
    let a-long : length a ≡ length (codes "Content-Type") + length type + 4 = field_long (codes "Content-Type") type in
    let d-long : length d ≡ 19 = refl in
    let b-name : length (codes "Content-Length") ≡ 14 = refl in
    let c-name : length (codes "Content-Digest") ≡ 14 = refl in
    let b-long : length b ≡ length (codes "Content-Length") + length number + 4 = field_long (codes "Content-Length") number in
    let c-long : length c ≡ length (codes "Content-Digest") + length digest + 4 = field_long (codes "Content-Digest") digest in
    omega (arith, brief, few, short, parts, first, two, a-name, a-long, d-long, b-name, c-name, b-long, c-long)

-- ---- what its fields say

said_length : (type : List ℕ) (n : ℕ) (digest : List ℕ) → n < 2 ^ 64 → length_said (fields_of type (decimal n) digest) ≡ Said n
said_length type n digest small =
    let values : field_values_of (codes "content-length") (fields_of type (decimal n) digest) ≡ trim_ows (32 ∷ decimal n) ∷ [] = refl in
    ap length_in (values ∙ ap (λ (t : List ℕ). t ∷ []) (trim_spaced (decimal n) (decimal_plain n small))) ∙ number_said_decimal n small

framed : (type : List ℕ) (n : ℕ) (digest : List ℕ) → n < 2 ^ 64 → framing_of (fields_of type (decimal n) digest) ≡ ByLength n
framed type n digest small =
    let encodings : encodings_said (fields_of type (decimal n) digest) ≡ [] = refl in
    ap (λ (e : List (List ℕ)). framing_in e (length_said (fields_of type (decimal n) digest))) encodings ∙ ap (framing_in []) (said_length type n digest small)

members_are : (type number digest : List ℕ) → All IsPlain digest → digest_members (fields_of type number digest) ≡ digest ∷ []
members_are type number digest plain =
    let values : field_values_of (codes "content-digest") (fields_of type number digest) ≡ trim_ows (32 ∷ digest) ∷ [] = refl in
    ap (flat_map members_in) (values ∙ ap (λ (t : List ℕ). t ∷ []) (trim_spaced digest plain))
    ∙ append-nil (members_in digest) ∙ members_plain digest plain

gives_digest : (type number body : List ℕ) → IsDigestGiven (fields_of type number (digest_text (sha256 body))) (Some (sha256 body))
gives_digest type number body = record {
  before = [];
  member = digest_text (sha256 body);
  after = [];
  parts = members_are type number (digest_text (sha256 body)) (digest_plain (sha256 body) (sha_bytes body));
  others = All-nil IsNoDigest;
  is = record { text = refl; size = length-sha256 body; bytes = is_bytes (sha256 body) (sha_bytes body) };
}

-- ---- its media type

media_plain : (media : MediaType) → All IsPlain (media_text media)
media_plain Json = AllPass-from_list_all is_plain (codes "application/json") refl
media_plain Protobuf = AllPass-from_list_all is_plain (codes "application/x-protobuf") refl

media_brief : (media : MediaType) → length (media_text media) ≤ 22
media_brief Json = omega arith
media_brief Protobuf = omega arith

-- ---- it passes

is_front : (body rest : List ℕ) → body ≡ take (length body) (body ++ rest)
is_front body rest = sym (take_all (length body) body (omega arith)) ∙ sym (take-append-le (length body) body rest (omega arith))

pub passes_as_written : (body : List ℕ) → length body ≤ 201326592 → (fields : ResponseFields) (rest : List ℕ) (need ended : Bool)
    → BytesOutcome need (response_text Success fields body ++ rest) ended (Ok body)
passes_as_written body allowed fields rest need ended =
    let n = length body in
    let type = media_text fields.media in
    let small : n < 2 ^ 64 = omega (arith, allowed) in
    let digest = digest_text (sha256 body) in
    let plain : All IsPlain digest = digest_plain (sha256 body) (sha_bytes body) in
    let short : length (decimal n) ≤ 20 = length-decimal-le 20 n (omega arith) (omega (arith, allowed)) small in
    let framing = framed type n digest small in (
      Some (sha256 body),
      record {
        head = head_of type (decimal n) digest;
        rest = body ++ rest;
        success = record {
          response = record {
            begins = record {
              reads = (head_is type (decimal n) digest (media_plain fields.media) (decimal_plain n small) plain, written_reads type (decimal n) digest body rest);
              within = head_long type (decimal n) digest (media_brief fields.media) short (digest_long (sha256 body) (length-sha256 body));
            };
            good = record { few = omega arith; length = λ bad. not_malformed n (sym (said_length type n digest small) ∙ bad) };
          };
          success = refl;
        };
        has = subst (λ (f : Framing). HasBody f (body ++ rest) body) (sym framing) (allowed, omega (arith, length-append body rest), is_front body rest);
        gives = gives_digest type (decimal n) body;
      },
      refl,
    )
  where
    not_malformed : (n : ℕ) → Said n ≡ Malformed → ⊥
    not_malformed n same = cc
