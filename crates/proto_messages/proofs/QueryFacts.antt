-- A text is the base64 text of no more than one message.
use Rattle.std.proofs.Common.{◌≡◌, ◌⊎◌, ℕ, ◌%◌, List, [], ◌++◌, length, map, Ok, inl, inr, refl, sym, ap, ◌∙◌, length-append, arith}
use Rattle.std.specs.Prelude.{replicate}
use Rattle.std.proofs.lemmas.List.{append-nil, length-replicate}
use Rattle.base64.specs.Engines.{standard, standard_no_pad}
use Rattle.base64.specs.GeneralPurpose.{IsBytes, encode_of, decode_of, engine_symbols}
use Rattle.base64.specs.Rfc4648.{encode_symbols, padding_len, unpadded_len}
use Rattle.base64.proofs.EngineFacts.{decode_of-encode_of}
use Rattle.base64.proofs.RoundTrip.{length-encode_symbols}
use Rattle.sb_json.specs.Values.{in_standard_alphabet}
use Rattle.proto_messages.specs.Query.{QueriesReadOneWay}

one_padded : (a b : List ℕ) → IsBytes a → IsBytes b → encode_of standard a ≡ encode_of standard b → a ≡ b
one_padded a b left_bytes right_bytes is =
    let left : decode_of standard (encode_of standard a) ≡ Ok a = decode_of-encode_of standard a refl left_bytes in
    let right : decode_of standard (encode_of standard b) ≡ Ok b = decode_of-encode_of standard b refl right_bytes in
    let same : decode_of standard (encode_of standard a) ≡ decode_of standard (encode_of standard b) = ap (decode_of standard) is in
    cc (left, right, same)

one_unpadded : (a b : List ℕ) → IsBytes a → IsBytes b → encode_of standard_no_pad a ≡ encode_of standard_no_pad b → a ≡ b
one_unpadded a b left_bytes right_bytes is =
    let left : decode_of standard_no_pad (encode_of standard_no_pad a) ≡ Ok a = decode_of-encode_of standard_no_pad a refl left_bytes in
    let right : decode_of standard_no_pad (encode_of standard_no_pad b) ≡ Ok b = decode_of-encode_of standard_no_pad b refl right_bytes in
    let same : decode_of standard_no_pad (encode_of standard_no_pad a) ≡ decode_of standard_no_pad (encode_of standard_no_pad b) = ap (decode_of standard_no_pad) is in
    cc (left, right, same)

-- A text of whole fours without padding is of whole threes of bytes, which take none.
no_padding : (b : List ℕ) → length (encode_of standard_no_pad b) % 4 ≡ 0 → encode_of standard_no_pad b ≡ encode_of standard b
no_padding b fours =
    let symbols = encode_symbols (engine_symbols standard) b in
    let len : length (symbols ++ []) ≡ unpadded_len (length b) = ap length (append-nil symbols) ∙ length-encode_symbols (engine_symbols standard) b in
    let none : padding_len (length b) ≡ 0 = omega (arith, len, fours) in
    ap (λ (n : ℕ). symbols ++ replicate n 61) (sym none)

whole_fours : (a : List ℕ) → length (encode_of standard a) % 4 ≡ 0
whole_fours a =
    let symbols : List ℕ = encode_symbols (engine_symbols standard) a in
    let pad : List ℕ = replicate (padding_len (length a)) 61 in
    omega (arith, length-append symbols pad, length-encode_symbols (engine_symbols standard) a, length-replicate {A = ℕ} (padding_len (length a)) 61)

mixed : (a b : List ℕ) → IsBytes a → IsBytes b → encode_of standard a ≡ encode_of standard_no_pad b → a ≡ b
mixed a b left_bytes right_bytes is =
    let fours : length (encode_of standard_no_pad b) % 4 ≡ 0 = ap (λ (l : List ℕ). length l % 4) (sym is) ∙ whole_fours a in
    one_padded a b left_bytes right_bytes (is ∙ no_padding b fours)

pub one_message : QueriesReadOneWay
one_message text a b is also = go is.spelled also.spelled where
  go : (map in_standard_alphabet text ≡ encode_of standard a) ⊎ (map in_standard_alphabet text ≡ encode_of standard_no_pad a)
      → (map in_standard_alphabet text ≡ encode_of standard b) ⊎ (map in_standard_alphabet text ≡ encode_of standard_no_pad b) → a ≡ b
  go (inl p) (inl q) = one_padded a b is.bytes also.bytes (sym p ∙ q)
  go (inl p) (inr q) = mixed a b is.bytes also.bytes (sym p ∙ q)
  go (inr p) (inl q) = sym (mixed b a also.bytes is.bytes (sym q ∙ p))
  go (inr p) (inr q) = one_unpadded a b is.bytes also.bytes (sym p ∙ q)
