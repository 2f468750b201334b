-- Standard padded base64 is in the standard alphabet and padded.
use Rattle.std.proofs.Common.{◌≡◌, ℕ, ◌+◌, ◌%◌, List, [], ◌∷◌, length, map, true, false, cond, Some, refl, sym, ap, ◌∙◌, arith, zero, suc, get_or}
use Rattle.std.specs.Prelude.{replicate, slice_index}
use Rattle.std.proofs.Math.ListN.{get_or-map}
use Rattle.std.proofs.lemmas.List.{map-append, length-append, length-replicate}
use Rattle.std.specs.List.{list_any}
use Rattle.std.specs.Result.{result_ok}
use Rattle.base64.specs.Engines.{standard}
use Rattle.base64.specs.GeneralPurpose.{IsBytes, decoded_of, encode_of, engine_symbols}
use Rattle.base64.specs.Rfc4648.{encode_symbols, padding_len}
use Rattle.base64.proofs.EngineFacts.{decode_of-encode_of}
use Rattle.sb_json.specs.Values.{in_standard_alphabet, is_padding, with_padding, base64_of}

-- a letter of the standard alphabet stays
letter : (t : List ℕ) → map in_standard_alphabet t ≡ t → (k : ℕ) → in_standard_alphabet (slice_index t k) ≡ slice_index t k
letter t h k = sym (get_or-map in_standard_alphabet t k 0) ∙ ap (λ (l : List ℕ). get_or l k 0) h

symbols : (t m : List ℕ) → map in_standard_alphabet t ≡ t → map in_standard_alphabet (encode_symbols t m) ≡ encode_symbols t m
unfolding encode_symbols
symbols t [] h = refl
symbols t (a ∷ []) h = simp (letter t h) refl
symbols t (a ∷ b ∷ []) h = simp (letter t h) refl
symbols t (a ∷ b ∷ c ∷ rest) h = simp (letter t h, symbols t rest h) refl

paddings : (n : ℕ) → map in_standard_alphabet (replicate n 61) ≡ replicate n 61
paddings zero = refl
paddings (suc n) = ap (λ (l : List ℕ). 61 ∷ l) (paddings n)

standard_letters : map in_standard_alphabet (engine_symbols standard) ≡ engine_symbols standard
standard_letters = refl

in_alphabet : (bytes : List ℕ) → map in_standard_alphabet (encode_of standard bytes) ≡ encode_of standard bytes
in_alphabet bytes =
    rw (map-append, symbols (engine_symbols standard) bytes standard_letters, paddings (padding_len (length bytes))) refl

-- symbols and padding come by fours
by_fours : (t m : List ℕ) → (length (encode_symbols t m) + padding_len (length m)) % 4 ≡ 0
unfolding encode_symbols
by_fours t [] = refl
by_fours t (a ∷ []) = refl
by_fours t (a ∷ b ∷ []) = refl
by_fours t (a ∷ b ∷ c ∷ rest) = omega (arith, by_fours t rest)

whole_length : (bytes : List ℕ) → length (encode_of standard bytes) % 4 ≡ 0
whole_length bytes = rw (length-append, length-replicate) (by_fours (engine_symbols standard) bytes)

-- a text of fours gets no padding
not_padded : (text : List ℕ) → length text % 4 ≡ 0 → with_padding text ≡ text
not_padded text h =
    rw h (elim (list_any is_padding text) as (λ b. cond b text text ≡ text) [ true ↦ refl | false ↦ refl ])

-- Standard padded base64 is not changed before it is decoded.
pub encoded_stays : (text bytes : List ℕ) → text ≡ encode_of standard bytes → decoded_of standard text ≡ base64_of text
encoded_stays text bytes h =
    let same : map in_standard_alphabet text ≡ text = ap (map in_standard_alphabet) h ∙ in_alphabet bytes ∙ sym h in
    let fours : length text % 4 ≡ 0 = rw h (whole_length bytes) in
    ap (decoded_of standard) (sym (ap with_padding same ∙ not_padded text fours))

-- and so it is read as the bytes that it was written of
pub encoded_back : (bytes : List ℕ) → IsBytes bytes → base64_of (encode_of standard bytes) ≡ Some bytes
unfolding decoded_of
encoded_back bytes h =
    sym (encoded_stays (encode_of standard bytes) bytes refl) ∙ ap result_ok (decode_of-encode_of standard bytes refl h)
