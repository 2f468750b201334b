-- Pairs of hexadecimal digits, and the bytes that they write.
use Rattle.std.proofs.Common.{◌≡◌, ℕ, ◌+◌, ◌*◌, ◌<◌, nat_eq, List, [], ◌∷◌, ◌++◌, Bool, true, false, length, take, drop, set, get_or, refl, sym, ap, ◌∙◌, Option, Some, None, Result, Ok, Err, if◌then◌else◌, arith}
use Rattle.std.specs.Prelude.{option_and_then}
use Rattle.std.specs.Option.{option_map}
use Rattle.std.specs.Result.{result_ok}
use Rattle.std.proofs.lemmas.Bool.Decides.{nat_tests}
use Rattle.std.proofs.lemmas.List.{append-nil, append_assoc, drop_more, drop_all, take_all, take_more_set}
use Rattle.hex.specs.Hex.{decode_of, decode_pairs, digit_or_error, hex_digit_value, ◌>>=◌}
use Rattle.hex.specs.declared.FromHexError.{FromHexError}
use Rattle.list_versions.specs.Hexes.{byte_of_digits}
use Rattle.list_versions.specs.Lines.{bytes_in_digits, hash_of}

-- bytes in front of those that are still to be read
abbrev pub onto : List ℕ → Option (List ℕ) → Option (List ℕ)
onto front rest = option_map (λ bytes. front ++ bytes) rest

onto-nil : (rest : Option (List ℕ)) → onto [] rest ≡ rest
onto-nil None = refl
onto-nil (Some bytes) = refl

onto-push : (front : List ℕ) (byte : ℕ) (rest : Option (List ℕ)) → onto front (option_map (λ bytes. byte ∷ bytes) rest) ≡ onto (front ++ byte ∷ []) rest
onto-push front byte None = refl
onto-push front byte (Some bytes) = ap Some (sym (append_assoc front (byte ∷ []) bytes))

-- what pairs of digits from a place on write
abbrev pub read_from : ℕ → List ℕ → Option (List ℕ)
read_from i digits = result_ok (decode_pairs i digits)

pair_at : (h l i : ℕ) (high low : Option ℕ) (rest : Result (List ℕ) FromHexError)
    → result_ok ((digit_or_error h i high >>= λ a. digit_or_error l (i + 1) low >>= λ b. Ok (a * 16 + b)) >>= λ byte. rest >>= λ bytes. Ok (byte ∷ bytes))
    ≡ option_and_then (λ byte. option_map (λ bytes. byte ∷ bytes) (result_ok rest)) (option_and_then (λ a. option_map (λ b. a * 16 + b) low) high)
pair_at h l i None low rest = refl
pair_at h l i (Some a) None rest = refl
pair_at h l i (Some a) (Some b) (Ok bytes) = refl
pair_at h l i (Some a) (Some b) (Err fault) = refl

read-pair : (h l i : ℕ) (rest : List ℕ) → read_from i (h ∷ l ∷ rest) ≡ option_and_then (λ byte. option_map (λ bytes. byte ∷ bytes) (read_from (i + 2) rest)) (byte_of_digits h l)
unfolding decode_pairs
read-pair h l i rest = pair_at h l i (hex_digit_value h) (hex_digit_value l) (decode_pairs (i + 2) rest)

two_more : (digits : List ℕ) (i : ℕ) → 2 * i + 1 < length digits → drop (2 * i) digits ≡ get_or digits (2 * i) 0 ∷ get_or digits (2 * i + 1) 0 ∷ drop (2 * i + 2) digits
two_more digits i lt =
    let first = drop_more digits (2 * i) 0 (omega arith) in
    let second = drop_more digits (2 * i + 1) 0 lt in
    let next : 2 * i + 1 + 1 ≡ 2 * i + 2 = omega arith in
    first ∙ ap (λ ds. get_or digits (2 * i) 0 ∷ ds) (rw next at second)

-- what was read so far, in front of what is still to be read
abbrev pub IsReadTo : ℕ → List ℕ → List ℕ → Type 0
IsReadTo i digits bytes = onto (take i bytes) (read_from (2 * i) (drop (2 * i) digits)) ≡ read_from 0 digits

pub read_none_yet : (digits bytes : List ℕ) → IsReadTo 0 digits bytes
read_none_yet digits bytes = onto-nil _

at_pair : (digits bytes : List ℕ) (i : ℕ) → 2 * i + 1 < length digits → IsReadTo i digits bytes
    → onto (take i bytes) (option_and_then (λ byte. option_map (λ bytes. byte ∷ bytes) (read_from (2 * i + 2) (drop (2 * i + 2) digits))) (byte_of_digits (get_or digits (2 * i) 0) (get_or digits (2 * i + 1) 0))) ≡ read_from 0 digits
at_pair digits bytes i lt h =
    ap (onto (take i bytes)) (sym (ap (read_from (2 * i)) (two_more digits i lt) ∙ read-pair _ _ (2 * i) (drop (2 * i + 2) digits))) ∙ h

-- one pair more
pub read_more : (digits bytes : List ℕ) (i byte : ℕ) → 2 * i + 1 < length digits → i < length bytes → byte_of_digits (get_or digits (2 * i) 0) (get_or digits (2 * i + 1) 0) ≡ Some byte
    → IsReadTo i digits bytes → IsReadTo (i + 1) digits (set bytes i byte)
read_more digits bytes i byte lt lt' is h =
    let next : 2 * (i + 1) ≡ 2 * i + 2 = omega arith in
    let pair = rw is at (at_pair digits bytes i lt h) in
    rw (next, take_more_set bytes i byte lt') (sym (onto-push (take i bytes) byte (read_from (2 * i + 2) (drop (2 * i + 2) digits))) ∙ pair)

bytes_at : (digits : List ℕ) → length digits ≡ 64 → hash_of digits ≡ read_from 0 digits
unfolding bytes_in_digits
bytes_at digits h = rw h refl

-- a pair that writes no byte
pub read_bad : (digits bytes : List ℕ) (i : ℕ) → length digits ≡ 64 → i < 32 → byte_of_digits (get_or digits (2 * i) 0) (get_or digits (2 * i + 1) 0) ≡ None
    → IsReadTo i digits bytes → None ≡ hash_of digits
read_bad digits bytes i long lt is h = rw is at (at_pair digits bytes i (omega arith) h) ∙ sym (bytes_at digits long)

-- all pairs
pub read_all : (digits bytes : List ℕ) → length digits ≡ 64 → length bytes ≡ 32 → IsReadTo 32 digits bytes → Some bytes ≡ hash_of digits
unfolding decode_pairs
read_all digits bytes long whole h =
    let nothing : drop 64 digits ≡ [] = drop_all 64 digits (omega arith) in
    let all : take 32 bytes ≡ bytes = take_all 32 bytes (omega arith) in
    ap Some (sym (append-nil bytes)) ∙ rw (nothing, all) at h ∙ sym (bytes_at digits long)

other_length : (b : Bool) (digits : List ℕ) → nat_eq (length digits) 64 ≡ b → (length digits ≡ 64 → ⊥) → (if b then result_ok (decode_of digits) else None) ≡ None
other_length false digits e h = refl
other_length true digits e h = absurd (h (grind (arith, nat_tests)))

-- another length
pub read_no_hash : (digits : List ℕ) → (length digits ≡ 64 → ⊥) → None ≡ hash_of digits
unfolding bytes_in_digits
read_no_hash digits h = sym (other_length (nat_eq (length digits) 64) digits refl h)
