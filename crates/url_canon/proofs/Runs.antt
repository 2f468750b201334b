-- The bytes between two that are escaped.
use Rattle.std.proofs.Common.{◌≡◌, ℕ, ◌+◌, ◌<◌, ◌-◌, List, ◌++◌, Bool, true, false, cond, ltb, length, get_or, take, drop, Some, None, refl, sym, ap, ◌∙◌, arith}
use Rattle.std.specs.List.{list_any, position, position_or_len}
use Rattle.std.proofs.lemmas.List.{take-append-drop, drop_more, take_rest, append_assoc}
use Rattle.std.proofs.lemmas.List.Quantifiers.{position-Some}
use Rattle.std.proofs.lemmas.List.Sums.{position_or_len_is}
use Rattle.url_canon.specs.Escaping.{is_unsafe, escape_of, escaped}
use Rattle.url_canon.proofs.Splits.{Lacks}
use Rattle.url_canon.proofs.Cuts.{any_from_place, none-before_first}
use Rattle.url_canon.proofs.Escapes.{escaped_safe, escaped-append}

none_past : (p : ℕ → Bool) (xs : List ℕ) (b : Bool) → ltb (position_or_len p xs) (length xs) ≡ b → cond b (Some (position_or_len p xs)) None ≡ None → b ≡ false
none_past p xs true e h = absurd (cc)
none_past p xs false e h = refl

pub lacks_none : (p : ℕ → Bool) (xs : List ℕ) → position p xs ≡ None → Lacks p xs
lacks_none p xs h = any_from_place p xs ∙ none_past p xs (ltb (position_or_len p xs) (length xs)) refl h

-- what has no byte that is escaped stays
pub run_end : (text : List ℕ) → position is_unsafe text ≡ None → escaped text ≡ text
run_end text h = escaped_safe text (lacks_none is_unsafe text h)

pub run_next : (text : List ℕ) (i : ℕ) → position is_unsafe text ≡ Some i → escaped text ≡ take i text ++ (escape_of (get_or text i 0) ++ escaped (drop (i + 1) text))
unfolding escaped
run_next text i h =
    let found = position-Some is_unsafe text i 0 h in
    let place : position_or_len is_unsafe text ≡ i = position_or_len_is is_unsafe text i 0 (omega (arith, found.0)) found.2 (λ _. found.1) in
    let safe : Lacks is_unsafe (take i text) = ap (λ n. list_any is_unsafe (take n text)) (sym place) ∙ none-before_first is_unsafe text in
    ap escaped (sym (take-append-drop i text))
    ∙ (escaped-append (take i text) (drop i text)
    ∙ (ap (λ r. r ++ escaped (drop i text)) (escaped_safe (take i text) safe) ∙ ap (λ r. take i text ++ escaped r) (drop_more text i 0 found.0)))

-- the byte is escaped
pub run_stops : (text : List ℕ) (i : ℕ) → position is_unsafe text ≡ Some i → (i < length text) × (is_unsafe (get_or text i 0) ≡ true)
run_stops text i h = let found = position-Some is_unsafe text i 0 h in (found.0, found.1)

-- one turn of the loop that escapes a text
pub run_turn : (out mid done rest all : List ℕ) (i : ℕ) → Some i ≡ position is_unsafe rest → mid ≡ out ++ take i rest → done ≡ mid ++ escape_of (get_or rest i 0) → out ++ escaped rest ≡ all
    → done ++ escaped (take (length rest - (i + 1)) (drop (i + 1) rest)) ≡ all
run_turn out mid done rest all i found at_mid at_done so_far =
    let later = escaped (drop (i + 1) rest) in
    ap (λ r. done ++ escaped r) (take_rest rest (i + 1))
    ∙ (ap (λ d. d ++ later) (at_done ∙ ap (λ m. m ++ escape_of (get_or rest i 0)) at_mid)
    ∙ (append_assoc (out ++ take i rest) (escape_of (get_or rest i 0)) later
    ∙ (append_assoc out (take i rest) (escape_of (get_or rest i 0) ++ later)
    ∙ (ap (λ r. out ++ r) (sym (run_next rest i (sym found))) ∙ so_far))))
