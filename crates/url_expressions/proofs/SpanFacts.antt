-- Pieces that begin at a place, one more after the other.
use Rattle.std.proofs.Common.{◌≡◌, ℕ, ◌+◌, ◌-◌, ◌<◌, ◌≤◌, All, List, [], ◌∷◌, ◌++◌, length, take, drop, get_or, sym, ap, subst, ◌∙◌, arith, append_assoc, length-append}
use Rattle.std.specs.Prelude.{map}
use Rattle.std.proofs.lemmas.List.{map-append, map_more}
use Rattle.std.proofs.lemmas.List.Elements.{All-append, All-cons, All-nil}
use Rattle.url_expressions.specs.Spans.{IsWithin, piece_of}
use Rattle.url_expressions.specs.declared.spans.Span.{Span}

abbrev pub span : ℕ → ℕ → Span
span from to = record { from = from; to = to }

pub pieces_more : (text : List ℕ) (from at : ℕ) (lens : List ℕ) (i : ℕ) (old all new : List Span) → from ≤ at → i < length lens
    → new ≡ all ++ span from (at + get_or lens i 0) ∷ []
    → map (piece_of text) all ≡ map (piece_of text) old ++ map (λ len. take (at - from + len) (drop from text)) (take i lens)
    → map (piece_of text) new ≡ map (piece_of text) old ++ map (λ len. take (at - from + len) (drop from text)) (take (i + 1) lens)
pieces_more text from at lens i old all new order inside pushed so_far =
    let front : ℕ → List ℕ = λ len. take (at - from + len) (drop from text) in
    let len : ℕ = get_or lens i 0 in
    let same : at + len - from ≡ at - from + len = omega (arith, order) in
    ap (λ (spans : List Span). map (piece_of text) spans) pushed
    ∙ (map-append (piece_of text) all (span from (at + len) ∷ [])
    ∙ (ap (λ n. map (piece_of text) all ++ take n (drop from text) ∷ []) same
    ∙ (ap (λ a. a ++ front len ∷ []) so_far
    ∙ (append_assoc (map (piece_of text) old) (map front (take i lens)) (front len ∷ [])
    ∙ ap (λ t. map (piece_of text) old ++ t) (sym (map_more front lens i 0 inside))))))

pub within_more : (most from at : ℕ) (lens : List ℕ) (i : ℕ) (all new : List Span) → from ≤ at → i < length lens
    → All (λ len. at + len ≤ most) lens → new ≡ all ++ span from (at + get_or lens i 0) ∷ []
    → All (IsWithin most) all → All (IsWithin most) new
within_more most from at lens i all new order inside fits pushed so_far =
    subst (All (IsWithin most)) (sym pushed)
    (All-append (IsWithin most) all (span from (at + get_or lens i 0) ∷ []) so_far
    (All-cons (IsWithin most) (span from (at + get_or lens i 0)) [] (record { in_order = omega (arith, order); within = fits i 0 inside }) (All-nil (IsWithin most))))

-- what fits behind a host fits with it
pub lens_fit : (host rest text : List ℕ) (lens : List ℕ) → text ≡ host ++ rest → All (λ len. len ≤ length rest) lens → All (λ len. length host + len ≤ length text) lens
lens_fit host rest text lens at fits i d inside =
    let whole : length text ≡ length host + length rest = ap (λ t. length t) at ∙ length-append host rest in
    omega (arith, whole, fits i d inside)
