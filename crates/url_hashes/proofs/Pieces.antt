-- The hashes of pieces of a text.
use Rattle.std.proofs.Common.{◌≡◌, ◌≤◌, ◌-◌, ℕ, List, [], ◌∷◌, ◌++◌, map, take, drop, refl, sym, ap, ◌∙◌, subst, arith}
use Rattle.std.specs.Prelude.{All}
use Rattle.std.proofs.Common.{get_or}
use Rattle.std.proofs.Math.Seq.{take-add}
use Rattle.std.proofs.lemmas.List.{drop-drop}
use Rattle.std.proofs.lemmas.List.Elements.{All-map}
use Rattle.sha2.proofs.Facts256.{length-sha256}
use Rattle.hash_prefixes.specs.declared.hashes.FullHash.{FullHash}
use Rattle.url_expressions.specs.Spans.{piece_of}
use Rattle.url_expressions.specs.declared.spans.Span.{Span}
use Rattle.url_hashes.specs.Hashes.{full_hash_of, IsWholeHash}

-- the hashes of pieces of a text are those of what the pieces are
pub hashes_of_pieces : (text : List ℕ) (spans : List Span) → map (λ (one : Span). full_hash_of (piece_of text one)) spans ≡ map full_hash_of (map (piece_of text) spans)
hashes_of_pieces text [] = refl
hashes_of_pieces text (one ∷ spans) = ap (λ rest. full_hash_of (piece_of text one) ∷ rest) (hashes_of_pieces text spans)

-- each hash of some texts has 32 bytes
pub hashes_whole : (hashes : List FullHash) (texts : List (List ℕ)) → hashes ≡ map full_hash_of texts → All IsWholeHash hashes
hashes_whole hashes texts same =
    subst (λ (all : List FullHash). All IsWholeHash all) (sym same) (All-map IsWholeHash full_hash_of texts (λ k d small. length-sha256 (get_or texts k d)))

abbrev span_at : ℕ → ℕ → Span
span_at from to = record { from = from; to = to }

-- a piece, and what stands between its end and a later place
pub piece_on : (text : List ℕ) (from done to : ℕ) → from ≤ done → done ≤ to → piece_of text (span_at from done) ++ take (to - done) (drop done text) ≡ piece_of text (span_at from to)
piece_on text from done to h k =
    ap (λ (more : List ℕ). take (done - from) (drop from text) ++ take (to - done) more) (ap (λ (n : ℕ). drop n text) (omega (arith, h)) ∙ sym (drop-drop (done - from) from text))
    ∙ (sym (take-add (done - from) (to - done) (drop from text)) ∙ ap (λ (n : ℕ). take n (drop from text)) (omega (arith, h, k)))
