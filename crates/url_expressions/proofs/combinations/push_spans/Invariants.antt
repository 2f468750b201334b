use Rattle.std.proofs.Common.{◌≡◌, ◌+◌, ◌-◌, ℕ, List, All, ◌++◌, take, drop}
use Rattle.std.specs.Prelude.{map}
use Rattle.url_expressions.specs.Spans.{IsWithin, piece_of}
use Rattle.url_expressions.proofs.combinations.push_spans.Given as goal

-- those so far
abbrev pub invariant-loop-path_len : goal.invariant-loop-path_len
invariant-loop-path_len l = record {
  pieces : (text : List ℕ) → map (piece_of text) l.all ≡ map (piece_of text) l.fn.all ++ map (λ len. take (l.path_at - l.from + len) (drop l.from text)) (take l.path_len-index l.path_lens);
  within : All (IsWithin l.whole) l.fn.all → All (IsWithin l.whole) l.all;
}
