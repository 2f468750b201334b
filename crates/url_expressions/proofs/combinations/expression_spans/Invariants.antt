use Rattle.std.proofs.Common.{◌≡◌, ◌+◌, ◌-◌, All, length, take, drop}
use Rattle.std.specs.Prelude.{map}
use Rattle.std.specs.List.{flat_map}
use Rattle.url_expressions.specs.Spans.{IsWithin, piece_of, text_behind_scheme}
use Rattle.url_expressions.proofs.combinations.expression_spans.Given as goal

-- the pieces of the hosts so far
abbrev pub invariant-loop-place : goal.invariant-loop-place
invariant-loop-place l = record {
  pieces : map (piece_of (text_behind_scheme l.url)) l.all
      ≡ flat_map (λ place. map (λ len. take (length l.host - place + len) (drop place (text_behind_scheme l.url))) l.lens.items) (take l.place-index l.place-items);
  within : All (IsWithin (length (text_behind_scheme l.url))) l.all;
}
