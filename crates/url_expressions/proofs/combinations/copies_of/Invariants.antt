use Rattle.std.proofs.Common.{◌≡◌, take}
use Rattle.std.specs.Prelude.{map}
use Rattle.url_expressions.specs.Spans.{piece_of}
use Rattle.url_expressions.proofs.combinations.copies_of.Given as goal

-- copies of those so far
abbrev pub invariant-loop-span : goal.invariant-loop-span
invariant-loop-span l = l.all ≡ map (piece_of l.text) (take l.span-index l.spans)
