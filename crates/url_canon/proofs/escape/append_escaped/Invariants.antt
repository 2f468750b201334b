use Rattle.std.proofs.Common.{◌≡◌, ◌++◌, length}
use Rattle.url_canon.specs.Escaping.{escaped}
use Rattle.url_canon.proofs.escape.append_escaped.Given as goal

abbrev pub invariant-loop-place : goal.invariant-loop-place
invariant-loop-place l = l.out ++ escaped l.rest ≡ l.fn.out ++ escaped l.text

abbrev pub decreases-loop-place : goal.decreases-loop-place
decreases-loop-place l = length l.rest
