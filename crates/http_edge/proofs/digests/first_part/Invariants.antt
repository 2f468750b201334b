use Rattle.std.proofs.Common.{◌≡◌, false, take, eqb}
use Rattle.std.specs.Prelude.{All}
use Rattle.http_edge.proofs.digests.first_part.Given as goal

abbrev pub invariant-loop-at : goal.invariant-loop-at
invariant-loop-at l = All (λ byte. eqb byte 44 ≡ false) (take l.at l.value)
