use Rattle.std.proofs.Common.{◌≡◌, ◌-◌, ◌++◌, length}
use Rattle.std.specs.Prelude.{replicate, decimal}
use Rattle.sb_model.proofs.durations.push_padded.Given as goal

-- so many zeros so far
abbrev pub invariant-loop-place : goal.invariant-loop-place
invariant-loop-place l = l.text ≡ l.initial.text ++ replicate (l._place - length (decimal l.fn.number)) 48
