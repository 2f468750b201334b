use Rattle.std.proofs.Common.{◌≡◌, ◌-◌, ◌*◌, ◌^◌, ◌<◌}
use Rattle.sb_model.proofs.durations.scaled.Given as goal

-- the number with a zero more for each turn
abbrev pub invariant-loop-place : goal.invariant-loop-place
invariant-loop-place l = (l.nanos ≡ l.fn.number * 10 ^ (l._place - l.fn.digits)) × (l.nanos < 10 ^ l._place)
