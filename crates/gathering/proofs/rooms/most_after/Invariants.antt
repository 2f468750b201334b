use Rattle.std.proofs.Common.{◌≡◌, ◌-◌}
use Rattle.gathering.specs.Rooms.{most_after}
use Rattle.gathering.proofs.rooms.most_after.Given as goal

abbrev pub invariant-loop-minute : goal.invariant-loop-minute
invariant-loop-minute l = most_after (l.minutes - l.minute) l.limits l.reached ≡ most_after l.minutes l.limits l.fn.most
