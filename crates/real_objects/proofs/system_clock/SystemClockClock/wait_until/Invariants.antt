use Rattle.std.proofs.Common.{◌≤◌}
use Rattle.real_objects.proofs.system_clock.SystemClockClock.wait_until.Given as goal

abbrev pub invariant-loop : goal.invariant-loop
invariant-loop g l = l.initial.self ≤ l.self
