use Rattle.std.proofs.Common.{take}
use Rattle.delta_server.specs.Sweeping.{HasPlacesBetween, HasSwept, shown_at}
use Rattle.delta_server.proofs.sweeping.sweep_of.Given as goal

abbrev pub invariant-loop-stretch : goal.invariant-loop-stretch
invariant-loop-stretch l = record {
  room : HasPlacesBetween l.sweep l.first l.end;
  swept : HasSwept l.sweep l.first l.end (shown_at l.stretches l.first) (take l.stretch-index l.stretches);
}
