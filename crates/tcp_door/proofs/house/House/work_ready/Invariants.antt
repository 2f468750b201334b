use Rattle.tcp_door.specs.Houses.{WorksForAll}
use Rattle.tcp_door.proofs.house.House.work_ready.Given as goal

abbrev pub invariant-ready : goal.invariant-ready
invariant-ready l = WorksForAll l.fn.self.guests l.self.guests
