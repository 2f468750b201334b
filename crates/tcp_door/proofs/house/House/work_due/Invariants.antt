use Rattle.tcp_door.specs.Houses.{WorksForAll}
use Rattle.tcp_door.proofs.house.House.work_due.Given as goal

abbrev pub invariant-due : goal.invariant-due
invariant-due l = WorksForAll l.fn.self.guests l.self.guests
