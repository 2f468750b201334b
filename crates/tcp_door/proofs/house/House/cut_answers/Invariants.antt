use Rattle.tcp_door.specs.Houses.{OnlyCloses}
use Rattle.tcp_door.proofs.house.House.cut_answers.Given as goal

abbrev pub invariant-cuts : goal.invariant-cuts
invariant-cuts l = OnlyCloses l.fn.self.guests l.self.guests
