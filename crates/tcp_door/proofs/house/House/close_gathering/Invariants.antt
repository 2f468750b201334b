use Rattle.tcp_door.specs.Houses.{OnlyCloses}
use Rattle.tcp_door.proofs.house.House.close_gathering.Given as goal

abbrev pub invariant-gathering : goal.invariant-gathering
invariant-gathering l = OnlyCloses l.fn.self.guests l.self.guests
