use Rattle.tcp_door.specs.Houses.{OnlyCloses}
use Rattle.tcp_door.proofs.house.House.hand_out.Given as goal

abbrev pub invariant-line : goal.invariant-line
invariant-line l = OnlyCloses l.fn.self.guests l.self.guests
