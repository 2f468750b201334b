use Rattle.std.specs.Prelude.{◌≡◌}
use Rattle.tcp_door.specs.Houses.{OnlyCloses}
use Rattle.tcp_door.proofs.house.House.drop_longest.Given as goal

abbrev pub invariant-drops : goal.invariant-drops
invariant-drops l = OnlyCloses l.fn.self.guests l.self.guests × (l.self.buffer ≡ l.fn.self.buffer)
