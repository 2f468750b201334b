-- What a door that tells nothing of what is to come says of the wire that it hands out.
use Rattle.std.proofs.Common.{ℕ, None, Some, refl, sym, ap, arith}
use Rattle.sb_outside.specs.Connections.{TakesFirst, pieces_of_wire}
use Rattle.gathering.specs.Wires.{WireInHand, IsFreshWire}

pub takes_first : (number : ℕ) (wire : WireInHand) → IsFreshWire number wire → TakesFirst None None (Some (pieces_of_wire wire.sends)) (Some wire.left)
takes_first number wire fresh = record { pieces = pieces_of_wire wire.sends; some = omega arith; first = refl; started = refl; remains = ap (λ left. Some left) (sym fresh.whole) }
