use Rattle.std.specs.Prelude.{◌≡◌}
use Rattle.gathering.specs.Wires.{all_left}
use Rattle.gathering.specs.declared.steps.Sent.TheVariants.{Taken}
use Rattle.tcp_door.specs.Guests.{IsLeftAfterTry}
use Rattle.tcp_door.proofs.guests.send_pieces.Given as goal

abbrev pub invariant-pieces : goal.invariant-pieces
invariant-pieces l = IsLeftAfterTry (all_left l.fn.answer) (all_left l.answer) (Taken l.taken) × (l.stream ≡ l.fn.stream)
