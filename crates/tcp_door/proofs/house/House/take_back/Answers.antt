use Rattle.gathering.specs.Wires.{all_left}
use Rattle.tcp_door.proofs.Rounds.{taken_back, closed_back}
use Rattle.tcp_door.proofs.house.House.take_back.Goals as goal

pub returns-in-Some : goal.returns-in-Some
returns-in-Some c =
    taken_back c.args.self.now.guests c.end_turn.new.self.guests c.send_answer.new.self.guests c.args.wire c.slot-slot.result c.serial-serial.result (all_left c.in-Some.answer)
    c.slot-slot.ensures c.serial-serial.ensures (c.has_turn.ensures.0 c.if-not-has_turn.false) c.end_turn.ensures c.send_answer.ensures c.in-Some.ensures.answer

pub returns-in-None : goal.returns-in-None
returns-in-None c =
    closed_back c.args.self.now.guests c.end_turn.new.self.guests c.close.new.self.guests c.args.wire c.slot-slot.result c.slot-slot.ensures c.end_turn.ensures c.close.ensures.closed
