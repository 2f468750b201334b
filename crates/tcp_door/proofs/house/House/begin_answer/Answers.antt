use Rattle.std.proofs.Common.{sym, ap}
use Rattle.gathering.specs.Wires.{all_left}
use Rattle.tcp_door.specs.Guests.{left_of}
use Rattle.tcp_door.proofs.Rounds.{answer_begins}
use Rattle.tcp_door.proofs.house.House.begin_answer.Goals as goal

pub returns : goal.returns
returns c =
    let begins = c.begin_answer.ensures in
    answer_begins c.args.self.now.guests c.settle.new.self.guests c.args.slot c.in-Some.guest.now c.begin_answer.new.self (all_left c.args.answer)
    (sym c.in-Some.ensures.value) (ap (λ g. g.serial) begins) (ap (λ g. left_of g.answer) begins) c.settle.ensures
