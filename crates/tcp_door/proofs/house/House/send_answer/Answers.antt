use Rattle.gathering.specs.Wires.{all_left}
use Rattle.tcp_door.proofs.Rounds.{answer_sent}
use Rattle.tcp_door.proofs.house.House.send_answer.Goals as goal

pub returns : goal.returns
returns c =
    answer_sent c.args.self.now.guests c.begin_answer.new.self.guests c.work.new.self.guests c.cut_answers.new.self.guests c.args.slot (all_left c.args.answer)
    c.begin_answer.ensures c.work.ensures c.cut_answers.ensures
