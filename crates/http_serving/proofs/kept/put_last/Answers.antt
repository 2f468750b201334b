use Rattle.http_serving.proofs.Rooms.{turned}
use Rattle.http_serving.proofs.kept.put_last.Goals as goal

pub returns-clause-size : goal.returns-clause-size
returns-clause-size g c = turned c.args.answers.now c.rotate_left.new.self c.args.place c.rotate_left.ensures.permutation
