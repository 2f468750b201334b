use Rattle.std.specs.Int.{w32, to_be_bytes}
use Rattle.std.proofs.lemmas.Result.{on_ok_weaker}
use Rattle.delta_server.specs.Passages.{Passes}
use Rattle.delta_server.proofs.PassageFacts.{Takes, takes_from}
use Rattle.delta_server.proofs.passages.Passage.take.Goals as goal

pub returns : goal.returns
returns c =
    on_ok_weaker {P = Passes c.args.self.now c.pass.new.self (to_be_bytes w32 c.args.head) c.show.result c.show-2.result}
    {Q = Takes c.args.self.now c.pass.new.self c.args.run.now c.args.head c.args.held c.args.version} c.pass.result
    (takes_from c.args.self.now c.pass.new.self c.args.run.now c.args.head c.args.held c.args.version c.show.result c.show-2.result c.show.ensures c.show-2.ensures)
    c.pass.ensures
