use Rattle.std.proofs.Common.{subst}
use Rattle.std.specs.Prelude.{Result}
use Rattle.http_edge.specs.declared.faults.RequestFault.{RequestFault}
use Rattle.http_edge.specs.declared.faults.RequestFault.TheVariants.{ReadFault}
use Rattle.http_edge.specs.declared.messages.HttpRequest.{HttpRequest}
use Rattle.http_serving.specs.Hearing.{IsHeard}
use Rattle.mirror_connections.proofs.taking.refuse_heard.Goals as goal

pub returns-in_default-clause-served : goal.returns-in_default-clause-served
returns-in_default-clause-served g c pieces heard = c.refuse_wire.ensures.refused c.args.received pieces (c.in_default.not-Err ReadFault) heard

pub returns-clause-served : goal.returns-clause-served
returns-clause-served g c pieces heard =
    c.answer_wire.ensures.served pieces
    (subst (λ (r : Result HttpRequest RequestFault). IsHeard r pieces (g.D.Wire.Wire.start c.args.wire) (g.D.Wire.Source.left c.args.wire) (g.D.Wire.Sink.contents c.args.wire) (g.D.Wire.Source.faults c.args.wire) (g.D.Wire.Sink.faults c.args.wire))
    c.in-Err.is heard)
