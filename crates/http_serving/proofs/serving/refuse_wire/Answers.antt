use Rattle.std.proofs.Common.{◌≡◌, sym, ap, ◌∙◌}
use Rattle.http_serving.specs.Routes.{RoutedAnswer}
use Rattle.http_serving.specs.Serving.{IsServed}
use Rattle.http_serving.specs.declared.ends.ConnectionEnd.TheVariants.{OutOfMemory}
use Rattle.http_serving.proofs.Entries.{entry_refused, returned}
use Rattle.http_serving.proofs.serving.refuse_wire.Goals as goal

pub returns-clause-refused : goal.returns-clause-refused
returns-clause-refused g c = λ received pieces was_read heard.
    let wire = c.args.wire in
    let told = c.send_unavailable.new.sink in
    let sent = c.send_unavailable.ensures in
    let other = sym (g.met.D.Wire.Wire.front_is told) ∙ sent.other ∙ g.met.D.Wire.Wire.front_is wire in
    let number : g.D.Wire.Wire.number told ≡ g.D.Wire.Wire.number wire = ap (λ side. side.number) other in
    let start : g.D.Wire.Wire.start told ≡ g.D.Wire.Wire.start wire = ap (λ side. side.start) other in
    let left : g.D.Wire.Source.left told ≡ g.D.Wire.Source.left wire = ap (λ side. side.left) other in
    let faults : g.D.Wire.Source.faults told ≡ g.D.Wire.Source.faults wire = ap (λ side. side.faults) other in
    let right = RoutedAnswer g.A.Answers.routes (g.A.Answers.right c.args.answers.now c.args.answers.now) in
    returned (IsServed right OutOfMemory pieces) (g.D.Door.log c.args.door.now) (g.D.Door.log c.done.new.self) (g.D.Wire.Wire.number wire) (g.D.Wire.Wire.number told)
    (g.D.Wire.Wire.start told) (g.D.Wire.Source.left told) (g.D.Wire.Sink.contents told) (g.D.Wire.Source.faults told) (g.D.Wire.Sink.faults told) number c.done.ensures.entry
    (λ entry is. entry_refused right received entry pieces (g.D.Wire.Wire.start wire) (g.D.Wire.Wire.start told) (g.D.Wire.Source.left wire) (g.D.Wire.Source.left told)
    (g.D.Wire.Sink.contents wire) (g.D.Wire.Sink.contents told) (g.D.Wire.Source.faults wire) (g.D.Wire.Source.faults told) (g.D.Wire.Sink.faults wire) (g.D.Wire.Sink.faults told)
    was_read heard sent.sent start left faults sent.whole is)
