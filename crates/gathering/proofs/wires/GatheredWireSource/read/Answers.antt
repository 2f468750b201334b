use Rattle.std.proofs.Common.{ap}
use Rattle.std.proofs.lemmas.List.{take_rest}
use Rattle.gathering.proofs.WireReads.{gives_next}
use Rattle.gathering.proofs.wires.GatheredWireSource.read.Goals as goal

pub returns-then-count-gt0-clause-bytes : goal.returns-then-count-gt0-clause-bytes
returns-then-count-gt0-clause-bytes c = λ some.
    let front = rw (take_rest, c.as_slice.ensures) at c.copy_front-count.ensures.front in
    gives_next c.self.inside.has_ended _ c.self.inside.gathered _ c.self.inside.given c.copy_front-count.result c.if-self.false (ap (λ s. s.left) c.self.view_is) front
