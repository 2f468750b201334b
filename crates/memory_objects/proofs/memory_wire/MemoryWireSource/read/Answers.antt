use Rattle.std.proofs.Common.{ap}
use Rattle.std.proofs.lemmas.List.{take_rest}
use Rattle.memory_objects.proofs.WirePieces.{gives_next}
use Rattle.memory_objects.proofs.memory_wire.MemoryWireSource.read.Goals as goal

pub returns-else-count-eq0-clause-bytes : goal.returns-else-count-eq0-clause-bytes
returns-else-count-eq0-clause-bytes c = λ some.
    let front = rw (take_rest, c.as_slice-2.ensures) at c.copy_front-count.ensures.front in
    gives_next c.self.inside.has_ended _ c.self.inside.sends _ c.self.inside.given c.copy_front-count.result c.if-self.false (ap (λ s. s.left) c.self.view_is) front
