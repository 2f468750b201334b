use Rattle.std.proofs.Common.{ap, arith}
use Rattle.std.proofs.lemmas.List.{take_rest}
use Rattle.memory_objects.proofs.Pieces.{left_here, gives_here, ends_here}
use Rattle.memory_objects.proofs.memory_source.MemorySourceSource.read.Goals as goal

pub returns-then-count-eq0-clause-count : goal.returns-then-count-eq0-clause-count
returns-then-count-eq0-clause-count c =
    let here = left_here _ c.self.inside.pieces c.self.inside.piece c.self.inside.given c.at.result.now (ap (λ s. s.left) c.self.view_is) c.at.ensures in
    let count = rw (take_rest, c.as_slice-2.ensures) at c.copy_front-count.ensures.count in
    rw here (omega (arith, count))

pub returns-then-count-eq0-clause-end : goal.returns-then-count-eq0-clause-end
returns-then-count-eq0-clause-end c = λ none room.
    let count = rw (take_rest, c.as_slice-2.ensures) at c.copy_front-count.ensures.count in
    ends_here _ c.self.inside.pieces c.self.inside.piece c.self.inside.given c.at.result.now (ap (λ s. s.left) c.self.view_is) c.at.ensures (omega (arith, count))

pub returns-else-count-eq0-clause-count : goal.returns-else-count-eq0-clause-count
returns-else-count-eq0-clause-count c =
    let here = left_here _ c.self.inside.pieces c.self.inside.piece c.self.inside.given c.at.result.now (ap (λ s. s.left) c.self.view_is) c.at.ensures in
    let count = rw (take_rest, c.as_slice-2.ensures) at c.copy_front-count.ensures.count in
    rw here (omega (arith, count, ap (λ s. s.step) c.self.view_is))

pub returns-else-count-eq0-clause-bytes : goal.returns-else-count-eq0-clause-bytes
returns-else-count-eq0-clause-bytes c = λ some.
    let front = rw (take_rest, c.as_slice-2.ensures) at c.copy_front-count.ensures.front in
    gives_here _ _ c.self.inside.pieces c.self.inside.piece c.self.inside.given c.copy_front-count.result c.at.result.now (ap (λ s. s.left) c.self.view_is) c.at.ensures front
