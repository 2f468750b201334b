use Rattle.std.proofs.Common.{◌≡◌, length, take, ◌∙◌, arith, length-take}
use Rattle.std.proofs.lemmas.List.{take_rest}
use Rattle.memory_objects.proofs.PlayedSteps.{received_next}
use Rattle.memory_objects.proofs.played_session.PlayedSession.recv.Goals as goal

pub returns-clause-ok : goal.returns-clause-ok
returns-clause-ok c = λ some.
    let s = c.self.inside in
    let front = rw (take_rest, c.as_slice.ensures) at c.copy_front-count.ensures.front in
    let count : length (take c.copy_front-count.result c.copy_front-count.new.buffer) ≡ c.copy_front-count.result = simp length-take (omega (arith, c.copy_front-count.ensures.count, c.copy_front-count.auto.buffer)) in
    received_next c.args.self.now s.session s.gives s.sent.items _ s.failing s.given c.copy_front-count.result s.room s.calls s.asks (c.self.view_is ∙ c.call.ensures.counted) front count
