use Rattle.std.proofs.Common.{◌≡◌, Some, ap, take}
use Rattle.sb_outside.specs.Sessions.{with_received, with_end, with_failure}
use Rattle.memory_objects.specs.Plays.{LinkInMemory, SessionInMemory}
use Rattle.memory_objects.proofs.PlayedSteps.{told_after}
use Rattle.memory_objects.proofs.script_link.ScriptLinkLink.recv.Goals as goal

pub returns-in-Ok-clause-bytes : goal.returns-in-Ok-clause-bytes
returns-in-Ok-clause-bytes c = λ some.
    let was : c.args.self.now.last ≡ Some c.in-Some.session = cc in
    told_after c.args.self.now _ c.in-Some.session c.recv.new.self.session (with_received (take c.in-Ok.count c.recv.new.buffer)) was (ap (λ (s : LinkInMemory). s.past) c.self.view_is) (ap (λ (s : SessionInMemory). s.session) (c.in-Ok.ensures.ok some))

pub returns-in-Ok-clause-end : goal.returns-in-Ok-clause-end
returns-in-Ok-clause-end c = λ none room.
    let was : c.args.self.now.last ≡ Some c.in-Some.session = cc in
    told_after c.args.self.now _ c.in-Some.session c.recv.new.self.session (with_end) was (ap (λ (s : LinkInMemory). s.past) c.self.view_is) (ap (λ (s : SessionInMemory). s.session) (c.in-Ok.ensures.end none room))

pub returns-in-Err-clause-err : goal.returns-in-Err-clause-err
returns-in-Err-clause-err c =
    let was : c.args.self.now.last ≡ Some c.in-Some.session = cc in
    told_after c.args.self.now _ c.in-Some.session c.recv.new.self.session (with_failure) was (ap (λ (s : LinkInMemory). s.past) c.self.view_is) (ap (λ (s : SessionInMemory). s.session) c.in-Err.ensures.err)
