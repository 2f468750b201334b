use Rattle.std.proofs.Common.{◌≡◌, Some, ap, take, arith, append-nil}
use Rattle.sb_outside.specs.Sessions.{with_sent, with_failure}
use Rattle.memory_objects.specs.Plays.{LinkInMemory, SessionInMemory}
use Rattle.memory_objects.proofs.PlayedSteps.{told_after}
use Rattle.memory_objects.proofs.script_link.ScriptLinkLink.send.Goals as goal

pub returns-in-Ok-clause-ok : goal.returns-in-Ok-clause-ok
returns-in-Ok-clause-ok c =
    let was : c.args.self.now.last ≡ Some c.in-Some.session = cc in
    told_after c.args.self.now _ c.in-Some.session c.send.new.self.session (with_sent c.args.piece.now) was (ap (λ (s : LinkInMemory). s.past) c.self.view_is) (ap (λ (s : SessionInMemory). s.session) c.in-Ok.ensures.ok)

pub returns-in-Err-clause-err : goal.returns-in-Err-clause-err
returns-in-Err-clause-err c =
    let was : c.args.self.now.last ≡ Some c.in-Some.session = cc in
    (0, omega arith, told_after c.args.self.now _ c.in-Some.session c.send.new.self.session (λ session. with_failure (with_sent (take 0 c.args.piece.now) session)) was (ap (λ (s : LinkInMemory). s.past) c.self.view_is) (rw append-nil (ap (λ (s : SessionInMemory). s.session) c.in-Err.ensures.err)))
