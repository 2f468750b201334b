use Rattle.std.proofs.Common.{◌≡◌, Some, ap}
use Rattle.sb_outside.specs.Sessions.{with_close}
use Rattle.memory_objects.specs.Plays.{LinkInMemory, SessionInMemory}
use Rattle.memory_objects.proofs.PlayedSteps.{told_after}
use Rattle.memory_objects.proofs.script_link.ScriptLinkLink.close.Goals as goal

pub returns-clause-closed : goal.returns-clause-closed
returns-clause-closed c =
    let was : c.args.self.now.last ≡ Some c.in-Some.session = cc in
    told_after c.args.self.now _ c.in-Some.session c.close.new.self.session (with_close c.args.at) was (ap (λ (s : LinkInMemory). s.past) c.self.view_is) (ap (λ (s : SessionInMemory). s.session) c.close.ensures)
