use Rattle.std.proofs.Common.{sym, ◌∙◌}
use Rattle.timed_sessions.proofs.Beginnings.{begun_at_once, begun_later}
use Rattle.timed_sessions.proofs.timing.begin.Goals as goal

pub returns-then-may_send : goal.returns-then-may_send
returns-then-may_send g c = begun_at_once c.args.waits c.args.read _ (sym c.may_send.ensures ∙ c.if-may_send.true) c.requires

pub returns : goal.returns
returns g c =
    begun_later c.args.waits c.args.read c.wait_until.result _ _ (sym c.may_send.ensures ∙ c.if-may_send.false) c.requires c.wait_until.ensures
