use Rattle.std.proofs.Common.{List, subst}
use Rattle.proxy_run.specs.Allowed.{MayAllProxyEventsCome}
use Rattle.proxy_run.specs.Events.{ProxyEvent}
use Rattle.proxy_run.specs.State.{before_proxy}
use Rattle.proxy_laws.proofs.Rightness.{answer_holds}
use Rattle.proxy_laws.proofs.verdicts.proxy_runs_hold.Goals as goal

pub returns : goal.returns
returns c plan start ended before after history token_at opens run formed replicas later earlier one part splits =
    let may = subst (λ (events : List ProxyEvent). MayAllProxyEventsCome plan start.first before_proxy events) splits run.has.may in
    answer_holds c.proxy_verdicts_hold.ensures c.replicas_stay.ensures history token_at start.first formed replicas opens.kept earlier one
    (c.answers_go_back_to_lists.ensures plan start.first later earlier one part may)
