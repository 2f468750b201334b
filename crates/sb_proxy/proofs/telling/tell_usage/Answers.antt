use Rattle.std.proofs.Common.{inr}
use Rattle.sb_proxy.proofs.Fronts.{front_of}
use Rattle.sb_proxy.proofs.telling.tell_usage.Goals as goal

pub returns-in-Err-clause-usage : goal.returns-in-Err-clause-usage
returns-in-Err-clause-usage g c =
    let cut = c.in-Err.ensures.err in
    inr (c.in-Err.ensures.failed, front_of _ _ cut.0 _ c.args.usage.now c.as_bytes.ensures.value cut.1 cut.2)
