use Rattle.std.proofs.Common.{◌++◌, List, Err, ap, subst, length, arith}
use Rattle.std.specs.List.{flat_map}
use Rattle.sb_outside.specs.Writing.{HasFront}
use Rattle.update_client.specs.Held.{Held}
use Rattle.update_run.specs.Printed.{list_line}
use Rattle.update_run.proofs.Endings.{still_some, ends_if, stops_until}
use Rattle.update_run.proofs.running.run_opened.Goals as goal

pub finish-requires : goal.finish-requires
finish-requires g c =
    omega (arith, ap length c.lists.ensures.value, still_some c.args.plan.now c.args.client.now c.all_rounds.new.client _ _ c.in-Ok.refused c.in-Ok.ensures.took c.requires.some)

pub returns-in-Err-finish-clause-ends : goal.returns-in-Err-finish-clause-ends
returns-in-Err-finish-clause-ends g c =
    let front = subst (λ (lists : List Held). HasFront (g.O.Sink.contents c.all_rounds.new.out) (g.O.Sink.contents c.finish.new.out) (c.all_rounds.new.client.page ++ flat_map list_line lists))
    c.lists.ensures.value c.in-Err-finish.ensures.stopped in
    ends_if c.in-Err-finish.stop c.args.plan.now c.args.client.now c.all_rounds.new.client _ _ _ _ _ _ _ c.in-Ok.refused (λ e. c.in-Err-finish.ensures.no_keeper (ap Err e)) c.in-Ok.ensures.took front

pub returns-in-Err-clause-ends : goal.returns-in-Err-clause-ends
returns-in-Err-clause-ends g c = stops_until c.in-Err.stop c.args.plan.now c.args.client.now _ _ c.in-Err.ensures.stopped
