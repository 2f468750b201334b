use Rattle.std.proofs.Common.{◌∙◌, inl, inr}
use Rattle.mirror_run.specs.Events.{after_events}
use Rattle.mirror_run.specs.State.{before_all}
use Rattle.mirror_run.specs.State.Phase.{Finishing}
use Rattle.mirror_run.specs.Steps.{Anyhow, run_at}
use Rattle.mirror_run.proofs.FindSteps.{first_refused}
use Rattle.mirror_run.proofs.ending.refuse_waiting.Goals as goal

pub loop-alloc-preserved : goal.loop-alloc-preserved
loop-alloc-preserved g c =
    let inv = c.loop-alloc.invariant in (
      (λ plan now turns start run.
          let here = inv.0 plan now turns start run in
          let st = after_events start.first before_all here.events in
          first_refused plan start (run_at Finishing now turns) c.loop-alloc.run c.loop-alloc.world here c.refuse_first.new.run c.refuse_first.new.world Anyhow
          (c.refuse_first.ensures.gives start.outside.door st.taken st.over here.has.so.connections)
          (λ first rest how waits ends. inr (inr (inl here.stands.phase)))),
      c.refuse_first.ensures.rounds ∙ inv.1,
      c.refuse_first.ensures.finds ∙ inv.2,
    )
