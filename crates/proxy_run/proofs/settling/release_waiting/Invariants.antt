use Rattle.std.proofs.Common.{◌≡◌, Bool, List}
use Rattle.proxy_run.specs.LookAllowed.{look_at}
use Rattle.proxy_run.specs.LookSoFar.{HoldLooksSo, LookStart}
use Rattle.proxy_run.specs.LookState.{LookState}
use Rattle.proxy_run.specs.LookSteps.{IsReleasedFrom, IsReleasing, KeepsDoor, LooksGoTo}
use Rattle.proxy_run.specs.declared.plan.ProxyPlan.{ProxyPlan}
use Rattle.proxy_run.proofs.settling.release_waiting.Given as goal
use Rattle.sb_model.specs.declared.time.Moment.{Moment}
use Rattle.update_client.specs.Held.{Held}

-- the first were answered, and nothing else was done
abbrev pub invariant-loop-held : goal.invariant-loop-held
invariant-loop-held g l = record {
  goes : (plan : ProxyPlan) (start : LookStart) (state : LookState) (lists : List Held) (now : Moment) (ending : Bool) → HoldLooksSo plan start state l.initial.held l.initial.world → IsReleasing state
      → LooksGoTo (look_at plan start.desk lists now ending) start state (IsReleasedFrom state) l.held l.world;
  others : l.held ≡ record l.initial.held { connections = l.held.connections; place = l.held.place; left = l.held.left; stop = l.held.stop };
  taken : l.held.connections.taken ≡ l.initial.held.connections.taken;
  door : KeepsDoor l.initial.world l.world;
}

abbrev pub decreases-loop-held : goal.decreases-loop-held
decreases-loop-held g l = l.held.left
