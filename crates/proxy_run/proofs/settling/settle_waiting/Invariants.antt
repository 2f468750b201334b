use Rattle.std.proofs.Common.{◌≡◌, Bool, List}
use Rattle.proxy_run.specs.LookAllowed.{look_at}
use Rattle.proxy_run.specs.LookSoFar.{HoldLooksSo, LookStart}
use Rattle.proxy_run.specs.LookState.{LookState}
use Rattle.proxy_run.specs.LookSteps.{IsToSettle, KeepsDoor, LooksGoTo}
use Rattle.proxy_run.proofs.settling.settle_waiting.Given as goal
use Rattle.update_client.specs.Held.{Held}

-- the first were settled, and nothing else was done
abbrev pub invariant-loop-held : goal.invariant-loop-held
invariant-loop-held g l = record {
  goes : (start : LookStart) (state : LookState) (lists : List Held) (ending : Bool) → HoldLooksSo l.plan start state l.initial.held l.initial.world → IsToSettle state
      → LooksGoTo (look_at l.plan start.desk lists l.now ending) start state IsToSettle l.held l.world;
  opened : l.held.desk.opened ≡ l.initial.held.desk.opened;
  door : KeepsDoor l.initial.world l.world;
}

abbrev pub decreases-loop-held : goal.decreases-loop-held
decreases-loop-held g l = l.held.left
