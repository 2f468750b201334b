use Rattle.std.proofs.Common.{◌≡◌, ℕ, List, Option, true, refl, sym, ap, ◌∙◌, subst}
use Rattle.mirror_connections.specs.Over.{door_seen}
use Rattle.sb_outside.specs.declared.doors.Connection.{Connection}
use Rattle.mirror_run.specs.Events.{first_cause}
use Rattle.mirror_run.specs.SoFar.{MirrorOutside, MirrorOwn}
use Rattle.mirror_run.specs.State.Phase.{Between, Ending}
use Rattle.mirror_run.specs.Steps.{RunsSo, run_at}
use Rattle.mirror_run.specs.declared.stop.MirrorStop.TheVariants as cause
use Rattle.mirror_run.proofs.TakeSteps.{door_failed_now, no_more_came, nothing_came}
use Rattle.mirror_run.proofs.Views.{outside_of, own_of}
use Rattle.mirror_run.proofs.taking.take_next.Goals as goal

pub returns-then-is_over : goal.returns-then-is_over
returns-then-is_over g c turns = (c.args.now, λ start run. nothing_came c.args.plan.now start c.args.now turns c.args.run.now c.args.world.now run c.args.world.now.door refl)

pub returns-in-Ok-Connected : goal.returns-in-Ok-Connected
returns-in-Ok-Connected g c turns = (
  c.now-heard.result,
  λ start run.
      let plan = c.args.plan.now in
      let own : MirrorOwn = own_of c.run.inside.rounds c.run.inside.finds c.run.inside.connections c.run.inside.wait c.run.inside.answered c.run.inside.no_more c.run.inside.stop in
      let seen : MirrorOutside = outside_of (g.N.Line.view c.world.inside.updates) (g.M.Line.view c.world.inside.finds) (g.K.Keeper.handed c.world.inside.keep) (g.K.Keeper.kept c.world.inside.keep) (g.O.Sink.contents c.world.inside.out) (g.C.Clock.answers c.world.inside.clock) (g.D.Door.log c.world.inside.door) (g.D.Door.coming c.world.inside.door) (g.O.Sink.faults c.world.inside.out) (g.K.Keeper.faults c.world.inside.keep) (g.D.Door.faults c.world.inside.door) in
      let run_now : RunsSo (run_at Ending c.args.now turns) plan start own seen = subst (λ (w : MirrorOutside). RunsSo (run_at Ending c.args.now turns) plan start own w) (sym c.world.view_is)
      (subst (λ (o : MirrorOwn). RunsSo (run_at Ending c.args.now turns) plan start o c.args.world.now) (sym c.run.view_is) run) in
      let door' = c.next_before.new.self in
      let is_wire = c.in-Ok-Connected.field-0-is in
      let first = rw is_wire at c.in-Ok-Connected.ensures.first in
      let faults = rw is_wire at c.in-Ok-Connected.ensures.no_faults in
      c.take_wire.ensures c.args.now turns start seen.door seen.readings first.pieces
      (subst (λ (o : MirrorOwn). RunsSo (run_at Ending c.args.now turns) plan start o (record seen { faults = record seen.faults { door = g.D.Door.faults door' } })) c.run.view_is
      (subst (λ (n : ℕ). RunsSo (run_at Ending c.args.now turns) plan start own (record seen { faults = record seen.faults { door = n } })) (sym c.in-Ok-Connected.ensures.kept) run_now))
      c.now-heard.ensures.told
      (record {
        came = first.first;
        opened = rw is_wire at c.in-Ok-Connected.ensures.opened;
        placed = rw is_wire at c.in-Ok-Connected.ensures.number;
        fresh = record { some = first.some; started = first.started; remains = first.remains; nothing = rw is_wire at c.in-Ok-Connected.ensures.nothing_written; no_reads = faults.0; no_writes = faults.1 };
      }),
)

pub returns-in-Ok-NoMore : goal.returns-in-Ok-NoMore
returns-in-Ok-NoMore g c turns = (
  c.args.now,
  λ start run.
      let plan = c.args.plan.now in
      let own : MirrorOwn = own_of c.run.inside.rounds c.run.inside.finds c.run.inside.connections c.run.inside.wait c.run.inside.answered c.run.inside.no_more c.run.inside.stop in
      let seen : MirrorOutside = outside_of (g.N.Line.view c.world.inside.updates) (g.M.Line.view c.world.inside.finds) (g.K.Keeper.handed c.world.inside.keep) (g.K.Keeper.kept c.world.inside.keep) (g.O.Sink.contents c.world.inside.out) (g.C.Clock.answers c.world.inside.clock) (g.D.Door.log c.world.inside.door) (g.D.Door.coming c.world.inside.door) (g.O.Sink.faults c.world.inside.out) (g.K.Keeper.faults c.world.inside.keep) (g.D.Door.faults c.world.inside.door) in
      let run_now : RunsSo (run_at Ending c.args.now turns) plan start own seen = subst (λ (w : MirrorOutside). RunsSo (run_at Ending c.args.now turns) plan start own w) (sym c.world.view_is)
      (subst (λ (o : MirrorOwn). RunsSo (run_at Ending c.args.now turns) plan start o c.args.world.now) (sym c.run.view_is) run) in
      let door' = c.next_before.new.self in
      let is = c.in-Ok-NoMore.field-0-is in
      let same_log = rw is at c.in-Ok-NoMore.ensures.same_log in
      let same_coming = rw is at c.in-Ok-NoMore.ensures.same_coming in
      let same : door_seen (g.D.Door.log door') (g.D.Door.coming door') ≡ seen.door = ap (λ (l : Option (List Connection)). door_seen l (g.D.Door.coming door')) (same_log refl)
      ∙ ap (λ (k : Option (List (List (List ℕ)))). door_seen (g.D.Door.log c.world.inside.door) k) (same_coming refl) in
      subst (λ (n : ℕ). RunsSo (run_at Between c.args.now turns) plan start (record own { no_more = true }) (outside_of (g.N.Line.view c.world.inside.updates) (g.M.Line.view c.world.inside.finds) (g.K.Keeper.handed c.world.inside.keep) (g.K.Keeper.kept c.world.inside.keep) (g.O.Sink.contents c.world.inside.out) (g.C.Clock.answers c.world.inside.clock) (g.D.Door.log door') (g.D.Door.coming door') (g.O.Sink.faults c.world.inside.out) (g.K.Keeper.faults c.world.inside.keep) n)) (sym c.in-Ok-NoMore.ensures.kept)
      (no_more_came plan start c.args.now turns own seen run_now (door_seen (g.D.Door.log door') (g.D.Door.coming door')) same (c.in-Ok-NoMore.ensures.none is)),
)

pub returns-in-Ok-TimedOut : goal.returns-in-Ok-TimedOut
returns-in-Ok-TimedOut g c turns = (
  c.args.now,
  λ start run.
      let plan = c.args.plan.now in
      let own : MirrorOwn = own_of c.run.inside.rounds c.run.inside.finds c.run.inside.connections c.run.inside.wait c.run.inside.answered c.run.inside.no_more c.run.inside.stop in
      let seen : MirrorOutside = outside_of (g.N.Line.view c.world.inside.updates) (g.M.Line.view c.world.inside.finds) (g.K.Keeper.handed c.world.inside.keep) (g.K.Keeper.kept c.world.inside.keep) (g.O.Sink.contents c.world.inside.out) (g.C.Clock.answers c.world.inside.clock) (g.D.Door.log c.world.inside.door) (g.D.Door.coming c.world.inside.door) (g.O.Sink.faults c.world.inside.out) (g.K.Keeper.faults c.world.inside.keep) (g.D.Door.faults c.world.inside.door) in
      let run_now : RunsSo (run_at Ending c.args.now turns) plan start own seen = subst (λ (w : MirrorOutside). RunsSo (run_at Ending c.args.now turns) plan start own w) (sym c.world.view_is)
      (subst (λ (o : MirrorOwn). RunsSo (run_at Ending c.args.now turns) plan start o c.args.world.now) (sym c.run.view_is) run) in
      let door' = c.next_before.new.self in
      let is = c.in-Ok-TimedOut.field-0-is in
      let same_log = rw is at c.in-Ok-TimedOut.ensures.same_log in
      let same_coming = rw is at c.in-Ok-TimedOut.ensures.same_coming in
      let same : door_seen (g.D.Door.log door') (g.D.Door.coming door') ≡ seen.door = ap (λ (l : Option (List Connection)). door_seen l (g.D.Door.coming door')) (same_log refl)
      ∙ ap (λ (k : Option (List (List (List ℕ)))). door_seen (g.D.Door.log c.world.inside.door) k) (same_coming refl) in
      subst (λ (o : MirrorOwn). RunsSo (run_at Between c.args.now turns) plan start o (outside_of (g.N.Line.view c.world.inside.updates) (g.M.Line.view c.world.inside.finds) (g.K.Keeper.handed c.world.inside.keep) (g.K.Keeper.kept c.world.inside.keep) (g.O.Sink.contents c.world.inside.out) (g.C.Clock.answers c.world.inside.clock) (g.D.Door.log door') (g.D.Door.coming door') (g.O.Sink.faults c.world.inside.out) (g.K.Keeper.faults c.world.inside.keep) (g.D.Door.faults door'))) c.run.view_is
      (subst (λ (n : ℕ). RunsSo (run_at Between c.args.now turns) plan start own (outside_of (g.N.Line.view c.world.inside.updates) (g.M.Line.view c.world.inside.finds) (g.K.Keeper.handed c.world.inside.keep) (g.K.Keeper.kept c.world.inside.keep) (g.O.Sink.contents c.world.inside.out) (g.C.Clock.answers c.world.inside.clock) (g.D.Door.log door') (g.D.Door.coming door') (g.O.Sink.faults c.world.inside.out) (g.K.Keeper.faults c.world.inside.keep) n)) (sym c.in-Ok-TimedOut.ensures.kept)
      (nothing_came plan start c.args.now turns own seen run_now (door_seen (g.D.Door.log door') (g.D.Door.coming door')) same)),
)

pub returns-in-Err : goal.returns-in-Err
returns-in-Err g c turns = (
  c.args.now,
  λ start run.
      let plan = c.args.plan.now in
      let own : MirrorOwn = own_of c.run.inside.rounds c.run.inside.finds c.run.inside.connections c.run.inside.wait c.run.inside.answered c.run.inside.no_more c.run.inside.stop in
      let seen : MirrorOutside = outside_of (g.N.Line.view c.world.inside.updates) (g.M.Line.view c.world.inside.finds) (g.K.Keeper.handed c.world.inside.keep) (g.K.Keeper.kept c.world.inside.keep) (g.O.Sink.contents c.world.inside.out) (g.C.Clock.answers c.world.inside.clock) (g.D.Door.log c.world.inside.door) (g.D.Door.coming c.world.inside.door) (g.O.Sink.faults c.world.inside.out) (g.K.Keeper.faults c.world.inside.keep) (g.D.Door.faults c.world.inside.door) in
      let run_now : RunsSo (run_at Ending c.args.now turns) plan start own seen = subst (λ (w : MirrorOutside). RunsSo (run_at Ending c.args.now turns) plan start own w) (sym c.world.view_is)
      (subst (λ (o : MirrorOwn). RunsSo (run_at Ending c.args.now turns) plan start o c.args.world.now) (sym c.run.view_is) run) in
      let door' = c.next_before.new.self in
      let same : door_seen (g.D.Door.log door') (g.D.Door.coming door') ≡ seen.door = ap (λ (l : Option (List Connection)). door_seen l (g.D.Door.coming door')) (c.in-Err.ensures.err_log)
      ∙ ap (λ (k : Option (List (List (List ℕ)))). door_seen (g.D.Door.log c.world.inside.door) k) (c.in-Err.ensures.err_coming) in
      rw c.note.ensures (subst (λ (o : MirrorOwn). RunsSo (run_at Between c.args.now turns) plan start (record o { stop = first_cause o.stop cause.DoorFault }) (outside_of (g.N.Line.view c.world.inside.updates) (g.M.Line.view c.world.inside.finds) (g.K.Keeper.handed c.world.inside.keep) (g.K.Keeper.kept c.world.inside.keep) (g.O.Sink.contents c.world.inside.out) (g.C.Clock.answers c.world.inside.clock) (g.D.Door.log door') (g.D.Door.coming door') (g.O.Sink.faults c.world.inside.out) (g.K.Keeper.faults c.world.inside.keep) (g.D.Door.faults door'))) c.run.view_is
      (door_failed_now plan start c.args.now turns own seen run_now (door_seen (g.D.Door.log door') (g.D.Door.coming door')) (g.D.Door.faults door') (first_cause own.stop cause.DoorFault) same c.in-Err.ensures.failed refl)),
)
