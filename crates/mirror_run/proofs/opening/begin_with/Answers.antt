use Rattle.std.proofs.Common.{◌≡◌, ℕ, List, false, refl, sym, ap, ◌∙◌, subst}
use Rattle.mirror_connections.specs.Open.{ConnectionsSeen}
use Rattle.mirror_finds.specs.Finds.{FindsSeen}
use Rattle.mirror_rounds.specs.Rounds.{MirrorSeen}
use Rattle.mirror_run.specs.Run.{BeginsWaiting, DrawsMirrorEpoch}
use Rattle.mirror_run.specs.SoFar.{MirrorOutside}
use Rattle.mirror_run.specs.State.{told_wait}
use Rattle.mirror_run.proofs.BeginFacts.{run_begins, start_of}
use Rattle.mirror_run.proofs.Views.{outside_of}
use Rattle.update_client.specs.Held.{Held}
use Rattle.wait_rules.specs.declared.waits.WaitState.{WaitState}
use Rattle.mirror_run.proofs.opening.begin_with.Goals as goal

pub invariant_of-result : goal.invariant_of-result
invariant_of-result g c = c.no_answers_kept.ensures c.in_ok-rounds.rounds.places c.wait_told-wait.result

pub returns-clause-begun : goal.returns-clause-begun
returns-clause-begun g c =
    let rounds = c.in_ok-rounds.rounds in
    let finds = c.new-finds.result in
    let conns = c.in_ok-connections.connections in
    let after : MirrorOutside = outside_of (g.N.Line.view c.first_wait-waits.new.line) (g.M.Line.view c.first_wait.new.line) (g.K.Keeper.handed c.world.inside.keep) (g.K.Keeper.kept c.world.inside.keep) (g.O.Sink.contents c.world.inside.out) (g.C.Clock.answers c.world.inside.clock) (g.D.Door.log c.world.inside.door) (g.D.Door.coming c.world.inside.door) (g.O.Sink.faults c.world.inside.out) (g.K.Keeper.faults c.world.inside.keep) (g.D.Door.faults c.world.inside.door) in
    let lists : rounds.state.lists ≡ c.args.lists = ap (λ (r : MirrorSeen). r.state.lists) c.in_ok-rounds.ensures.first in
    record {
      start = start_of rounds finds after;
      outside = refl;
      lists_are = lists;
      between = g.N.Line.view c.draw_epoch-epoch.new.line;
      epoch = subst (λ (w : MirrorOutside). DrawsMirrorEpoch rounds.places.epoch w.updates (g.N.Line.view c.draw_epoch-epoch.new.line)) c.world.view_is
          (subst (λ (e : ℕ). DrawsMirrorEpoch e (g.N.Line.view c.world.inside.updates) (g.N.Line.view c.draw_epoch-epoch.new.line)) (sym (ap (λ (r : MirrorSeen). r.places.epoch) c.in_ok-rounds.ensures.first)) c.draw_epoch-epoch.ensures.drawn);
      round = subst (λ (w : WaitState). BeginsWaiting w (g.N.Line.view c.draw_epoch-epoch.new.line) after.updates) (sym (ap (λ (r : MirrorSeen). r.state.waits) c.in_ok-rounds.ensures.first)) c.first_wait-waits.ensures.waits;
      find = subst (λ (w : MirrorOutside). BeginsWaiting finds.waits w.finds after.finds) c.world.view_is
          (subst (λ (w : WaitState). BeginsWaiting w (g.M.Line.view c.world.inside.finds) after.finds) (sym (ap (λ (f : FindsSeen). f.waits) c.new-finds.ensures.first)) c.first_wait.ensures.waits);
      others = ap (λ (w : MirrorOutside). record w { updates = after.updates; finds = after.finds }) c.world.view_is;
      begins = run_begins c.args.plan.now rounds finds conns c.wait_told-wait.result after (ap (λ (r : MirrorSeen). r.opened) c.in_ok-rounds.ensures.first) (ap (λ (f : FindsSeen). f.opened) c.new-finds.ensures.first)
          (ap (λ (s : ConnectionsSeen). s.begun) c.in_ok-connections.ensures.first) (ap (λ (s : ConnectionsSeen). s.waiting) c.in_ok-connections.ensures.first)
          (c.wait_told-wait.ensures ∙ ap (λ (ls : List Held). told_wait c.args.plan.now.wait false ls) (c.lists.ensures.value ∙ sym lists))
          (c.in_ok-rounds.ensures.begins c.args.plan.now.updates after.updates after.keeper)
          (c.new-finds.ensures.begins c.args.plan.now.updates.target c.args.plan.now.updates.need_digest after.finds)
          (c.in_ok-connections.ensures.begins after.door);
    }
