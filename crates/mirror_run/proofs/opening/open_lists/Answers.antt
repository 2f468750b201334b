use Rattle.std.proofs.Common.{[], ℕ, List, ap, ◌∙◌, subst}
use Rattle.mirror_run.specs.SoFar.{MirrorOutside}
use Rattle.mirror_run.proofs.Views.{outside_same}
use Rattle.sb_model.specs.declared.names.ListName.{ListName}
use Rattle.sb_outside.specs.Outside.{appended}
use Rattle.update_run.specs.Opening.{HasLoaded}
use Rattle.mirror_run.proofs.opening.open_lists.Goals as goal

pub returns-in-Ok-flush-clause-loaded : goal.returns-in-Ok-flush-clause-loaded
returns-in-Ok-flush-clause-loaded g c =
    let text = c.load_lists.new.page in
    let loaded = subst (λ (names : List ListName). HasLoaded names (g.K.Keeper.kept c.world.inside.keep) c.in-Ok.lists [] text) c.as_slice-names.ensures
    (subst (λ (p : List ℕ). HasLoaded c.as_slice-names.result.now (g.K.Keeper.kept c.world.inside.keep) c.in-Ok.lists p text) c.new-page.ensures c.in-Ok.ensures.loaded) in (
      text,
      subst (λ (w : MirrorOutside). HasLoaded c.args.plan.now.updates.names w.keeper.kept c.in-Ok.lists [] text) c.world.view_is loaded,
      outside_same (g.N.Line.view c.world.inside.updates) (g.M.Line.view c.world.inside.finds) (g.K.Keeper.handed c.world.inside.keep) (g.K.Keeper.handed c.load_lists.new.keep) (g.K.Keeper.kept c.world.inside.keep) (g.K.Keeper.kept c.load_lists.new.keep)
          (appended (g.O.Sink.contents c.world.inside.out) text) (g.O.Sink.contents c.flush.new.out) (g.C.Clock.answers c.world.inside.clock) (g.D.Door.log c.world.inside.door) (g.D.Door.coming c.world.inside.door)
          (g.O.Sink.faults c.world.inside.out) (g.O.Sink.faults c.flush.new.out) (g.K.Keeper.faults c.world.inside.keep) (g.K.Keeper.faults c.load_lists.new.keep) (g.D.Door.faults c.world.inside.door)
          c.load_lists.ensures.handed c.load_lists.ensures.kept c.in-Ok-flush.ensures.ok c.in-Ok-flush.ensures.kept (c.in-Ok.ensures.counted (λ e. cc))
          ∙ ap (λ (w : MirrorOutside). record w { output = appended w.output text }) c.world.view_is,
    )
