use Rattle.std.proofs.Common.{◌≡◌, [], ℕ, List, refl, ap, ◌∙◌, subst}
use Rattle.std.specs.Prelude.{Ok}
use Rattle.proxy_run.specs.SoFar.{ProxyOutside}
use Rattle.proxy_run.proofs.RunFacts.{not_err}
use Rattle.proxy_run.proofs.Views.{looks_outside, outside_of, outside_same}
use Rattle.sb_model.specs.declared.names.ListName.{ListName}
use Rattle.sb_outside.specs.Outside.{appended}
use Rattle.update_run.specs.Opening.{HasLoaded}
use Rattle.update_run.specs.declared.stop.RunStop.TheVariants as run_stop
use Rattle.proxy_run.proofs.opening.open_lists.Goals as goal

pub returns-in-Ok-flush-clause-loaded : goal.returns-in-Ok-flush-clause-loaded
returns-in-Ok-flush-clause-loaded g c =
    let text = c.load_lists.new.page in
    let seen : ProxyOutside = outside_of (g.N.Line.view c.world-inside.inside.0.1.0) (g.K.Keeper.handed c.world-inside.inside.0.0) (g.K.Keeper.kept c.world-inside.inside.0.0) (g.K.Keeper.faults c.world-inside.inside.0.0) (g.C.Clock.answers c.world-inside.inside.0.1.1.0) (looks_outside (g.M.Line.view c.world-inside.inside.0.1.1.1.0.finds) (g.O.Sink.contents c.world-inside.inside.0.1.1.1.0.out) (g.D.Door.log c.world-inside.inside.0.1.1.1.0.door) (g.D.Door.coming c.world-inside.inside.0.1.1.1.0.door) (g.O.Sink.faults c.world-inside.inside.0.1.1.1.0.out) (g.D.Door.faults c.world-inside.inside.0.1.1.1.0.door)) in
    let view_is : seen ≡ c.args.world.now = ap (λ w. outside_of (g.N.Line.view w.updates) (g.K.Keeper.handed w.keep) (g.K.Keeper.kept w.keep) (g.K.Keeper.faults w.keep) (g.C.Clock.answers w.clock) w.looks) c.world-inside.view_is ∙ c.world.view_is in
    let loaded = subst (λ (names : List ListName). HasLoaded names (g.K.Keeper.kept c.world-inside.inside.0.0) c.in-Ok.lists [] text) c.as_slice-names.ensures
    (subst (λ (p : List ℕ). HasLoaded c.as_slice-names.result.now (g.K.Keeper.kept c.world-inside.inside.0.0) c.in-Ok.lists p text) c.new-page.ensures c.in-Ok.ensures.loaded) in (
      text,
      subst (λ (w : ProxyOutside). HasLoaded c.args.plan.now.updates.names w.keeper.kept c.in-Ok.lists [] text) view_is loaded,
      outside_same (g.N.Line.view c.world-inside.inside.0.1.0) (g.M.Line.view c.world-inside.inside.0.1.1.1.0.finds) (g.K.Keeper.handed c.world-inside.inside.0.0) (g.K.Keeper.handed c.load_lists.new.keep) (g.K.Keeper.kept c.world-inside.inside.0.0) (g.K.Keeper.kept c.load_lists.new.keep)
          (appended (g.O.Sink.contents c.world-inside.inside.0.1.1.1.0.out) text) (g.O.Sink.contents c.flush.new.out) (g.C.Clock.answers c.world-inside.inside.0.1.1.0) (g.D.Door.log c.world-inside.inside.0.1.1.1.0.door) (g.D.Door.coming c.world-inside.inside.0.1.1.1.0.door)
          (g.O.Sink.faults c.world-inside.inside.0.1.1.1.0.out) (g.O.Sink.faults c.flush.new.out) (g.K.Keeper.faults c.world-inside.inside.0.0) (g.K.Keeper.faults c.load_lists.new.keep) (g.D.Door.faults c.world-inside.inside.0.1.1.1.0.door)
          c.load_lists.ensures.handed c.load_lists.ensures.kept c.in-Ok-flush.ensures.ok c.in-Ok-flush.ensures.kept (c.in-Ok.ensures.counted (λ e. not_err (Ok c.in-Ok.lists) c.in-Ok.lists run_stop.KeepFault refl e))
          ∙ ap (λ (w : ProxyOutside). record w { looks = record w.looks { output = appended w.looks.output text } }) view_is,
    )
