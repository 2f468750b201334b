use Rattle.std.proofs.Common.{◌≡◌, ◌+◌, ◌<◌, [], length, refl, ap, ◌∙◌, append-nil, sym, length-append, arith}
use Rattle.snapshot_publish.specs.Publications.{Publications}
use Rattle.update_run.specs.Saved.{saved_lists}
use Rattle.judge_run.proofs.Loop.{step_laws, few_saved, next_round, stops_in_round, stops_unpublished}
use Rattle.judge_run.proofs.rounding.publish_rounds.Goals as goal

pub loop-made-init : goal.loop-made-init
loop-made-init g c = (
  [],
  refl,
  record { takes = c.steps_go_on.ensures.none _ 1 _ _; published_are = sym (append-nil c.args.updater.now.publisher.list) },
  refl,
  refl,
  refl,
  omega arith,
  λ _. (refl, refl, refl),
  refl,
)

pub publish_installed-requires : goal.publish_installed-requires
publish_installed-requires g c =
    let inv = c.loop-made.invariant in
    let few = few_saved c.args.updater.now.client.lists inv.0 in
    let all : length c.loop-made.updater.publisher.list ≡ length c.args.updater.now.publisher.list + length (saved_lists c.args.updater.now.client.lists inv.0) =
    ap (λ (ps : Publications). length ps) inv.2.published_are ∙ length-append c.args.updater.now.publisher.list (saved_lists c.args.updater.now.client.lists inv.0)
    in
    let made : c.loop-made.made < c.args.plan.now.rounds = c.loop-made-test.true in
    omega (arith, few, all, inv.1, made, c.requires.room)

pub loop-made-preserved : goal.loop-made-preserved
loop-made-preserved g c =
    let inv = c.loop-made.invariant in
    let more =
    next_round c.args.plan.now (c.loop-made.made + 1) inv.0 c.args.updater.now.client c.loop-made.updater.client c.one_round.new.client _ _ _ c.loop-made.refused
    (step_laws c.steps_go_on.ensures.written c.steps_go_on.ensures.one_more c.steps_save_and_stop.ensures.saved c.steps_save_and_stop.ensures.stopped) (omega (arith, inv.1))
    _ _ _ c.in-Ok.told inv.2 c.in-Ok.ensures.told c.in-Ok-publish_installed.ensures.published
    in (
      more.0,
      more.1,
      more.2,
      c.in-Ok-publish_installed.ensures.boxes ∙ inv.3,
      c.in-Ok.ensures.output_kept (λ e. cc) ∙ inv.4,
      c.in-Ok.ensures.keeper_kept (λ e. cc) ∙ inv.5,
      omega (arith, inv.6, c.one_round.ensures.link_counted),
      λ none. absurd (omega (arith, none)),
      c.one_round.ensures.same ∙ inv.8,
    )

pub returns-in-Err-clause-stopped : goal.returns-in-Err-clause-stopped
returns-in-Err-clause-stopped g c =
    let inv = c.loop-made.invariant in
    let few : c.loop-made.made < c.args.plan.now.rounds = c.loop-made-test.true in
    stops_in_round c.in-Err.stop c.args.plan.now (c.loop-made.made + 1) inv.0 c.args.updater.now.client c.loop-made.updater.client _ _ _ _ _ c.loop-made.refused
    (step_laws c.steps_go_on.ensures.written c.steps_go_on.ensures.one_more c.steps_save_and_stop.ensures.saved c.steps_save_and_stop.ensures.stopped)
    (omega (arith, inv.1)) (omega (arith, few)) inv.2 c.in-Err.ensures.stopped

pub returns-in-Err-publish_installed-clause-stopped : goal.returns-in-Err-publish_installed-clause-stopped
returns-in-Err-publish_installed-clause-stopped g c =
    let inv = c.loop-made.invariant in
    let few : c.loop-made.made < c.args.plan.now.rounds = c.loop-made-test.true in
    stops_unpublished c.args.plan.now (c.loop-made.made + 1) inv.0 c.args.updater.now.client c.loop-made.updater.client c.one_round.new.client _ _ _ c.loop-made.refused
    (step_laws c.steps_go_on.ensures.written c.steps_go_on.ensures.one_more c.steps_save_and_stop.ensures.saved c.steps_save_and_stop.ensures.stopped) (omega (arith, inv.1))
    _ _ c.in-Ok.told (omega (arith, few)) inv.2 c.in-Ok.ensures.told
