use Rattle.std.proofs.Common.{true, false, sym, ◌∙◌, append-nil}
use Rattle.std.specs.Prelude.{◌==◌}
use Rattle.std.specs.List.{list_any}
use Rattle.sb_model.specs.Names.{platforms, platform_code}
use Rattle.sb_model.specs.declared.names.PlatformType.{PlatformType}
use Rattle.url_checker.specs.declared.findings.Hit.{Hit}
use Rattle.url_checker.proofs.TypeFacts.{picked_more}
use Rattle.url_checker.proofs.request.platforms_of.Goals as goal
use Rattle.url_checker.proofs.request.platforms_of.Goals.{then-has_platform+in_ok-push, else-has_platform}

pub loop-one-preserved : goal.loop-one-preserved
loop-one-preserved c =
    let picks = λ (one : PlatformType). list_any (λ (hit : Hit). platform_code hit.list.platform == platform_code one) c.args.hits.now in
    elim c.if-has_platform.branch [
      | then-has_platform+in_ok-push w ↦
          picked_more picks platforms c.loop-one.one-index _ true c.loop-one.row c.if-has_platform.row c.loop-one-test.true (sym c.has_platform.ensures ∙ w.if-has_platform.true) c.loop-one.invariant
          (w.row-is ∙ w.in_ok-push.ensures.ok)
      | else-has_platform w ↦
          picked_more picks platforms c.loop-one.one-index _ false c.loop-one.row c.if-has_platform.row c.loop-one-test.true (sym c.has_platform.ensures ∙ w.if-has_platform.false) c.loop-one.invariant
          (w.row-is ∙ sym (append-nil c.loop-one.row))
    ]
