use Rattle.std.proofs.Common.{true, false, sym, ◌∙◌, append-nil}
use Rattle.std.specs.Prelude.{◌==◌}
use Rattle.std.specs.List.{list_any}
use Rattle.sb_model.specs.Names.{threats, threat_code}
use Rattle.sb_model.specs.declared.names.ThreatType.{ThreatType}
use Rattle.url_checker.specs.declared.findings.Hit.{Hit}
use Rattle.url_checker.proofs.TypeFacts.{picked_more}
use Rattle.url_checker.proofs.request.threats_of.Goals as goal
use Rattle.url_checker.proofs.request.threats_of.Goals.{then-has_threat+in_ok-push, else-has_threat}

pub loop-one-preserved : goal.loop-one-preserved
loop-one-preserved c =
    let picks = λ (one : ThreatType). list_any (λ (hit : Hit). threat_code hit.list.threat == threat_code one) c.args.hits.now in
    elim c.if-has_threat.branch [
      | then-has_threat+in_ok-push w ↦
          picked_more picks threats c.loop-one.one-index _ true c.loop-one.row c.if-has_threat.row c.loop-one-test.true (sym c.has_threat.ensures ∙ w.if-has_threat.true) c.loop-one.invariant
          (w.row-is ∙ w.in_ok-push.ensures.ok)
      | else-has_threat w ↦
          picked_more picks threats c.loop-one.one-index _ false c.loop-one.row c.if-has_threat.row c.loop-one-test.true (sym c.has_threat.ensures ∙ w.if-has_threat.false) c.loop-one.invariant
          (w.row-is ∙ sym (append-nil c.loop-one.row))
    ]
