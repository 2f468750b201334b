use Rattle.std.proofs.Common.{true, false, sym, ◌∙◌, append-nil}
use Rattle.std.specs.Prelude.{◌==◌}
use Rattle.std.specs.List.{list_any}
use Rattle.sb_model.specs.Names.{entries, entry_code}
use Rattle.sb_model.specs.declared.names.EntryType.{EntryType}
use Rattle.url_checker.specs.declared.findings.Hit.{Hit}
use Rattle.url_checker.proofs.TypeFacts.{picked_more}
use Rattle.url_checker.proofs.request.entries_of.Goals as goal
use Rattle.url_checker.proofs.request.entries_of.Goals.{then-has_entry+in_ok-push, else-has_entry}

pub loop-one-preserved : goal.loop-one-preserved
loop-one-preserved c =
    let picks = λ (one : EntryType). list_any (λ (hit : Hit). entry_code hit.list.entry == entry_code one) c.args.hits.now in
    elim c.if-has_entry.branch [
      | then-has_entry+in_ok-push w ↦
          picked_more picks entries c.loop-one.one-index _ true c.loop-one.row c.if-has_entry.row c.loop-one-test.true (sym c.has_entry.ensures ∙ w.if-has_entry.true) c.loop-one.invariant
          (w.row-is ∙ w.in_ok-push.ensures.ok)
      | else-has_entry w ↦
          picked_more picks entries c.loop-one.one-index _ false c.loop-one.row c.if-has_entry.row c.loop-one-test.true (sym c.has_entry.ensures ∙ w.if-has_entry.false) c.loop-one.invariant
          (w.row-is ∙ sym (append-nil c.loop-one.row))
    ]
