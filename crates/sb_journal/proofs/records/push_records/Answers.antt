use Rattle.std.proofs.Common.{◌≡◌, sym, ◌∙◌, arith, append-nil}
use Rattle.sb_journal.proofs.RecordTexts.{front_kept, on_err, record_more, records_whole}
use Rattle.sb_journal.proofs.records.push_records.Goals as goal

pub loop-place-init : goal.loop-place-init
loop-place-init c = sym (append-nil c.args.page.now)

pub loop-place-preserved : goal.loop-place-preserved
loop-place-preserved c =
    record_more c.args.sized c.args.list c.args.lines.now c.lines_at.result.now c.loop-place.place c.args.page.now c.loop-place.page c.push_record.new.page
    c.lines_at.ensures c.loop-place.invariant c.in_ok-push_record.ensures.ok

pub returns-clause-ok : goal.returns-clause-ok
returns-clause-ok c =
    let past : c.loop-place.place ≡ c.record_count-place-end.result = omega arith in
    records_whole c.args.sized c.args.list c.args.lines.now c.loop-place.place c.args.page.now c.loop-place.page (past ∙ c.record_count-place-end.ensures.count) c.loop-place.invariant

pub returns-in_err-push_record-clause-front : goal.returns-in_err-push_record-clause-front
returns-in_err-push_record-clause-front c =
    on_err c.from_residual.result (front_kept c.args.page.now c.loop-place.page c.push_record.new.page _ c.loop-place.invariant c.in_err-push_record.ensures.front)
