use Rattle.std.proofs.Common.{◌∙◌, [], ap, sym, arith, inr, Some, Ok, Err}
use Rattle.list_versions.specs.Draft.{kept_of_draft}
use Rattle.list_versions.specs.Journal.{at_record}
use Rattle.list_versions.proofs.Ending.{ends_line, ends_then, ends_longer, shorter_line}
use Rattle.list_versions.proofs.Records.{record_front, record_long, record_bad, record_list, change_moves, change_waits, change_fails, map_fault}
use Rattle.list_versions.proofs.draft.Draft.read_record.Goals as goal

pub returns-in-Ok-None-clause-waits : goal.returns-in-Ok-None-clause-waits
returns-in-Ok-None-clause-waits c = record_front c.args.self.now c.args.bytes.now (rw c.in-Ok-None.field-0-is at c.in-Ok-None.ensures.front)

pub returns-in-Err-clause-fault : goal.returns-in-Err-clause-fault
returns-in-Err-clause-fault c = inr (record_long c.args.self.now c.args.bytes.now _ c.next_line-line.ensures.value c.in-Err.ensures.long)

pub returns-in-None-clause-fault : goal.returns-in-None-clause-fault
returns-in-None-clause-fault c =
    let line = rw c.in-Ok-Some.field-0-is at c.in-Ok-Some.ensures.whole in
    inr (record_bad c.args.self.now c.args.bytes.now c.in-Ok-Some.halves.0.now c.in-Ok-Some.halves.1.now _ c.next_line-line.ensures.value line c.in-None.ensures.value)

pub returns-in-Ok-clause-moves : goal.returns-in-Ok-clause-moves
returns-in-Ok-clause-moves c =
    let line = rw c.in-Ok-Some.field-0-is at c.in-Ok-Some.ensures.whole in
    let is = ap Some (sym c.in-Some-List.field-0-is) ∙ sym c.in-Some-List.is ∙ c.read_head_among.ensures.value in
    record_list c.args.self.now c.args.bytes.now c.in-Ok-Some.halves.0.now c.in-Ok-Some.halves.1.now c.in-Some-List.name c.in-Some-List.size (Ok (at_record (kept_of_draft c.declare.new.self []))) line is c.in-Ok.ensures.ok

pub returns-in-Err-declare-clause-fault : goal.returns-in-Err-declare-clause-fault
returns-in-Err-declare-clause-fault c =
    let line = rw c.in-Ok-Some.field-0-is at c.in-Ok-Some.ensures.whole in
    let is = ap Some (sym c.in-Some-List.field-0-is) ∙ sym c.in-Some-List.is ∙ c.read_head_among.ensures.value in
    map_fault (λ fails. record_list c.args.self.now c.args.bytes.now c.in-Ok-Some.halves.0.now c.in-Ok-Some.halves.1.now c.in-Some-List.name c.in-Some-List.size (Err c.in-Err-declare.fault) line is fails) c.in-Err-declare.ensures.fault

pub returns-in-Ok-Some-read_change-clause-moves : goal.returns-in-Ok-Some-read_change-clause-moves
returns-in-Ok-Some-read_change-clause-moves c =
    let line = rw c.in-Ok-Some.field-0-is at c.in-Ok-Some.ensures.whole in
    let is = ap Some (sym c.in-Some-Change.field-0-is) ∙ sym c.in-Some-Change.is ∙ c.read_head_among.ensures.value in
    change_moves c.args.self.now c.read_change.new.self c.args.bytes.now c.in-Ok-Some.halves.0.now c.in-Ok-Some.halves.1.now c.in-Ok-Some-read_change.last.now c.in-Some-Change.list c.in-Some-Change.to_add c.in-Some-Change.to_remove 132096 line is (rw c.in-Ok-Some-read_change.field-0-is at c.in-Ok-Some-read_change.ensures.moves)

pub returns-in-Ok-None-read_change-clause-waits : goal.returns-in-Ok-None-read_change-clause-waits
returns-in-Ok-None-read_change-clause-waits c =
    let line = rw c.in-Ok-Some.field-0-is at c.in-Ok-Some.ensures.whole in
    let is = ap Some (sym c.in-Some-Change.field-0-is) ∙ sym c.in-Some-Change.is ∙ c.read_head_among.ensures.value in
    change_waits c.args.self.now c.args.bytes.now c.in-Ok-Some.halves.0.now c.in-Ok-Some.halves.1.now c.in-Some-Change.list c.in-Some-Change.to_add c.in-Some-Change.to_remove line is (rw c.in-Ok-None-read_change.field-0-is at c.in-Ok-None-read_change.ensures.waits)

pub returns-in-Err-read_change-clause-fault : goal.returns-in-Err-read_change-clause-fault
returns-in-Err-read_change-clause-fault c =
    let line = rw c.in-Ok-Some.field-0-is at c.in-Ok-Some.ensures.whole in
    let is = ap Some (sym c.in-Some-Change.field-0-is) ∙ sym c.in-Some-Change.is ∙ c.read_head_among.ensures.value in
    map_fault (λ fails. change_fails c.args.self.now c.args.bytes.now c.in-Ok-Some.halves.0.now c.in-Ok-Some.halves.1.now c.in-Some-Change.list c.in-Some-Change.to_add c.in-Some-Change.to_remove c.in-Err-read_change.fault line is fails) c.in-Err-read_change.ensures.fault

pub returns-in-Ok-clause-back : goal.returns-in-Ok-clause-back
returns-in-Ok-clause-back c = ends_line c.args.bytes.now c.in-Ok-Some.halves.0.now c.in-Ok-Some.halves.1.now (rw c.in-Ok-Some.field-0-is at c.in-Ok-Some.ensures.whole)

pub returns-in-Ok-Some-read_change-clause-back : goal.returns-in-Ok-Some-read_change-clause-back
returns-in-Ok-Some-read_change-clause-back c =
    ends_then c.args.bytes.now c.in-Ok-Some.halves.1.now c.in-Ok-Some-read_change.last.now
    (ends_line c.args.bytes.now c.in-Ok-Some.halves.0.now c.in-Ok-Some.halves.1.now (rw c.in-Ok-Some.field-0-is at c.in-Ok-Some.ensures.whole))
    (rw c.in-Ok-Some-read_change.field-0-is at c.in-Ok-Some-read_change.ensures.back)

pub returns-in-Ok-clause-shorter : goal.returns-in-Ok-clause-shorter
returns-in-Ok-clause-shorter c = shorter_line c.args.bytes.now c.in-Ok-Some.halves.0.now c.in-Ok-Some.halves.1.now (rw c.in-Ok-Some.field-0-is at c.in-Ok-Some.ensures.whole)

pub returns-in-Ok-Some-read_change-clause-shorter : goal.returns-in-Ok-Some-read_change-clause-shorter
returns-in-Ok-Some-read_change-clause-shorter c =
    omega (
      arith,
      shorter_line c.args.bytes.now c.in-Ok-Some.halves.0.now c.in-Ok-Some.halves.1.now (rw c.in-Ok-Some.field-0-is at c.in-Ok-Some.ensures.whole),
      ends_longer c.in-Ok-Some.halves.1.now c.in-Ok-Some-read_change.last.now (rw c.in-Ok-Some-read_change.field-0-is at c.in-Ok-Some-read_change.ensures.back),
    )
