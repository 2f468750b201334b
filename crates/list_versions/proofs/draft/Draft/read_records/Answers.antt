use Rattle.std.proofs.Common.{◌∙◌, [], ap, sym, refl, Ok}
use Rattle.std.proofs.lemmas.List.{append-nil}
use Rattle.list_versions.specs.Draft.{before_record, kept_of_draft}
use Rattle.list_versions.proofs.Ending.{ends_same, ends_then}
use Rattle.list_versions.proofs.Keeping.{keeps_same, keeps_then}
use Rattle.list_versions.proofs.Records.{map_fault}
use Rattle.list_versions.proofs.draft.Draft.read_records.Goals as goal

pub loop-next-init : goal.loop-next-init
loop-next-init c = record { draft = c.requires.draft; same = λ more. refl; back = ends_same c.args.bytes.now; front = keeps_same c.args.self.now c.requires.draft }

pub loop-next-preserved : goal.loop-next-preserved
loop-next-preserved c =
    let moves = rw c.in-Ok-Some.field-0-is at c.in-Ok-Some.ensures.moves in
    record {
      draft = c.in-Ok-Some.ensures.draft;
      same = λ more. c.loop-next.invariant.same more ∙ moves more;
      back = ends_then c.args.bytes.now c.loop-next.rest.now c.in-Ok-Some.next.now c.loop-next.invariant.back (rw c.in-Ok-Some.field-0-is at c.in-Ok-Some.ensures.back);
      front = keeps_then c.args.self.now c.loop-next.self c.read_record.new.self c.loop-next.invariant.front c.read_record.ensures.kept;
    }

pub returns-in-Err-clause-fault : goal.returns-in-Err-clause-fault
returns-in-Err-clause-fault c = map_fault (λ fails more. c.loop-next.invariant.same more ∙ fails more) c.in-Err.ensures.fault

pub returns-in-Err-clause-front : goal.returns-in-Err-clause-front
returns-in-Err-clause-front c = keeps_then c.args.self.now c.loop-next.self c.read_record.new.self c.loop-next.invariant.front c.read_record.ensures.kept

pub returns-in-Ok-None-clause-rest : goal.returns-in-Ok-None-clause-rest
returns-in-Ok-None-clause-rest c =
    let same = rw c.in-Ok-None.field-0-is at c.in-Ok-None.ensures.same in
    let waits = rw c.in-Ok-None.field-0-is at c.in-Ok-None.ensures.waits in
    ap (before_record c.args.self.now []) (sym (append-nil c.args.bytes.now)) ∙ c.loop-next.invariant.same [] ∙ ap (before_record c.loop-next.self []) (append-nil c.loop-next.rest.now)
    ∙ waits ∙ ap (λ draft. Ok (kept_of_draft draft c.loop-next.rest.now)) (sym same)
