use Rattle.std.proofs.Common.{◌<◌, ◌∙◌, length, sym, refl, ap, subst, arith, Err}
use Rattle.list_versions.specs.Draft.{kept_of_draft}
use Rattle.list_versions.specs.Pieces.{ReadsAll}
use Rattle.list_versions.proofs.Further.{further_of, has_nothing, has_piece, has_records, all_read, stops_failed, stops_refused, stops_here, stops_bad}
use Rattle.list_versions.proofs.Keeping.{keeps_same, keeps_then}
use Rattle.list_versions.proofs.pieces.read_further.Goals as goal

pub pieces-init : goal.pieces-init
pieces-init g c = record {
  read = has_nothing c.args.draft.now c.args.text _;
  draft = c.requires.draft;
  waits = c.requires.waits;
  few = c.requires.few;
  front = keeps_same c.args.draft.now c.requires.draft;
  faults = refl;
  other = refl;
  buffer = c.requires.buffer;
}

pub returns-in-Ok-eq0-clause-ok : goal.returns-in-Ok-eq0-clause-ok
returns-in-Ok-eq0-clause-ok g c =
    let some : 0 < length c.read_piece.new.buffer = omega (arith, c.read_piece.auto.buffer, c.pieces.invariant.buffer) in
    let ends = c.in-Ok-eq0.ensures.end c.in-Ok-eq0.field-0-test some in
    let same = c.in-Ok-eq0.ensures.none c.in-Ok-eq0.field-0-test in
    subst (λ rest. ReadsAll (further_of c.args.draft.now c.args.text) (kept_of_draft c.pieces.draft rest) (g.S.Source.left c.args.source.now) (g.S.Source.left c.read_piece.new.source)) (sym same)
    (all_read c.args.draft.now c.args.text c.pieces.draft c.pieces.text _ _ _ c.pieces.invariant.read c.pieces.invariant.waits ends)

pub returns-in-Err-Failed-clause-fault : goal.returns-in-Err-Failed-clause-fault
returns-in-Err-Failed-clause-fault g c =
    stops_failed c.args.draft.now c.args.text c.pieces.draft c.pieces.text _ _ _ c.pieces.invariant.read c.pieces.invariant.waits (c.in-Err-Failed.ensures.failed_left (ap (λ e. Err e) c.in-Err-Failed.field-0-is))

pub returns-in-Err-OutOfMemory-clause-fault : goal.returns-in-Err-OutOfMemory-clause-fault
returns-in-Err-OutOfMemory-clause-fault g c =
    stops_refused c.args.draft.now c.args.text c.pieces.draft c.pieces.text _ _ _ c.pieces.invariant.read (c.in-Err-OutOfMemory.ensures.refused_left (ap (λ e. Err e) c.in-Err-OutOfMemory.field-0-is))

pub returns-in-Err-clause-fault : goal.returns-in-Err-clause-fault
returns-in-Err-clause-fault g c =
    let some : 0 < c.in-Ok.field-0 = omega (arith, c.in-Ok.field-0-test) in
    let read = has_piece c.args.draft.now c.args.text c.pieces.draft c.pieces.text c.read_piece.new.text c.in-Ok.field-0 _ _ _ c.pieces.invariant.read (c.in-Ok.ensures.bytes some) in
    stops_bad c.args.draft.now c.args.text c.pieces.draft c.read_piece.new.text c.in-Err.fault _ _ read c.in-Err.ensures.fault

pub pieces-preserved : goal.pieces-preserved
pieces-preserved g c =
    let some : 0 < c.in-Ok.field-0 = omega (arith, c.in-Ok.field-0-test) in
    let read = has_piece c.args.draft.now c.args.text c.pieces.draft c.pieces.text c.read_piece.new.text c.in-Ok.field-0 _ _ _ c.pieces.invariant.read (c.in-Ok.ensures.bytes some) in
    record {
      read = has_records c.args.draft.now c.args.text c.pieces.draft c.take_records.new.draft c.read_piece.new.text c.in-Ok-take_records.rest _ _ read c.in-Ok-take_records.ensures.moves;
      draft = c.in-Ok-take_records.ensures.draft;
      waits = c.in-Ok-take_records.ensures.waits;
      few = c.in-Ok-take_records.ensures.few;
      front = keeps_then c.args.draft.now c.pieces.draft c.take_records.new.draft c.pieces.invariant.front c.take_records.ensures.front;
      faults = c.in-Ok.ensures.kept (λ e. cc) ∙ c.pieces.invariant.faults;
      other = c.read_piece.ensures.other ∙ c.pieces.invariant.other;
      buffer = omega (arith, c.read_piece.auto.buffer, c.pieces.invariant.buffer);
    }

pub returns-clause-fault : goal.returns-clause-fault
returns-clause-fault g c = stops_here c.args.draft.now c.args.text c.pieces.draft c.pieces.text _ _ c.pieces.invariant.read
