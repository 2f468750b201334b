use Rattle.std.proofs.Common.{ℕ, List, ◌++◌, false, true, refl, inl, subst, sym, ap, Err, rules, arith}
use Rattle.sb_outside.specs.Outside.{GivesFront}
use Rattle.http_edge.specs.Requests.{NeedsMore}
use Rattle.http_edge.specs.SessionBytes.{ReadsWhile}
use Rattle.http_edge.proofs.Fronts.{gives_nothing, front_then, ends_after}
use Rattle.http_edge.proofs.RequestFacts.{refused_step, open_step}
use Rattle.http_edge.proofs.ReadFacts.{read_on}
use Rattle.http_edge.proofs.RequestReads.{reads_request}
use Rattle.http_edge.proofs.requests.receive_head.Goals as goal

pub returns-in-Ok-Refused-clause-refusal : goal.returns-in-Ok-Refused-clause-refusal
returns-in-Ok-Refused-clause-refusal g c = (
  c.pieces.text,
  false,
  c.pieces.invariant.so_far,
  refused_step c.pieces.text c.as_slice.result.now c.in-Ok-Refused.field-0 c.as_slice.ensures c.in-Ok-Refused.field-0-is c.in-Ok-Refused.ensures,
  reads_request c.pieces.text false _ c.pieces.invariant.reads (λ void. absurd (cc)) (λ void. absurd (cc)),
)

pub returns-then-len-ge-HEAD_LIMIT-clause-refusal : goal.returns-then-len-ge-HEAD_LIMIT-clause-refusal
returns-then-len-ge-HEAD_LIMIT-clause-refusal g c = (
  c.pieces.text,
  false,
  c.pieces.invariant.so_far,
  (omega arith, open_step c.pieces.text c.as_slice.result.now c.in-Ok-Open.field-0 c.as_slice.ensures c.in-Ok-Open.field-0-is c.in-Ok-Open.ensures),
  reads_request c.pieces.text false _ c.pieces.invariant.reads (λ void. absurd (cc)) (λ void. absurd (cc)),
)

pub returns-in-Err-Ended-clause-refusal : goal.returns-in-Err-Ended-clause-refusal
returns-in-Err-Ended-clause-refusal g c =
    let needs : NeedsMore c.pieces.text =
    inl (omega arith, open_step c.pieces.text c.as_slice.result.now c.in-Ok-Open.field-0 c.as_slice.ensures c.in-Ok-Open.field-0-is c.in-Ok-Open.ensures) in (
      c.pieces.text,
      true,
      ends_after _ _ _ _ c.pieces.invariant.so_far (c.in-Err-Ended.ensures.end (ap Err c.in-Err-Ended.field-0-is)),
      (refl, needs),
      reads_request c.pieces.text true _ c.pieces.invariant.reads (λ _. needs) (λ _. needs),
    )

pub returns-in-Err-Failed-clause-refusal : goal.returns-in-Err-Failed-clause-refusal
returns-in-Err-Failed-clause-refusal g c =
    let needs : NeedsMore c.pieces.text =
    inl (omega arith, open_step c.pieces.text c.as_slice.result.now c.in-Ok-Open.field-0 c.as_slice.ensures c.in-Ok-Open.field-0-is c.in-Ok-Open.ensures) in (
      c.pieces.text,
      false,
      subst (λ left. GivesFront c.pieces.text (g.S.Source.left c.args.source.now) left) (sym (c.in-Err-Failed.ensures.failed_left (ap Err c.in-Err-Failed.field-0-is))) c.pieces.invariant.so_far,
      tt,
      reads_request c.pieces.text false _ c.pieces.invariant.reads (λ _. needs) (λ _. needs),
    )

pub returns-in-Err-OutOfMemory-clause-refusal : goal.returns-in-Err-OutOfMemory-clause-refusal
returns-in-Err-OutOfMemory-clause-refusal g c =
    let needs : NeedsMore c.pieces.text =
    inl (omega arith, open_step c.pieces.text c.as_slice.result.now c.in-Ok-Open.field-0 c.as_slice.ensures c.in-Ok-Open.field-0-is c.in-Ok-Open.ensures) in
    let some = c.in-Err-OutOfMemory.ensures.refused_left (ap Err c.in-Err-OutOfMemory.field-0-is) in (
      c.pieces.text ++ some.given,
      false,
      front_then _ _ _ _ _ c.pieces.invariant.so_far some.gives,
      tt,
      reads_request (c.pieces.text ++ some.given) false _ (read_on NeedsMore c.pieces.text some.given needs some.within) (λ void. absurd (cc)) (λ void. absurd (cc)),
    )

pub returns-in-Err-clause-refusal : goal.returns-in-Err-clause-refusal
returns-in-Err-clause-refusal g c = (
  c.pieces.text,
  false,
  c.pieces.invariant.so_far,
  tt,
  reads_request c.pieces.text false _ c.pieces.invariant.reads (λ void. absurd (cc)) (λ void. absurd (cc)),
)

pub pieces-init : goal.pieces-init
pieces-init g c = record {
  buffer = c.requires.room;
  so_far = subst (λ (text : List ℕ). GivesFront text (g.S.Source.left c.args.source.now) (g.S.Source.left c.args.source.now)) (sym c.requires.none) (gives_nothing _);
  reads = inl c.requires.none;
  faults = refl;
  other = refl;
}

pub pieces-preserved : goal.pieces-preserved
pieces-preserved g c =
    let needs : NeedsMore c.pieces.text =
    inl (omega arith, open_step c.pieces.text c.as_slice.result.now c.in-Ok-Open.field-0 c.as_slice.ensures c.in-Ok-Open.field-0-is c.in-Ok-Open.ensures) in
    let more = c.in-Ok.ensures.more in record {
      buffer = search rules;
      so_far = subst (λ (text : List ℕ). GivesFront text (g.S.Source.left c.args.source.now) (g.S.Source.left c.receive.new.source)) (sym more.whole)
          (front_then c.pieces.text more.given _ _ _ c.pieces.invariant.so_far more.gives);
      reads = subst (ReadsWhile NeedsMore) (sym more.whole) (read_on NeedsMore c.pieces.text more.given needs more.short);
      faults = search rules;
      other = search rules;
    }
