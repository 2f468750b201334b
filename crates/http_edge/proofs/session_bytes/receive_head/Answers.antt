use Rattle.std.proofs.Common.{◌<◌, ℕ, List, [], ◌++◌, length, false, true, refl, inl, ap, sym, subst, Err, rules, arith}
use Rattle.http_edge.specs.SessionBytes.{Receives, ReadsWhile, IsOpenHead}
use Rattle.http_edge.proofs.SessionSteps.{receives_nothing, receives_then, receives_end, receives_failure}
use Rattle.http_edge.proofs.ResponseFacts.{refused_response, open_response}
use Rattle.http_edge.proofs.ReadFacts.{read_on, reads_open, reads_end, reads_failure}
use Rattle.http_edge.proofs.session_bytes.receive_head.Goals as goal

pub returns-in_default-clause-fault : goal.returns-in_default-clause-fault
returns-in_default-clause-fault g c = ([], false, false, receives_nothing _, reads_open IsOpenHead [] (inl refl), tt)

pub returns-in-Ok-Refused-clause-fault : goal.returns-in-Ok-Refused-clause-fault
returns-in-Ok-Refused-clause-fault g c = (
  c.pieces.text,
  false,
  false,
  c.pieces.invariant.so_far,
  reads_open IsOpenHead c.pieces.text c.pieces.invariant.reads,
  λ need. refused_response c.pieces.text c.as_slice.result.now c.in-Ok-Refused.field-0 c.as_slice.ensures c.in-Ok-Refused.field-0-is c.in-Ok-Refused.ensures,
)

pub returns-in-Err-Ended-clause-fault : goal.returns-in-Err-Ended-clause-fault
returns-in-Err-Ended-clause-fault g c =
    let unread = open_response c.pieces.text c.as_slice.result.now c.in-Ok-Open.field-0 c.as_slice.ensures c.in-Ok-Open.field-0-is c.in-Ok-Open.ensures in
    let short : length c.pieces.text < 16384 = omega arith in (
      c.pieces.text,
      true,
      false,
      receives_end c.pieces.text _ _ _ c.pieces.invariant.so_far (c.in-Err-Ended.ensures.end (ap Err c.in-Err-Ended.field-0-is)),
      reads_end IsOpenHead c.pieces.text c.pieces.invariant.reads (short, unread),
      λ need. (refl, inl (short, unread)),
    )

pub returns-in-Err-Failed-clause-fault : goal.returns-in-Err-Failed-clause-fault
returns-in-Err-Failed-clause-fault g c =
    let unread = open_response c.pieces.text c.as_slice.result.now c.in-Ok-Open.field-0 c.as_slice.ensures c.in-Ok-Open.field-0-is c.in-Ok-Open.ensures in
    let short : length c.pieces.text < 16384 = omega arith in (
      c.pieces.text,
      false,
      true,
      receives_failure c.pieces.text _ _ _ c.pieces.invariant.so_far (c.in-Err-Failed.ensures.failed_log (ap Err c.in-Err-Failed.field-0-is)),
      reads_failure IsOpenHead c.pieces.text c.pieces.invariant.reads (short, unread),
      refl,
    )

pub returns-in-Err-OutOfMemory-clause-fault : goal.returns-in-Err-OutOfMemory-clause-fault
returns-in-Err-OutOfMemory-clause-fault g c =
    let unread = open_response c.pieces.text c.as_slice.result.now c.in-Ok-Open.field-0 c.as_slice.ensures c.in-Ok-Open.field-0-is c.in-Ok-Open.ensures in
    let short : length c.pieces.text < 16384 = omega arith in
    let some = c.in-Err-OutOfMemory.ensures.refused_log (ap Err c.in-Err-OutOfMemory.field-0-is) in (
      c.pieces.text ++ some.given,
      false,
      false,
      receives_then c.pieces.text some.given _ _ _ c.pieces.invariant.so_far some.receives,
      reads_open IsOpenHead (c.pieces.text ++ some.given) (read_on IsOpenHead c.pieces.text some.given (short, unread) some.short),
      tt,
    )

pub returns-in-Err-clause-fault : goal.returns-in-Err-clause-fault
returns-in-Err-clause-fault g c = (c.pieces.text, false, false, c.pieces.invariant.so_far, reads_open IsOpenHead c.pieces.text c.pieces.invariant.reads, tt)

pub pieces-init : goal.pieces-init
pieces-init g c = record {
  buffer = c.requires.room;
  room = c.in-Ok.ensures;
  so_far = subst (λ (text : List ℕ). Receives text false false (g.L.Link.log c.args.link.now) (g.L.Link.log c.args.link.now)) (sym c.requires.none) (receives_nothing _);
  reads = inl c.requires.none;
  faults = refl;
}

pub pieces-preserved : goal.pieces-preserved
pieces-preserved g c =
    let unread = open_response c.pieces.text c.as_slice.result.now c.in-Ok-Open.field-0 c.as_slice.ensures c.in-Ok-Open.field-0-is c.in-Ok-Open.ensures in
    let short : length c.pieces.text < 16384 = omega arith in
    let more = c.in-Ok-receive_piece.ensures.more in record {
      buffer = search rules;
      room = search rules;
      so_far = subst (λ (text : List ℕ). Receives text false false (g.L.Link.log c.args.link.now) (g.L.Link.log c.receive_piece.new.link)) (sym more.whole)
          (receives_then c.pieces.text more.given _ _ _ c.pieces.invariant.so_far more.receives);
      reads = subst (ReadsWhile IsOpenHead) (sym more.whole) (read_on IsOpenHead c.pieces.text more.given (short, unread) more.short);
      faults = search rules;
    }

pub returns-then-len-ge-HEAD_LIMIT-clause-fault : goal.returns-then-len-ge-HEAD_LIMIT-clause-fault
returns-then-len-ge-HEAD_LIMIT-clause-fault g c = (
  c.pieces.text,
  false,
  false,
  c.pieces.invariant.so_far,
  reads_open IsOpenHead c.pieces.text c.pieces.invariant.reads,
  λ need. (omega arith, open_response c.pieces.text c.as_slice.result.now c.in-Ok-Open.field-0 c.as_slice.ensures c.in-Ok-Open.field-0-is c.in-Ok-Open.ensures),
)
