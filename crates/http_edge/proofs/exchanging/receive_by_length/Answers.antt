use Rattle.std.proofs.Common.{◌≡◌, ℕ, List, ◌++◌, drop, ap, subst, false, true, refl, Err}
use Rattle.http_edge.specs.Outcomes.{IsUndecided}
use Rattle.http_edge.specs.SessionBytes.{SessionFillsUp, SessionEndsShort, FailsAfter, ReceivesSome, IsShort}
use Rattle.http_edge.proofs.RequestFacts.{rest_of}
use Rattle.http_edge.proofs.SessionSteps.{err_says, receives_then, receives_and}
use Rattle.http_edge.proofs.ResponseFacts.{compared, long_body, cut_body}
use Rattle.http_edge.proofs.ReadFacts.{reads_open, reads_end, reads_failure, reads_and, head_reads, short_undecided}
use Rattle.http_edge.proofs.exchanging.receive_by_length.Goals as goal

pub returns-then-size-gt-BODY_LIMIT-clause-received : goal.returns-then-size-gt-BODY_LIMIT-clause-received
returns-then-size-gt-BODY_LIMIT-clause-received g c = λ start received. (
  c.args.text.now,
  false,
  false,
  received,
  reads_open (IsUndecided c.args.need_digest) c.args.text.now (head_reads c.args.need_digest c.args.text.now c.requires.reads),
  long_body c.args.need_digest false c.args.text.now c.args.parts c.args.size c.requires.parts c.requires.success c.requires.framing c.if-size-gt-BODY_LIMIT.true,
)

pub returns-in-Ok-clause-received : goal.returns-in-Ok-clause-received
returns-in-Ok-clause-received g c = λ start received.
    let text = c.args.text.now in
    let rest : c.in_ok-body.body ≡ drop c.args.parts.start text =
    rest_of c.in_ok-body.body c.as_slice.result.now text c.args.parts.start c.in_ok-body.ensures c.as_slice.ensures in
    let filled = subst (λ (body : List ℕ). SessionFillsUp body c.receive_body.new.body c.args.size (g.L.Link.log c.args.link.now) (g.L.Link.log c.receive_body.new.link)) rest c.in-Ok.ensures.whole in (
      text ++ filled.given,
      false,
      false,
      receives_then text filled.given _ _ _ received filled.receives,
      reads_and (IsUndecided c.args.need_digest) (IsShort (drop c.args.parts.start text) c.args.size) text filled.given false false
          (short_undecided c.args.need_digest text c.args.parts c.args.size c.requires.parts c.requires.success c.requires.framing c.if-size-gt-BODY_LIMIT.false)
          (head_reads c.args.need_digest text c.requires.reads) (reads_open (IsShort (drop c.args.parts.start text) c.args.size) filled.given filled.reads),
      (compared c.args.need_digest text filled.given c.args.parts c.args.size c.receive_body.new.body c.compare_digest.result c.requires.parts c.requires.success c.requires.framing
          c.if-size-gt-BODY_LIMIT.false filled.enough filled.is c.compare_digest.ensures),
    )

pub returns-in-Err-Ended-clause-received : goal.returns-in-Err-Ended-clause-received
returns-in-Err-Ended-clause-received g c = λ start received.
    let text = c.args.text.now in
    let rest : c.in_ok-body.body ≡ drop c.args.parts.start text =
    rest_of c.in_ok-body.body c.as_slice.result.now text c.args.parts.start c.in_ok-body.ensures c.as_slice.ensures in
    let short = subst (λ (body : List ℕ). SessionEndsShort body c.args.size (g.L.Link.log c.args.link.now) (g.L.Link.log c.receive_body.new.link)) rest
    (c.in-Err-Ended.ensures.short (ap Err c.in-Err-Ended.field-0-is)) in (
      text ++ short.given,
      true,
      false,
      receives_and text short.given true false _ _ _ received short.receives,
      reads_and (IsUndecided c.args.need_digest) (IsShort (drop c.args.parts.start text) c.args.size) text short.given true false
          (short_undecided c.args.need_digest text c.args.parts c.args.size c.requires.parts c.requires.success c.requires.framing c.if-size-gt-BODY_LIMIT.false)
          (head_reads c.args.need_digest text c.requires.reads) (reads_end (IsShort (drop c.args.parts.start text) c.args.size) short.given short.reads short.short),
      cut_body c.args.need_digest text short.given c.args.parts c.args.size c.requires.parts c.requires.success c.requires.framing c.if-size-gt-BODY_LIMIT.false short.short,
    )

pub returns-in-Err-Failed-clause-received : goal.returns-in-Err-Failed-clause-received
returns-in-Err-Failed-clause-received g c = λ start received.
    let text = c.args.text.now in
    let rest : c.in_ok-body.body ≡ drop c.args.parts.start text =
    rest_of c.in_ok-body.body c.as_slice.result.now text c.args.parts.start c.in_ok-body.ensures c.as_slice.ensures in
    let fails = subst (λ (body : List ℕ). FailsAfter (IsShort body c.args.size) (g.L.Link.log c.args.link.now) (g.L.Link.log c.receive_body.new.link)) rest
    (c.in-Err-Failed.ensures.failed_log (ap Err c.in-Err-Failed.field-0-is)) in (
      text ++ fails.given,
      false,
      true,
      receives_and text fails.given false true _ _ _ received fails.receives,
      reads_and (IsUndecided c.args.need_digest) (IsShort (drop c.args.parts.start text) c.args.size) text fails.given false true
          (short_undecided c.args.need_digest text c.args.parts c.args.size c.requires.parts c.requires.success c.requires.framing c.if-size-gt-BODY_LIMIT.false)
          (head_reads c.args.need_digest text c.requires.reads) (reads_failure (IsShort (drop c.args.parts.start text) c.args.size) fails.given fails.reads fails.needed),
      refl,
    )

pub returns-clause-refused : goal.returns-clause-refused
returns-clause-refused g c = λ start received.
    let text = c.args.text.now in
    let rest : c.in_ok-body.body ≡ drop c.args.parts.start text =
    rest_of c.in_ok-body.body c.as_slice.result.now text c.args.parts.start c.in_ok-body.ensures c.as_slice.ensures in
    let some = subst (λ (body : List ℕ). ReceivesSome (IsShort body c.args.size) (g.L.Link.log c.args.link.now) (g.L.Link.log c.receive_body.new.link)) rest
    (c.in-Err-OutOfMemory.ensures.refused_log (ap Err c.in-Err-OutOfMemory.field-0-is)) in (
      text ++ some.given,
      false,
      false,
      receives_then text some.given _ _ _ received some.receives,
      reads_and (IsUndecided c.args.need_digest) (IsShort (drop c.args.parts.start text) c.args.size) text some.given false false
          (short_undecided c.args.need_digest text c.args.parts c.args.size c.requires.parts c.requires.success c.requires.framing c.if-size-gt-BODY_LIMIT.false)
          (head_reads c.args.need_digest text c.requires.reads) (reads_open (IsShort (drop c.args.parts.start text) c.args.size) some.given some.reads),
    )

pub returns-in_err-body-clause-refused : goal.returns-in_err-body-clause-refused
returns-in_err-body-clause-refused g c = err_says c.from_residual.result _ (λ start received.
    (c.args.text.now, false, false, received, reads_open (IsUndecided c.args.need_digest) c.args.text.now (head_reads c.args.need_digest c.args.text.now c.requires.reads)))
