use Rattle.std.proofs.Common.{◌≡◌, ℕ, List, ◌++◌, drop, ap, subst, false, true, refl, Err}
use Rattle.http_edge.specs.Requests.{HasRequest, NeedsMore}
use Rattle.http_edge.specs.SessionBytes.{IsShort}
use Rattle.http_edge.specs.Receiving.{FillsUp, EndsShort, FailsShort, GivesWhile}
use Rattle.http_edge.proofs.Fronts.{front_then, to_end_then}
use Rattle.http_edge.proofs.RequestFacts.{request_whole, rest_of}
use Rattle.http_edge.proofs.RequestReads.{reads_request, short_needs, body_reads}
use Rattle.http_edge.proofs.requests.receive_rest.Goals as goal

pub returns-in_default-clause-outcome : goal.returns-in_default-clause-outcome
returns-in_default-clause-outcome g c = λ start gives. (
  c.args.text.now,
  false,
  gives,
  (c.requires.parts.head, drop c.args.parts.start c.args.text.now, subst (HasRequest c.args.text.now c.requires.parts.head (drop c.args.parts.start c.args.text.now)) c.in_default.is c.requires.parts.has),
  reads_request c.args.text.now false _ c.requires.reads (λ void. absurd (cc)) (λ void. absurd (cc)),
)

pub returns-in_default-from_slice-clause-outcome : goal.returns-in_default-from_slice-clause-outcome
returns-in_default-from_slice-clause-outcome g c = λ start gives. (
  c.args.text.now,
  false,
  gives,
  tt,
  reads_request c.args.text.now false _ c.requires.reads (λ void. absurd (cc)) (λ void. absurd (cc)),
)

pub returns-in-Ok-receive_body-clause-outcome : goal.returns-in-Ok-receive_body-clause-outcome
returns-in-Ok-receive_body-clause-outcome g c = λ start gives.
    let text = c.args.text.now in
    let n = c.in-Some.length in
    let rest : c.in-Ok.body ≡ drop c.args.parts.start text =
    rest_of c.in-Ok.body c.as_slice.result.now text c.args.parts.start c.in-Ok.ensures c.as_slice.ensures in
    let filled = subst (λ (body : List ℕ). FillsUp body c.receive_body.new.body n (g.S.Source.left c.args.source.now) (g.S.Source.left c.receive_body.new.source)) rest c.in-Ok-receive_body.ensures.whole in (
      text ++ filled.given,
      false,
      front_then _ _ _ _ _ gives filled.gives,
      request_whole text filled.given c.args.parts n _ c.requires.parts c.in-Some.is c.if-length-gt-BODY_LIMIT.false filled.enough refl refl refl filled.is,
      reads_request (text ++ filled.given) false _ (body_reads text filled.given c.args.parts n c.requires.parts c.in-Some.is c.if-length-gt-BODY_LIMIT.false c.requires.reads filled.reads)
          (λ void. absurd (cc)) (λ void. absurd (cc)),
    )

pub returns-in-Err-Ended-clause-outcome : goal.returns-in-Err-Ended-clause-outcome
returns-in-Err-Ended-clause-outcome g c = λ start gives.
    let text = c.args.text.now in
    let n = c.in-Some.length in
    let rest : c.in-Ok.body ≡ drop c.args.parts.start text =
    rest_of c.in-Ok.body c.as_slice.result.now text c.args.parts.start c.in-Ok.ensures c.as_slice.ensures in
    let short = subst (λ (body : List ℕ). EndsShort body n (g.S.Source.left c.args.source.now) (g.S.Source.left c.receive_body.new.source)) rest (c.in-Err-Ended.ensures.short (ap Err c.in-Err-Ended.field-0-is)) in
    let needs : NeedsMore (text ++ short.given) = short_needs text c.args.parts n c.requires.parts c.in-Some.is c.if-length-gt-BODY_LIMIT.false short.given short.short in (
      text ++ short.given,
      true,
      to_end_then _ _ _ _ _ gives short.gives,
      (refl, needs),
      reads_request (text ++ short.given) true _ (body_reads text short.given c.args.parts n c.requires.parts c.in-Some.is c.if-length-gt-BODY_LIMIT.false c.requires.reads short.reads)
          (λ _. needs) (λ _. needs),
    )

pub returns-in-Err-Failed-clause-outcome : goal.returns-in-Err-Failed-clause-outcome
returns-in-Err-Failed-clause-outcome g c = λ start gives.
    let text = c.args.text.now in
    let n = c.in-Some.length in
    let rest : c.in-Ok.body ≡ drop c.args.parts.start text =
    rest_of c.in-Ok.body c.as_slice.result.now text c.args.parts.start c.in-Ok.ensures c.as_slice.ensures in
    let fails = subst (λ (body : List ℕ). FailsShort body n (g.S.Source.left c.args.source.now) (g.S.Source.left c.receive_body.new.source)) rest (c.in-Err-Failed.ensures.failed_left (ap Err c.in-Err-Failed.field-0-is)) in
    let needs : NeedsMore (text ++ fails.given) = short_needs text c.args.parts n c.requires.parts c.in-Some.is c.if-length-gt-BODY_LIMIT.false fails.given fails.short in (
      text ++ fails.given,
      false,
      front_then _ _ _ _ _ gives fails.gives,
      tt,
      reads_request (text ++ fails.given) false _ (body_reads text fails.given c.args.parts n c.requires.parts c.in-Some.is c.if-length-gt-BODY_LIMIT.false c.requires.reads fails.reads)
          (λ _. needs) (λ _. needs),
    )

pub returns-clause-outcome : goal.returns-clause-outcome
returns-clause-outcome g c = λ start gives.
    let text = c.args.text.now in
    let n = c.in-Some.length in
    let rest : c.in-Ok.body ≡ drop c.args.parts.start text =
    rest_of c.in-Ok.body c.as_slice.result.now text c.args.parts.start c.in-Ok.ensures c.as_slice.ensures in
    let some = subst (λ (body : List ℕ). GivesWhile (IsShort body n) (g.S.Source.left c.args.source.now) (g.S.Source.left c.receive_body.new.source)) rest
    (c.in-Err-OutOfMemory.ensures.refused_left (ap Err c.in-Err-OutOfMemory.field-0-is)) in (
      text ++ some.given,
      false,
      front_then _ _ _ _ _ gives some.gives,
      tt,
      reads_request (text ++ some.given) false _ (body_reads text some.given c.args.parts n c.requires.parts c.in-Some.is c.if-length-gt-BODY_LIMIT.false c.requires.reads some.reads)
          (λ void. absurd (cc)) (λ void. absurd (cc)),
    )

pub returns-then-length-gt-BODY_LIMIT-clause-outcome : goal.returns-then-length-gt-BODY_LIMIT-clause-outcome
returns-then-length-gt-BODY_LIMIT-clause-outcome g c = λ start gives. (
  c.args.text.now,
  false,
  gives,
  (
    c.requires.parts.head,
    drop c.args.parts.start c.args.text.now,
    subst (HasRequest c.args.text.now c.requires.parts.head (drop c.args.parts.start c.args.text.now)) c.in-Some.is c.requires.parts.has,
    c.if-length-gt-BODY_LIMIT.true,
  ),
  reads_request c.args.text.now false _ c.requires.reads (λ void. absurd (cc)) (λ void. absurd (cc)),
)
