use Rattle.std.proofs.Common.{◌≡◌, ℕ, List, ◌≤◌, ◌∙◌, sym, ap, subst, length, inl, inr, Err, arith}
use Rattle.std.proofs.lemmas.List.{take_all}
use Rattle.httparse.specs.Grammar.{HasNoSection, NeverHasSection, MayBecomeSection}
use Rattle.httparse.specs.Spans.{SectionExceeds}
use Rattle.http_edge.proofs.HeadSizes.{front_short, section_fits}
use Rattle.http_edge.proofs.ChunkFacts.{trailer_of_front, fields_counted}
use Rattle.http_edge.proofs.chunks.read_trailer.Goals as goal

pub returns-then-count-le-FIELD_LIMIT : goal.returns-then-count-le-FIELD_LIMIT
returns-then-count-le-FIELD_LIMIT c =
    let front = c.front_of.result.now in
    let headers = c.parse_headers.new.headers in
    let found = rw c.in-Ok-Complete.field-0-is at c.in-Ok-Complete.ensures.complete in
    let within = rw c.in-Ok-Complete.field-0-is at c.in-Ok-Complete.ensures.within in
    let counted : length found.0 ≡ c.in-Ok-Complete.count = fields_counted front headers c.in-Ok-Complete.count found.0 within.count_fits found.2.fields_are in
    (found.0, trailer_of_front c.args.bytes.now front headers _ _ found.0 found.1 c.front_of.ensures found.2, omega (arith, counted, c.if-count-le-FIELD_LIMIT.true))

pub returns-else-count-le-FIELD_LIMIT : goal.returns-else-count-le-FIELD_LIMIT
returns-else-count-le-FIELD_LIMIT c =
    let front = c.front_of.result.now in
    let headers = c.parse_headers.new.headers in
    let found = rw c.in-Ok-Complete.field-0-is at c.in-Ok-Complete.ensures.complete in
    let within = rw c.in-Ok-Complete.field-0-is at c.in-Ok-Complete.ensures.within in
    let counted : length found.0 ≡ c.in-Ok-Complete.count = fields_counted front headers c.in-Ok-Complete.count found.0 within.count_fits found.2.fields_are in
    inr (inr (found.0, trailer_of_front c.args.bytes.now front headers _ _ found.0 found.1 c.front_of.ensures found.2, omega (arith, counted, c.if-count-le-FIELD_LIMIT.false)))

pub returns-then-bytes-lt-HEAD_LIMIT : goal.returns-then-bytes-lt-HEAD_LIMIT
returns-then-bytes-lt-HEAD_LIMIT c =
    let bytes = c.args.bytes.now in
    let whole : c.front_of.result.now ≡ bytes = c.front_of.ensures ∙ take_all 16384 bytes (omega arith) in (
      c.if-bytes-lt-HEAD_LIMIT.true,
      subst HasNoSection whole (rw c.in-Ok-Partial.field-0-is at c.in-Ok-Partial.ensures.partial),
      subst MayBecomeSection whole (rw c.in-Ok-Partial.field-0-is at c.in-Ok-Partial.ensures.unfinished),
    )

pub returns-else-bytes-lt-HEAD_LIMIT : goal.returns-else-bytes-lt-HEAD_LIMIT
returns-else-bytes-lt-HEAD_LIMIT c =
    inr (inl (c.if-bytes-lt-HEAD_LIMIT.false, subst HasNoSection c.front_of.ensures (rw c.in-Ok-Partial.field-0-is at c.in-Ok-Partial.ensures.partial)))

pub returns-in-Err : goal.returns-in-Err
returns-in-Err c =
    let front = c.front_of.result.now in
    let short : length front ≤ 16384 = subst (λ (f : List ℕ). length f ≤ 16384) (sym c.front_of.ensures) (front_short c.args.bytes.now) in
    inl (subst NeverHasSection c.front_of.ensures
    (c.in-Err.ensures.invalid (λ is. section_fits front short (subst (λ (n : ℕ). SectionExceeds n front) c.requires (c.in-Err.ensures.too_many (ap Err is))))))
