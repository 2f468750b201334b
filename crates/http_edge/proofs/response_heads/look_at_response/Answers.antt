use Rattle.std.proofs.Common.{ℕ, List, ◌≤◌, sym, ap, subst, length, inl, Err}
use Rattle.httparse.specs.Grammar.{NeverHasResponse}
use Rattle.httparse.specs.Spans.{ResponseExceeds}
use Rattle.http_edge.proofs.HeadSizes.{front_short, response_fits}
use Rattle.http_edge.proofs.ResponseFacts.{response_of_front}
use Rattle.http_edge.proofs.response_heads.look_at_response.Goals as goal

pub take_response_parts-requires-clause-short : goal.take_response_parts-requires-clause-short
take_response_parts-requires-clause-short c =
    subst (λ (front : List ℕ). length front ≤ 16384) (sym c.front_of-front.ensures) (front_short c.args.text.now)

pub returns-in-Ok-Complete : goal.returns-in-Ok-Complete
returns-in-Ok-Complete c =
    response_of_front c.args.text.now c.front_of-front.result.now c.take_response_parts.result c.front_of-front.ensures c.take_response_parts.ensures.decided c.take_response_parts.ensures.step

pub returns-in-Err : goal.returns-in-Err
returns-in-Err c =
    let front = c.front_of-front.result.now in
    let short : length front ≤ 16384 = subst (λ (f : List ℕ). length f ≤ 16384) (sym c.front_of-front.ensures) (front_short c.args.text.now) in
    inl (subst NeverHasResponse c.front_of-front.ensures
    (c.in-Err.ensures.invalid (λ is. response_fits front short (subst (λ (n : ℕ). ResponseExceeds n front) c.requires (c.in-Err.ensures.too_many (ap Err is))))))
