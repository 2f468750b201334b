use Rattle.std.proofs.Common.{ℕ, List, ◌+◌, ◌*◌, ◌≤◌, sym, ap, subst, length, inl, Err}
use Rattle.httparse.specs.Grammar.{HasNoRequest, MayBecomeRequest, NeverHasRequest}
use Rattle.http_edge.proofs.HeadSizes.{front_short, request_fits}
use Rattle.http_edge.proofs.RequestFacts.{result_of_front}
use Rattle.http_edge.proofs.requests.look_at_head.Goals as goal

pub take_parts-requires-clause-short : goal.take_parts-requires-clause-short
take_parts-requires-clause-short c =
    subst (λ (front : List ℕ). length front ≤ 16384) (sym c.front_of-front.ensures) (front_short c.args.text.now)

pub returns-in-Ok-Complete : goal.returns-in-Ok-Complete
returns-in-Ok-Complete c =
    result_of_front c.args.text.now c.front_of-front.result.now c.take_parts.result c.front_of-front.ensures c.take_parts.ensures.decided c.take_parts.ensures.step

pub returns-in-Ok-Partial : goal.returns-in-Ok-Partial
returns-in-Ok-Partial c =
    record {
      not_whole = subst HasNoRequest c.front_of-front.ensures (rw c.in-Ok-Partial.field-0-is at c.in-Ok-Partial.ensures.partial);
      may_be = subst MayBecomeRequest c.front_of-front.ensures (rw c.in-Ok-Partial.field-0-is at c.in-Ok-Partial.ensures.unfinished);
    }

pub returns-in-Err : goal.returns-in-Err
returns-in-Err c =
    let front = c.front_of-front.result.now in
    let room : length front ≤ 3 * length c.args.room.now + 2 = subst (λ (f : List ℕ). length f ≤ 3 * length c.args.room.now + 2) (sym c.front_of-front.ensures) c.requires in
    inl (subst NeverHasRequest c.front_of-front.ensures
    (c.in-Err.ensures.invalid (λ is. request_fits (length c.args.room.now) front room (c.in-Err.ensures.too_many (ap Err is)))))
