use Rattle.std.proofs.Common.{◌+◌, ◌-◌, ◌≡◌, take, drop, ap, ◌∙◌, subst, arith}
use Rattle.std.proofs.lemmas.List.{length-set}
use Rattle.url_canon.specs.Unescaping.{unescaped}
use Rattle.url_canon.proofs.Inplace.{Turned, turn}
use Rattle.url_canon.proofs.unescape.unescape_part.Goals as goal

pub loop-place-preserved : goal.loop-place-preserved
loop-place-preserved c =
    let inv = c.loop-place.invariant in
    let before : Turned c.args.bytes.now c.loop-place.bytes c.loop-place.place c.loop-place.top = record { order = inv.order; within = inv.within; front = inv.front; value = inv.value } in
    let after = turn c.args.bytes.now c.loop-place.bytes c.loop-place.place c.loop-place.top c.byte_before-front.result.0 c.byte_before-front.result.1 (omega arith) inv.len before c.byte_before-front.ensures.within c.byte_before-front.ensures.value in
    record {
      from = omega arith;
      order = after.order;
      len = length-set c.loop-place.bytes (c.loop-place.top + c.byte_before-front.result.1 - 1) c.byte_before-front.result.0 ∙ inv.len;
      within = after.within;
      front = after.front;
      value = after.value;
    }

pub returns-clause-front : goal.returns-clause-front
returns-clause-front c =
    let start : c.loop-place.place ≡ c.args.first = omega (arith, c.loop-place.invariant.from) in
    subst (λ n. take n c.loop-place.bytes ≡ take n c.args.bytes.now) start c.loop-place.invariant.front

pub returns-clause-value : goal.returns-clause-value
returns-clause-value c =
    let start : c.loop-place.place ≡ c.args.first = omega (arith, c.loop-place.invariant.from) in
    c.loop-place.invariant.value ∙ ap (λ n. unescaped (drop n c.args.bytes.now)) start
