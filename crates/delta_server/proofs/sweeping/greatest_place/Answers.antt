use Rattle.std.proofs.Common.{◌≡◌, ◌+◌, ◌<◌, ◌^◌, ◌∙◌, ℕ, Bool, true, false, length, ap, sym, refl, arith}
use Rattle.delta_server.specs.Sweeping.{shown_at}
use Rattle.delta_server.specs.Walk.{may_take}
use Rattle.delta_server.proofs.ShownFacts.{few_shown}
use Rattle.delta_server.proofs.SweepFacts.{greatest_more}
use Rattle.delta_server.proofs.sweeping.greatest_place.Goals as goal
use Rattle.delta_server.proofs.sweeping.greatest_place.Goals.{then-may_take, else-may_take}

pub loop-place-preserved : goal.loop-place-preserved
loop-place-preserved c =
    let first : ℕ = c.args.first in
    let place : ℕ = c.loop-place.place in
    record {
      level = λ stretches few swept. c.next-level.ensures.stands (shown_at stretches first) stretches swept few (c.loop-place.invariant.level stretches few swept);
      greatest = λ stretches few swept.
          let held = shown_at stretches first in
          let test : ℕ → Bool = λ p. may_take (shown_at stretches first) c.args.max_update c.args.max_database (shown_at stretches (first + p)) in
          let own : c.next-start.result.len ≡ length (shown_at stretches first) =
          (c.next-start.ensures.counts (shown_at stretches first) stretches swept few (record { len = omega arith; shared = omega arith })).len
          ∙ ap (λ (v : ℕ). length (shown_at stretches v)) (let same : first + 0 ≡ first = omega arith in same) in
          let less : length (shown_at stretches first) < 2 ^ 63 = omega (arith, few, few_shown stretches first) in
          let counts = c.next-level.ensures.counts (shown_at stretches first) stretches swept few (c.loop-place.invariant.level stretches few swept) in
          let takes : c.may_take.result ≡ test place = c.may_take.ensures (shown_at stretches first) stretches (first + place) own less first refl few counts in
          elim c.if-may_take.branch [
            | then-may_take w ↦ greatest_more test place c.loop-place.greatest c.if-may_take.greatest true (sym takes ∙ w.if-may_take.true) (c.loop-place.invariant.greatest stretches few swept) w.greatest-is
            | else-may_take w ↦ greatest_more test place c.loop-place.greatest c.if-may_take.greatest false (sym takes ∙ w.if-may_take.false) (c.loop-place.invariant.greatest stretches few swept) w.greatest-is
          ];
    }
