use Rattle.std.proofs.Common.{◌≡◌, ℕ, ap, ◌∙◌, subst, arith}
use Rattle.std.specs.Prelude.{slice_get}
use Rattle.std.proofs.lemmas.Option.{slice_get_within}
use Rattle.snapshot_publish.specs.Publications.{Publications}
use Rattle.snapshot_publish.specs.Publishing.{Publishing}
use Rattle.parallel_checks.specs.Checks.{of_seat, IsOfSeat}
use Rattle.parallel_checks.specs.Settled.{AreSettled}
use Rattle.parallel_checks.proofs.SettledSoFar.{one_more_settled}
use Rattle.parallel_checks.proofs.settling.settle.Goals as goal

pub loop-place-preserved : goal.loop-place-preserved
loop-place-preserved c =
    let inv = c.loop-place.invariant in let told = c.in_ok-settle_seat.ensures in let place : ℕ = c.loop-place.place in
    let lines = c.args.urls.now in let seat = c.settle_seat.new.seat in let now = c.loop-place.checks in let then = c.settle_seat.new.checks in
    let list = ap (λ (p : Publishing). p.list) inv.same in
    let settled = subst (λ (q : Publications × ℕ). AreSettled q.0 seat (of_seat lines q.1 place) (of_seat now q.1 place) (of_seat then q.1 place)) (λ i. (list i, inv.step i)) told.settled in
    let others = subst (λ (n : ℕ). (other : ℕ) → (IsOfSeat n place other → ⊥) → slice_get then other ≡ slice_get now other) inv.step told.others in record {
      same = told.publisher ∙ inv.same;
      step = inv.step;
      settled = one_more_settled c.args.publisher.now.list lines c.args.run.seats c.loop-place.seats c.args.run.checks now then place c.at_mut.result.now seat inv.settled c.at_mut.ensures.value
          told.goes_on told.count settled others;
    }

pub returns-clause-settled : goal.returns-clause-settled
returns-clause-settled c =
    let inv = c.loop-place.invariant in record {
      count = inv.settled.count ∙ c.requires.checks.count;
      each = λ p seat at. inv.settled.done p seat (omega (arith, slice_get_within c.loop-place.seats p seat at, c.len.ensures, c.loop-place-test.false)) at;
    }
