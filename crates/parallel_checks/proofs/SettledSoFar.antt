-- A run that is settled, seat by seat.
use Rattle.std.proofs.Common.{◌≡◌, ◌≢◌, ℕ, ◌+◌, ◌*◌, ◌<◌, ◌≤◌, ◌⊎◌, inl, inr, List, length, set, sym, ap, ◌∙◌, subst, arith}
use Rattle.std.specs.Prelude.{Option, Some, slice_get}
use Rattle.std.proofs.lemmas.Option.{slice_get_within}
use Rattle.snapshot_publish.specs.Publications.{Publications}
use Rattle.snapshot_publish.specs.Publishing.{Seated}
use Rattle.url_checker.specs.declared.findings.Checked.{Checked}
use Rattle.parallel_checks.specs.Checks.{GoesOn, GoOn, of_seat, IsOfSeat}
use Rattle.parallel_checks.specs.Settled.{AreSettled}
use Rattle.parallel_checks.proofs.ListFacts.{set_there, set_other, set_length, some_same}
use Rattle.parallel_checks.proofs.LineFacts.{same_line, same_or}

-- The first seats are settled, and the others are as they were.
pub record SettledTo (all : Publications) (lines : List (List ℕ)) (seats now : List Seated) (checks checks' : List Checked) (place : ℕ) : Type 0 where
  pub go_on : GoOn seats now
  pub count : length checks' ≡ length checks
  pub done : (p : ℕ) (seat : Seated) → p < place → slice_get now p ≡ Some seat
      → AreSettled all seat (of_seat lines (length seats) p) (of_seat checks (length seats) p) (of_seat checks' (length seats) p)
  pub seats_left : (p : ℕ) → place ≤ p → slice_get now p ≡ slice_get seats p
  pub checks_left : (p turn : ℕ) → place ≤ p → p < length seats → of_seat checks' (length seats) p turn ≡ of_seat checks (length seats) p turn

module _ (all : Publications) (lines : List (List ℕ)) (seats now : List Seated) (checks checks' checks'' : List Checked) (place : ℕ) (seat seat' : Seated)
    (h : SettledTo all lines seats now checks checks' place) (at : slice_get now place ≡ Some seat) where
  pub was : slice_get seats place ≡ Some seat
  was = sym (h.seats_left place (omega arith)) ∙ at

  pub within : place < length seats
  within = slice_get_within seats place seat was

  as_before : of_seat checks' (length seats) place ≡ of_seat checks (length seats) place
  as_before i turn = h.checks_left place turn (omega arith) within i

  module _ (on : GoesOn seat seat') (count : length checks'' ≡ length checks')
      (settled : AreSettled all seat' (of_seat lines (length seats) place) (of_seat checks' (length seats) place) (of_seat checks'' (length seats) place))
      (others : (other : ℕ) → (IsOfSeat (length seats) place other → ⊥) → slice_get checks'' other ≡ slice_get checks' other) where
    as_it_was : (p turn : ℕ) → p < length seats → p ≢ place → of_seat checks'' (length seats) p turn ≡ of_seat checks' (length seats) p turn
    as_it_was p turn i away = others (p + turn * length seats) (λ own. away (same_line p turn place own.0 (length seats) i within own.1).0)

    go_on_at : (p : ℕ) (one one' : Seated) → (p ≡ place) ⊎ (p ≢ place) → slice_get seats p ≡ Some one → slice_get (set now place seat') p ≡ Some one' → GoesOn one one'
    go_on_at p one one' (inl e) there got =
        let new : seat' ≡ one' = set_there now place seat' one' (ap (slice_get (set now place seat')) (sym e) ∙ got) in
        let old : seat ≡ one = some_same seat one (sym was ∙ (ap (slice_get seats) (sym e) ∙ there)) in
        subst (λ (q : Seated × Seated). GoesOn q.0 q.1) (λ i. (old i, new i)) on
    go_on_at p one one' (inr away) there got = h.go_on.each p one one' there (sym (set_other now place p seat' away) ∙ got)

    done_at : (p : ℕ) (one : Seated) → (p ≡ place) ⊎ (p ≢ place) → p < place + 1 → slice_get (set now place seat') p ≡ Some one
        → AreSettled all one (of_seat lines (length seats) p) (of_seat checks (length seats) p) (of_seat checks'' (length seats) p)
    done_at p one (inl e) i got =
        let new : seat' ≡ one = set_there now place seat' one (ap (slice_get (set now place seat')) (sym e) ∙ got) in
        subst (λ (q : ℕ × Seated). AreSettled all q.1 (of_seat lines (length seats) q.0) (of_seat checks (length seats) q.0) (of_seat checks'' (length seats) q.0)) (λ j. (sym e j, new j))
        (subst (λ (f : ℕ → Option Checked). AreSettled all seat' (of_seat lines (length seats) place) f (of_seat checks'' (length seats) place)) as_before settled)
    done_at p one (inr away) i got =
        let j : p < place = omega (arith, i, away) in
        let same : of_seat checks' (length seats) p ≡ of_seat checks'' (length seats) p = λ k turn. sym (as_it_was p turn (omega (arith, j, within)) away) k in
        subst (AreSettled all one (of_seat lines (length seats) p) (of_seat checks (length seats) p)) same
        (h.done p one j (sym (set_other now place p seat' away) ∙ got))

    pub one_more_settled : SettledTo all lines seats (set now place seat') checks checks'' (place + 1)
    one_more_settled = record {
      go_on = record { count = set_length now place seat' ∙ h.go_on.count; each = λ p one one' there got. go_on_at p one one' (same_or p place) there got };
      count = count ∙ h.count;
      done = λ p one i got. done_at p one (same_or p place) i got;
      seats_left = λ p i. set_other now place p seat' (λ e. absurd (omega (arith, i, e))) ∙ h.seats_left p (omega (arith, i));
      checks_left = λ p turn i j. as_it_was p turn j (λ e. absurd (omega (arith, i, e))) ∙ h.checks_left p turn (omega (arith, i)) j;
    }
