-- Checks that are settled.
use Rattle.std.proofs.Common.{◌≡◌, ◌≢◌, ℕ, suc, ◌+◌, ◌*◌, ◌<◌, ◌≤◌, min, ◌⊎◌, inl, inr, ⊎_elim, List, length, set, refl, sym, ap, ◌∙◌, subst, arith}
use Rattle.std.specs.Prelude.{Option, Some, Result, Ok, Err, OnOk, slice_get}
use Rattle.std.proofs.lemmas.Option.{slice_get_within}
use Rattle.snapshot_publish.specs.Publications.{Publications, Publication, IsPrefixOf, IsLastOf}
use Rattle.snapshot_publish.specs.Publishing.{Seated}
use Rattle.url_checker.specs.declared.findings.Finding.{Finding}
use Rattle.url_checker.specs.declared.findings.Checked.{Checked}
use Rattle.url_checker.specs.declared.findings.Checked.TheVariants.{Found, Refused}
use Rattle.parallel_checks.specs.Checks.{IsCheckOf, IsCheckOn, GoesOn, AreSeatChecks, of_seat, IsOfSeat}
use Rattle.parallel_checks.specs.Settled.{NamesKeptPublication, NameKeptPublications, AreAnew, MayStand, IsOnLast, AreSettled}
use Rattle.parallel_checks.proofs.ListFacts.{set_there, set_other, set_length, as_long, some_same}
use Rattle.parallel_checks.proofs.LineFacts.{before, apart, less_or, next_is}
use Rattle.parallel_checks.proofs.CheckFacts.{prefix_whole, check_of, check_on, number_on}

-- ---- whether all are kept

-- The publications that the checks of the first turns name are kept.
pub record KeptTo (all : Publications) (checks : List Checked) (place step index : ℕ) : Type 0 where
  pub turns : ℕ
  pub at : index ≡ min (length checks) (place + turns * step)
  pub kept : (turn : ℕ) (check : Checked) → turn < turns → of_seat checks step place turn ≡ Some check → NamesKeptPublication all check

pub one_more_kept : (all : Publications) (checks : List Checked) (place step index next : ℕ) (check : Checked) → KeptTo all checks place step index → index < length checks
    → slice_get checks index ≡ Some check → NamesKeptPublication all check → next ≡ min (length checks) (index + step) → KeptTo all checks place step next
one_more_kept all checks place step index next check h i at is e = record {
  turns = h.turns + 1;
  at = next_is index place h.turns step (length checks) next h.at i e;
  kept = λ turn c j got. ⊎_elim
      (λ (t : turn < h.turns). h.kept turn c t got)
      (λ (t : h.turns ≤ turn).
      let same : turn ≡ h.turns = omega (arith, t, j) in
      let there : index ≡ place + turn * step = omega (arith, h.at, i, ap (λ (n : ℕ). n * step) same) in
      subst (NamesKeptPublication all) (some_same check c (sym at ∙ (ap (slice_get checks) there ∙ got))) is)
      (less_or turn h.turns);
}

pub all_are_kept : (all : Publications) (checks : List Checked) (place step index : ℕ) → KeptTo all checks place step index → length checks ≤ index → NameKeptPublications all (of_seat checks step place)
all_are_kept all checks place step index h far turn check got =
    h.kept turn check (before place turn h.turns step (length checks) (slice_get_within checks (place + turn * step) check got) (omega (arith, h.at, far))) got

pub one_is_not : (all : Publications) (checks : List Checked) (place step index : ℕ) (check : Checked) → KeptTo all checks place step index → index < length checks
    → slice_get checks index ≡ Some check → (NamesKeptPublication all check → ⊥) → NameKeptPublications all (of_seat checks step place) → ⊥
one_is_not all checks place step index check h i at lost kept =
    let there : index ≡ place + h.turns * step = omega (arith, h.at, i) in
    lost (kept h.turns check (ap (slice_get checks) (sym there) ∙ at))

-- ---- checks made anew

-- The checks of the first turns were made anew on a publication, and those of no other line.
pub record AnewTo (one : Publication) (lines : List (List ℕ)) (old now : List Checked) (place step index : ℕ) : Type 0 where
  pub turns : ℕ
  pub at : index ≡ min (length lines) (place + turns * step)
  pub count : length now ≡ length old
  pub anew : (turn : ℕ) (line : List ℕ) (check : Checked) → turn < turns → of_seat lines step place turn ≡ Some line → of_seat now step place turn ≡ Some check → IsCheckOn one line check
  pub others : (other : ℕ) → (IsOfSeat step place other → ⊥) → slice_get now other ≡ slice_get old other

module _ (one : Publication) (lines : List (List ℕ)) (old now : List Checked) (place step index next : ℕ) (line : List ℕ) (check : Checked)
    (h : AnewTo one lines old now place step index) (some : 0 < step) (i : index < length lines) (at : slice_get lines index ≡ Some line) (is : IsCheckOn one line check)
    (e : next ≡ min (length lines) (index + step)) where
  there : index ≡ place + h.turns * step
  there = omega (arith, h.at, i)

  anew_at : (turn : ℕ) (l : List ℕ) (c : Checked) → (turn < h.turns) ⊎ (turn ≡ h.turns) → of_seat lines step place turn ≡ Some l → of_seat (set now index check) step place turn ≡ Some c → IsCheckOn one l c
  anew_at turn l c (inl t) got got' =
      let away : place + turn * step ≢ index = λ same. apart place turn h.turns step some t (same ∙ there) in
      h.anew turn l c t got (sym (set_other now index (place + turn * step) check away) ∙ got')
  anew_at turn l c (inr t) got got' =
      let same : place + turn * step ≡ index = ap (λ (n : ℕ). place + n * step) t ∙ sym there in
      let line_is : line ≡ l = some_same line l (sym at ∙ (ap (slice_get lines) (sym same) ∙ got)) in
      let check_is : check ≡ c = set_there now index check c (ap (slice_get (set now index check)) (sym same) ∙ got') in
      subst (λ (q : List ℕ × Checked). IsCheckOn one q.0 q.1) (λ j. (line_is j, check_is j)) is

  pub one_more_anew : AnewTo one lines old (set now index check) place step next
  one_more_anew = record {
    turns = h.turns + 1;
    at = next_is index place h.turns step (length lines) next h.at i e;
    count = set_length now index check ∙ h.count;
    anew = λ turn l c j got got'. anew_at turn l c (⊎_elim (λ (t : turn < h.turns). inl t) (λ (t : h.turns ≤ turn). inr (omega (arith, t, j))) (less_or turn h.turns)) got got';
    others = λ other away. set_other now index other check (λ same. away (h.turns, same ∙ there)) ∙ h.others other away;
  }

pub all_anew : (one : Publication) (lines : List (List ℕ)) (old now : List Checked) (place step index : ℕ) → AnewTo one lines old now place step index → length lines ≤ index
    → AreAnew one (of_seat lines step place) (of_seat now step place)
all_anew one lines old now place step index h far turn line check at got =
    h.anew turn line check (before place turn h.turns step (length lines) (slice_get_within lines (place + turn * step) line at) (omega (arith, h.at, far))) at got

-- ---- a seat

pub stand_settled : (all : Publications) (seat seat' : Seated) (lines : ℕ → Option (List ℕ)) (checks : ℕ → Option Checked) → GoesOn seat seat' → IsPrefixOf all seat'.list
    → MayStand all seat' checks → AreSeatChecks seat.list lines checks → AreSettled all seat' lines checks checks
stand_settled all seat seat' lines checks on told may are =
    let same : seat'.list ≡ all = prefix_whole all seat'.list told may.whole in record {
      are = record {
        each = λ turn line check at got. subst (λ (l : Publications). IsCheckOf l line check) same (check_on seat.list seat'.list line check on.list (are.each turn line check at got));
        never_fall = are.never_fall;
      };
      kept = may.kept;
      stand = λ _ turn. refl;
      anew = λ not_so turn check got. absurd (not_so may);
    }

module _ (all : Publications) (last : Publication) (lines : List (List ℕ)) (now : List Checked) (step place : ℕ)
    (is_last : IsLastOf all last) (same : length now ≡ length lines) (anew : AreAnew last (of_seat lines step place) (of_seat now step place)) where
  on_last : (turn : ℕ) (check : Checked) → of_seat now step place turn ≡ Some check → (line : List ℕ) × (of_seat lines step place turn ≡ Some line) × IsCheckOn last line check
  on_last turn check got =
      let line = as_long lines now (place + turn * step) check same got in (line.0, line.1, anew turn line.0 check line.1 got)

  numbered : (turn : ℕ) (finding : Finding) → of_seat now step place turn ≡ Some (Found finding) → suc finding.number ≡ length all
  numbered turn finding got =
      let on = on_last turn (Found finding) got in ap suc (number_on last on.0 (Found finding) finding refl on.2) ∙ is_last.number

  kept_last : NameKeptPublications all (of_seat now step place)
  kept_last turn (Found finding) got = record { made = omega (arith, numbered turn finding got); newest = omega (arith, numbered turn finding got) }
  kept_last turn (Refused fault) got = tt

  is_on_last : (turn : ℕ) (check : Checked) → of_seat now step place turn ≡ Some check → IsOnLast all check
  is_on_last turn (Found finding) got = numbered turn finding got
  is_on_last turn (Refused fault) got = tt

  pub anew_settled : (seat' : Seated) (old : ℕ → Option Checked) → (MayStand all seat' old → ⊥) → AreSettled all seat' (of_seat lines step place) old (of_seat now step place)
  anew_settled seat' old not_so = record {
    are = record {
      each = λ turn line check at got. check_of all last line check is_last.lists (anew turn line check at got);
      never_fall = λ turn turn' first later le got got'. omega (arith, numbered turn first got, numbered turn' later got');
    };
    kept = kept_last;
    stand = λ may. absurd (not_so may);
    anew = λ _ turn check got. is_on_last turn check got;
  }

pub on_ok : {A B P Q : Type 0} (r : Result A B) → (P → Q) → OnOk r P → OnOk r Q
on_ok (Ok x) f h = f h
on_ok (Err e) f h = h
