-- What the turns of a run leave of it.
use Rattle.std.proofs.Common.{◌≡◌, ◌<◌, ◌≤◌, ◌+◌, ◌-◌, ◌^◌, ℕ, List, [], ◌∷◌, true, false, Option, Some, None, map, refl, sym, ap, ◌∙◌, subst, inl, inr}
use Rattle.std.specs.Prelude.{◌⊎◌, is_some}
use Rattle.mirror_connections.specs.Open.{FindSeen}
use Rattle.mirror_finds.specs.declared.finds.OpenFind.{OpenFind}
use Rattle.mirror_rounds.specs.Rounds.{MirrorSeen, next_round_at}
use Rattle.mirror_run.specs.Allowed.{HasBegunAll, IsLastTurn}
use Rattle.mirror_run.specs.Events.{after_events}
use Rattle.mirror_run.specs.Events.MirrorEvent.{AllBegun, RunEnding, TurnBegun}
use Rattle.mirror_run.specs.Run.{EndsMirror}
use Rattle.mirror_run.specs.SoFar.{IsOpenFindOf, IsRunSo, MirrorOutside, MirrorOwn, RunStart, waiting_of}
use Rattle.mirror_run.specs.State.{MirrorState, StartedFind, WaitingFind, before_all, waited_long}
use Rattle.mirror_run.specs.State.Phase.{Beginning, Between, Ending, Finishing}
use Rattle.mirror_run.specs.Steps.{IsLast, NoFindIsDue, RunsSo, is_due_at, own_round_is_due, run_at}
use Rattle.mirror_run.specs.declared.plan.MirrorPlan.{MirrorPlan}
use Rattle.mirror_run.specs.declared.stop.MirrorStop.{MirrorStop}
use Rattle.mirror_run.proofs.Facts.{told_more}
use Rattle.mirror_run.proofs.Over.{phase_goes, turn_goes}
use Rattle.mirror_run.proofs.RoundFacts.{due_now, none_stopped}
use Rattle.sb_model.specs.declared.time.Moment.{Moment}
use Rattle.sb_outside.specs.Outside.{IfTold, with_entry}

pub turn_begins : (plan : MirrorPlan) (start : RunStart) (before now : Moment) (turns : ℕ) (own : MirrorOwn) (seen : MirrorOutside) (readings' : Option (List Moment))
    → RunsSo (run_at Between before turns) plan start own seen → own.stop ≡ None → own.no_more ≡ false → own.connections.taken < plan.connections → IfTold readings' (with_entry seen.readings now)
    → RunsSo (run_at Beginning now (turns + 1)) plan start own (record seen { readings = readings' })
turn_begins plan start before now turns own seen readings' run goes_on more_come more reads =
    let here = after_events start.first before_all run.events in
    record {
      events = TurnBegun now ∷ run.events;
      has = record {
        may = (
          record {
            left = run.stands.left;
            phase = run.stands.phase;
            goes_on = sym run.has.so.is.stop ∙ goes_on;
            more_come = sym run.has.so.is.no_more ∙ more_come;
            more = subst (λ (n : ℕ). n < plan.connections) run.has.so.connections.count more;
          },
          run.has.may,
        );
        so = turn_goes plan start here own seen run.has.so now Beginning readings' (told_more start.outside.readings seen.readings readings' here.readings now run.has.so.readings reads);
      };
      stands = record { left = record { none_taken = run.stands.left.none_taken; none_over = run.stands.left.none_over }; phase = refl; now = refl; turns = ap (λ (n : ℕ). n + 1) run.stands.turns };
    }

-- the find that is open, by what the program holds
open_is : (begun : Option FindSeen) (opened : Option OpenFind) (started : Option StartedFind) → IsOpenFindOf begun opened started → is_some opened ≡ true → is_some started ≡ true
open_is None None started is e = cc
open_is None (Some session) started is e = absurd is
open_is (Some find) None started is e = absurd is
open_is (Some find) (Some session) started is e = ap is_some is

none_due : (plan : MirrorPlan) (start : RunStart) (now : Moment) (turns : ℕ) (own : MirrorOwn) (seen : MirrorOutside) (run : RunsSo (run_at Beginning now turns) plan start own seen) → NoFindIsDue now own
    → ((after_events start.first before_all run.events).waiting ≡ []) ⊎ ((waiting : WaitingFind) × (rest : List WaitingFind) × ((after_events start.first before_all run.events).waiting ≡ waiting ∷ rest)
    × (waited_long (after_events start.first before_all run.events).now waiting.heard ≡ false) × (is_some (after_events start.first before_all run.events).find_open ≡ true))
none_due plan start now turns own seen run (inl none) = inl (sym run.has.so.is.waiting ∙ ap (map waiting_of) none)
none_due plan start now turns own seen run (inr (first, rest, waits, in_time, opened)) = inr (
  waiting_of first,
  map waiting_of rest,
  sym run.has.so.is.waiting ∙ ap (map waiting_of) waits,
  ap (λ (m : Moment). waited_long m first.heard) run.stands.now ∙ in_time,
  open_is own.connections.begun own.finds.opened _ run.has.so.is.find opened,
)

module _ (plan : MirrorPlan) (start : RunStart) (now : Moment) (turns : ℕ) (own : MirrorOwn) (seen : MirrorOutside) (run : RunsSo (run_at Beginning now turns) plan start own seen) where
  abbrev pub st : MirrorState
  st = after_events start.first before_all run.events

  begun_so : (HasBegunAll plan start.first st ⊎ (is_some st.stop ≡ true)) → RunsSo (run_at Ending now turns) plan start own seen
  begun_so all = record {
    events = AllBegun ∷ run.events;
    has = record { may = ((run.stands.left, run.stands.phase, all), run.has.may); so = phase_goes plan start st own seen run.has.so Ending };
    stands = record { left = record { none_taken = run.stands.left.none_taken; none_over = run.stands.left.none_over }; phase = refl; now = run.stands.now; turns = run.stands.turns };
  }

  pub stopped_begun : is_some own.stop ≡ true → RunsSo (run_at Ending now turns) plan start own seen
  stopped_begun stopped = begun_so (inr (ap is_some (sym run.has.so.is.stop) ∙ stopped))

  going_begun : own.stop ≡ None → own_round_is_due plan.updates.rounds own now ≡ false → NoFindIsDue now own → RunsSo (run_at Ending now turns) plan start own seen
  going_begun goes_on round find = begun_so (inl (record {
    rounds = sym (due_now plan start st own seen run.has.so (none_stopped plan start st own seen run.has.so (inl goes_on)) now run.stands.now) ∙ round;
    finds = none_due plan start now turns own seen run find;
  }))

  by_stop : (stop : Option MirrorStop) → own.stop ≡ stop → own_round_is_due plan.updates.rounds own now ≡ false → (is_some own.stop ≡ true) ⊎ NoFindIsDue now own → RunsSo (run_at Ending now turns) plan start own seen
  by_stop (Some why) same round find = stopped_begun (ap is_some same)
  by_stop None same round (inl stopped) = let h : is_some own.stop ≡ false = ap is_some same in cc
  by_stop None same round (inr find) = going_begun same round find

  pub all_begun : own_round_is_due plan.updates.rounds own now ≡ false → (is_some own.stop ≡ true) ⊎ NoFindIsDue now own → RunsSo (run_at Ending now turns) plan start own seen
  all_begun round find = by_stop own.stop refl round find

pub round_not_due : (most : ℕ) (now : Moment) (own own' : MirrorOwn) → is_some own.stop ≡ false → (is_some own.stop ≡ true) ⊎ (own_round_is_due most own now ≡ false) → own'.rounds ≡ own.rounds
    → own_round_is_due most own' now ≡ false
round_not_due most now own own' going (inl stopped) same = cc
round_not_due most now own own' going (inr round) same = ap (λ (r : MirrorSeen). is_due_at (next_round_at most r) now) same ∙ round

-- ---- the end

pub run_ends : (plan : MirrorPlan) (start : RunStart) (now : Moment) (turns : ℕ) (own : MirrorOwn) (seen : MirrorOutside) → RunsSo (run_at Between now turns) plan start own seen
    → IsLast plan own ⊎ (turns ≡ 2 ^ 64 - 1) → RunsSo (run_at Finishing now turns) plan start own seen
run_ends plan start now turns own seen run last =
    let here = after_events start.first before_all run.events in
    record {
      events = RunEnding ∷ run.events;
      has = record { may = ((run.stands.left, run.stands.phase, last_of plan start own seen here run.has.so turns run.stands.turns last), run.has.may); so = phase_goes plan start here own seen run.has.so Finishing };
      stands = record { left = record { none_taken = run.stands.left.none_taken; none_over = run.stands.left.none_over }; phase = refl; now = run.stands.now; turns = run.stands.turns };
    }
  where
    last_of : (plan : MirrorPlan) (start : RunStart) (own : MirrorOwn) (seen : MirrorOutside) (state : MirrorState) → IsRunSo plan start state own seen → (turns : ℕ) → state.turns ≡ turns → IsLast plan own ⊎ (turns ≡ 2 ^ 64 - 1) → IsLastTurn plan state
    last_of plan start own seen state so turns same (inl (inl stopped)) = inl (ap is_some (sym so.is.stop) ∙ stopped)
    last_of plan start own seen state so turns same (inl (inr (inl no_more))) = inr (inl (sym so.is.no_more ∙ no_more))
    last_of plan start own seen state so turns same (inl (inr (inr all))) = inr (inr (inl (subst (λ (n : ℕ). plan.connections ≤ n) so.connections.count all)))
    last_of plan start own seen state so turns same (inr counted) = inr (inr (inr (same ∙ counted)))

none_is : (begun : Option FindSeen) (opened : Option OpenFind) (started : Option StartedFind) → IsOpenFindOf begun opened started → opened ≡ None → started ≡ None
none_is None None started is e = is
none_is None (Some session) started is e = absurd is
none_is (Some find) None started is e = absurd is
none_is (Some find) (Some session) started is e = cc

pub has_ended : (plan : MirrorPlan) (start : RunStart) (now : Moment) (turns : ℕ) (own : MirrorOwn) (seen : MirrorOutside) (ended : Option MirrorStop) → RunsSo (run_at Finishing now turns) plan start own seen
    → own.rounds.opened ≡ None → own.finds.opened ≡ None → own.connections.waiting ≡ [] → ended ≡ own.stop → EndsMirror plan start ended seen
has_ended plan start now turns own seen ended run no_round no_find nobody is = record {
  events = run.events;
  own = own;
  has = run.has;
  come = record {
    left = run.stands.left;
    ended = run.stands.phase;
    no_round = sym run.has.so.is.round_open ∙ ap is_some no_round;
    no_find = none_is own.connections.begun own.finds.opened _ run.has.so.is.find no_find;
    nobody = sym run.has.so.is.waiting ∙ ap (map waiting_of) nobody;
  };
  ending = is ∙ run.has.so.is.stop;
}
