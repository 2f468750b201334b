-- Rounds and one more, and what rounds come to.
use Rattle.std.proofs.Common.{◌≡◌, ◌≤◌, ℕ, List, [], ◌∷◌, ◌++◌, Bool, map, refl, sym, ap, ◌∙◌, subst, append_assoc}
use Rattle.std.specs.Prelude.{fold}
use Rattle.std.proofs.lemmas.List.{append-nil}
use Rattle.sb_model.specs.declared.time.Moment.{Moment}
use Rattle.sb_outside.specs.declared.links.Session.{Session}
use Rattle.http_edge.specs.declared.messages.Target.{Target}
use Rattle.update_client.specs.Held.{Held}
use Rattle.update_client.specs.Step.{after_updates}
use Rattle.update_client.specs.declared.options.FetchOptions.{FetchOptions}
use Rattle.wait_rules.specs.declared.waits.WaitState.{WaitState}
use Rattle.timed_sessions.specs.Told.{Trace, Grows, no_trace, then_trace}
use Rattle.timed_sessions.specs.Law.{BeginsTrace, GoesOnWithTrace}
use Rattle.sb_round.specs.Run.{lists_after}
use Rattle.sb_round.specs.Round.{Round, IsRound, lists_after_round, trace_of_round, waits_after_round}
use Rattle.sb_round.specs.Rounds.{round_updates, round_entry, waits_after_rounds, trace_of_rounds, AreRounds, BeginsRounds, GoesOnWithRounds, RoundsKeepToWaits, RoundsAreTheirSessions}

fold_one_more : {A B : Type 0} (step : A → B → A) (start : A) (items : List B) (item : B) → fold step start (items ++ item ∷ []) ≡ step (fold step start items) item
fold_one_more step start [] item = refl
fold_one_more step start (first ∷ items) item = fold_one_more step (step start first) items item

map_one_more : {A B : Type 0} (f : A → B) (items : List A) (item : A) → map f (items ++ item ∷ []) ≡ map f items ++ f item ∷ []
map_one_more f [] item = refl
map_one_more f (first ∷ items) item = ap (λ rest. f first ∷ rest) (map_one_more f items item)

-- ---- what is told of rounds and one more

abbrev trace : List Session → List Moment → List Moment → List ℕ → Trace
trace sessions readings waits drawn = record { sessions = sessions; readings = readings; waits = waits; drawn = drawn }

same_trace : (a b : Trace) → a.sessions ≡ b.sessions → a.readings ≡ b.readings → a.waits ≡ b.waits → a.drawn ≡ b.drawn → a ≡ b
same_trace a b sessions readings waits drawn =
    ap (λ all. trace all a.readings a.waits a.drawn) sessions
    ∙ ap (λ all. trace b.sessions all a.waits a.drawn) readings
    ∙ ap (λ all. trace b.sessions b.readings all a.drawn) waits
    ∙ ap (λ all. trace b.sessions b.readings b.waits all) drawn

then_nothing : (a : Trace) → then_trace a no_trace ≡ then_trace no_trace a
then_nothing a = same_trace _ _ (append-nil a.sessions) (append-nil a.readings) (append-nil a.waits) (append-nil a.drawn)

then_both : (a b c : Trace) → then_trace a (then_trace b c) ≡ then_trace (then_trace a b) c
then_both a b c =
    same_trace _ _
    (sym (append_assoc a.sessions b.sessions c.sessions)) (sym (append_assoc a.readings b.readings c.readings))
    (sym (append_assoc a.waits b.waits c.waits)) (sym (append_assoc a.drawn b.drawn c.drawn))

trace_one_more : (waits : WaitState) (rounds : List Round) (round : Round)
    → trace_of_rounds waits (rounds ++ round ∷ []) ≡ then_trace (trace_of_rounds waits rounds) (trace_of_round (waits_after_rounds waits rounds) round)
trace_one_more waits [] round = then_nothing (trace_of_round waits round)
trace_one_more waits (first ∷ rounds) round =
    ap (λ rest. then_trace (trace_of_round waits first) rest) (trace_one_more (waits_after_round waits first) rounds round)
    ∙ then_both (trace_of_round waits first) (trace_of_rounds (waits_after_round waits first) rounds) (trace_of_round (waits_after_rounds (waits_after_round waits first) rounds) round)

rounds_one_more : (lists : List Held) (waits : WaitState) (options : FetchOptions) (target : Target) (need : Bool) (rounds : List Round) (round : Round)
    → AreRounds lists waits options target need rounds → IsRound (lists_after lists (map round_updates rounds)) (waits_after_rounds waits rounds) options target need round
    → AreRounds lists waits options target need (rounds ++ round ∷ [])
rounds_one_more lists waits options target need [] round are is = (is, tt)
rounds_one_more lists waits options target need (first ∷ rounds) round (first_is, are) is =
    (first_is, rounds_one_more (lists_after_round lists first) (waits_after_round waits first) options target need rounds round are is)

pub begins_rounds : BeginsTrace → BeginsRounds
begins_rounds none state options target need before = record { are = tt; told = none before; lists_are = refl; waits_are = refl }

pub goes_on : GoesOnWithTrace → GoesOnWithRounds
goes_on one_more state state' state'' options target need before between after rounds end so_far made = record {
  are = rounds_one_more state.lists state.waits options target need rounds made.round so_far.are
      (subst (λ ws. IsRound (lists_after state.lists (map round_updates rounds)) ws options target need made.round) so_far.waits_are
      (subst (λ ls. IsRound ls state'.waits options target need made.round) so_far.lists_are made.is));
  told = subst (λ all. Grows before after all) (sym (trace_one_more state.waits rounds made.round))
      (one_more before between after (trace_of_rounds state.waits rounds) (trace_of_round (waits_after_rounds state.waits rounds) made.round) so_far.told
      (subst (λ ws. Grows between after (trace_of_round ws made.round)) so_far.waits_are made.told));
  lists_are = made.lists_after
      ∙ ap (λ ls. lists_after_round ls made.round) so_far.lists_are
      ∙ sym (ap (λ bodies. lists_after state.lists bodies) (map_one_more round_updates rounds made.round) ∙ fold_one_more after_updates state.lists (map round_updates rounds) (round_updates made.round));
  waits_are = made.waits_after ∙ ap (λ ws. waits_after_round ws made.round) so_far.waits_are ∙ sym (fold_one_more waits_after_round state.waits rounds made.round);
}

-- ---- what rounds come to

pub keep_to_waits : RoundsKeepToWaits
keep_to_waits lists waits options target need [] are = tt
keep_to_waits lists waits options target need (round ∷ rounds) (is, are) = (
  subst (λ (moment : Moment). waits.allowed_at.0 ≤ moment.0) (sym is.session.is.begun) is.session.begins.allowed,
  keep_to_waits (lists_after_round lists round) (waits_after_round waits round) options target need rounds are,
)

pub are_their_sessions : RoundsAreTheirSessions
are_their_sessions lists waits options target need [] are = (refl, tt)
are_their_sessions lists waits options target need (round ∷ rounds) (is, are) =
    let rest = are_their_sessions (lists_after_round lists round) (waits_after_round waits round) options target need rounds are in (
      ap (λ sessions. round_entry round ∷ sessions) rest.0,
      (record { outcome = is.outcome; decides = is.held.decides; answer = round.answer; answers = is.answers; is = refl }, rest.1),
    )
