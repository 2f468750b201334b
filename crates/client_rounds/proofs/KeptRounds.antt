-- The rounds of a client, with the open one after them, and once that is ended.
use Rattle.std.proofs.Common.{◌≡◌, ◌+◌, ℕ, List, [], ◌∷◌, ◌++◌, Option, Some, None, length, map, refl, sym, ap, ◌∙◌, subst, append_assoc, inl}
use Rattle.std.specs.Prelude.{Result, Ok, Err, IfErr, IfOk, OnOk}
use Rattle.std.proofs.lemmas.List.{append-nil, length-append}
use Rattle.client_line.specs.Lines.{LineView}
use Rattle.client_rounds.specs.Ended.{EndsClientRound, IsClientToldOf, StopsClientRound, StopsClientTelling, client_round_view}
use Rattle.client_rounds.specs.Rounds.{ClientSeen, ClientStart, HasKeptRounds, IsClientOpenSince}
use Rattle.client_rounds.specs.declared.rounds.ClientRoundTold.{ClientRoundTold}
use Rattle.sb_model.specs.declared.time.Moment.{Moment}
use Rattle.sb_outside.specs.Outside.{appended}
use Rattle.sb_round.specs.Round.{Round, RoundState, IsOpenRound, MakesRound, lists_after_round, round_body_asked, taken_from}
use Rattle.sb_round.specs.Rounds.{GoesOnWithRounds, MakesRounds, round_updates}
use Rattle.sb_round.specs.Run.{lists_after}
use Rattle.sb_round.specs.declared.rounds.RoundEnd.{RoundEnd}
use Rattle.sb_round.specs.declared.rounds.RoundFault.{RoundFault}
use Rattle.sb_round.specs.declared.rounds.Taken.{Taken}
use Rattle.timed_sessions.specs.declared.timing.Opening.{Opening}
use Rattle.update_client.specs.Held.{Held}
use Rattle.update_run.specs.Printed.{round_end, told_end}
use Rattle.update_run.specs.Saved.{GoesOnWithSaves, HasSaved, Keeping, saved_after, saved_in, saved_lists}
use Rattle.update_run.specs.declared.plan.Plan.{Plan}
use Rattle.update_run.specs.declared.stop.RunStop.{RunStop}

-- ---- what is saved with one round more

saved_one_more : (lists : List Held) (rounds : List Round) (round : Round)
    → saved_lists lists (rounds ++ round ∷ []) ≡ saved_lists lists rounds ++ saved_in (lists_after lists (map round_updates rounds)) round
saved_one_more lists [] round = append-nil (saved_in lists round)
saved_one_more lists (first ∷ rounds) round =
    ap (λ stores. saved_in lists first ++ stores) (saved_one_more (lists_after_round lists first) rounds round)
    ∙ sym (append_assoc (saved_in lists first) (saved_lists (lists_after_round lists first) rounds) (saved_in (lists_after (lists_after_round lists first) (map round_updates rounds)) round))

end_with : Moment → Result (List Taken) RoundFault → RoundEnd
end_with begun taken = record { begun = begun; taken = taken }

same_end : (end : RoundEnd) (lists : List Held) (round : Round) → end.begun ≡ round.session.begun → end.taken ≡ taken_from lists round.answer → end ≡ round_end lists round
unfolding end_with
same_end end lists round h k = ap (λ begun. end_with begun end.taken) h ∙ ap (λ taken. end_with round.session.begun taken) k

-- ---- the open round

-- its session, since the last of those that were made
pub open_session : (plan : Plan) (start : ClientStart) (rounds : List Round) (now : ClientSeen) (line : LineView) (keeper : Keeping) (opening : Opening)
    → now.opened ≡ Some opening → (has : HasKeptRounds plan start rounds now line keeper)
    → IsOpenRound now.state.waits plan.target (round_body_asked now.state.lists plan.options) has.between line opening
open_session plan start rounds now line keeper opening is has = subst (λ (o : Option Opening). IsClientOpenSince plan now.state has.between line o) is has.session

-- ---- and once its answer is taken

module _ (go : GoesOnWithRounds) (saves : GoesOnWithSaves) (plan : Plan) (start : ClientStart) (rounds : List Round) (now : ClientSeen) (line line' : LineView)
    (keeper keeper' : Keeping) (state : RoundState) (end : RoundEnd) (has : HasKeptRounds plan start rounds now line keeper)
    (made : MakesRound now.state state plan.options plan.target plan.need_digest has.between.told line'.told end)
  where
    all_made : MakesRounds start.state state plan.options plan.target plan.need_digest start.line.told line'.told (rounds ++ made.round ∷ [])
    all_made = go start.state now.state state plan.options plan.target plan.need_digest start.line.told has.between.told line'.told rounds end has.made made

    end_is : end ≡ round_end now.state.lists made.round
    end_is = same_end end now.state.lists made.round made.begun made.taken

    -- what the round saves is what it saves after those before it
    saved_is : saved_lists start.state.lists (rounds ++ made.round ∷ []) ≡ saved_lists start.state.lists rounds ++ saved_after end.taken state.lists
    saved_is =
        saved_one_more start.state.lists rounds made.round
        ∙ ap (λ (ls : List Held). saved_lists start.state.lists rounds ++ saved_in ls made.round) (sym has.made.lists_are)
        ∙ ap (λ (ls : List Held). saved_lists start.state.lists rounds ++ saved_after (taken_from now.state.lists made.round.answer) ls) (sym made.lists_after)
        ∙ ap (λ (taken : Result (List Taken) RoundFault). saved_lists start.state.lists rounds ++ saved_after taken state.lists) (sym made.taken)

    number_is : now.over + 1 ≡ length rounds + 1
    number_is = ap (λ (n : ℕ). n + 1) has.count

    round_ended : (told : ClientRoundTold) (output output' : Option (List ℕ))
        → IsClientToldOf end told → HasSaved (saved_after end.taken state.lists) keeper keeper'
        → output' ≡ appended output (told_end (now.over + 1) state.lists end)
        → EndsClientRound plan start rounds now (record { state = state; over = now.over + 1; opened = None }) (client_round_view line keeper output) (client_round_view line' keeper' output') told
    round_ended told output output' is saved text = record {
      round = made.round;
      has = record {
        between = line';
        made = all_made;
        session = refl;
        count = number_is ∙ sym (length-append rounds (made.round ∷ []));
        saved = subst (λ (lists : List (List Held)). HasSaved lists start.keeper keeper') (sym saved_is)
            (saves start.keeper keeper keeper' (saved_lists start.state.lists rounds) (saved_after end.taken state.lists) has.saved saved);
      };
      closed = refl;
      text = subst (λ (e : RoundEnd). output' ≡ appended output (told_end (length rounds + 1) state.lists e)) end_is
          (subst (λ (n : ℕ). output' ≡ appended output (told_end n state.lists end)) number_is text);
      told_is = subst (λ (e : RoundEnd). IsClientToldOf e told) end_is is;
    }

    round_stopped : (why : RunStop) (output output' : Option (List ℕ))
        → StopsClientTelling why (now.over + 1) end state.lists keeper keeper' output output'
        → StopsClientRound why plan start rounds now (client_round_view line keeper output) (client_round_view line' keeper' output')
    round_stopped why output output' stops = inl (record {
      round = made.round;
      state = state;
      made = all_made;
      stops = subst (λ (e : RoundEnd). StopsClientTelling why (length rounds + 1) e state.lists keeper keeper' output output') end_is
          (subst (λ (n : ℕ). StopsClientTelling why n end state.lists keeper keeper' output output') number_is stops);
    })

    pub ended_if : (result : Result ClientRoundTold RunStop) (output output' : Option (List ℕ))
        → IfOk result (λ told. IsClientToldOf end told) → OnOk result (HasSaved (saved_after end.taken state.lists) keeper keeper')
        → OnOk result (output' ≡ appended output (told_end (now.over + 1) state.lists end))
        → IfOk result (λ told. EndsClientRound plan start rounds now (record { state = state; over = now.over + 1; opened = None }) (client_round_view line keeper output) (client_round_view line' keeper' output') told)
    ended_if (Ok told) output output' is saved text = round_ended told output output' is saved text
    ended_if (Err why) output output' is saved text = tt

    pub stopped_if : (result : Result ClientRoundTold RunStop) (output output' : Option (List ℕ))
        → IfErr result (λ why. StopsClientTelling why (now.over + 1) end state.lists keeper keeper' output output')
        → IfErr result (λ why. StopsClientRound why plan start rounds now (client_round_view line keeper output) (client_round_view line' keeper' output'))
    stopped_if (Ok told) output output' stops = tt
    stopped_if (Err why) output output' stops = round_stopped why output output' stops
