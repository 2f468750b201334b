-- Rounds and one more, where what waits may be written before it.
use Rattle.std.proofs.Common.{◌≡◌, ◌+◌, ℕ, List, [], ◌∷◌, ◌++◌, Bool, true, false, length, map, refl, sym, ap, ◌∙◌, subst, append_assoc, append-nil, arith}
use Rattle.std.specs.Prelude.{◌||◌, Result}
use Rattle.std.proofs.lemmas.List.{length-append}
use Rattle.sb_outside.specs.Writing.{IsOnItsWay}
use Rattle.sb_model.specs.declared.time.Moment.{Moment}
use Rattle.update_client.specs.Held.{Held}
use Rattle.wait_rules.specs.declared.waits.WaitState.{WaitState}
use Rattle.sb_round.specs.Run.{lists_after}
use Rattle.sb_round.specs.Round.{Round, round_state, MakesRound, lists_after_round, taken_from}
use Rattle.sb_round.specs.Rounds.{MakesRounds, BeginsRounds, GoesOnWithRounds, round_updates}
use Rattle.sb_round.specs.declared.rounds.RoundEnd.{RoundEnd}
use Rattle.sb_round.specs.declared.rounds.RoundFault.{RoundFault}
use Rattle.sb_round.specs.declared.rounds.Taken.{Taken}
use Rattle.update_run.specs.Saved.{HasSaved, saved_after, saved_in, saved_lists}
use Rattle.update_run.specs.Printed.{told_end, round_end, has_refusal, has_refusals, rounds_text}
use Rattle.update_run.specs.Run.{Seen}
use Rattle.update_run.specs.Rounding.{WritesAndTakes}
use Rattle.update_run.specs.Steps.{round_state_of, TakesRound, TakesRounds, BeginsSteps, GoesOnWriting, GoesOnTaking}
use Rattle.update_run.specs.declared.client.Client.{Client}
use Rattle.update_run.specs.declared.plan.Plan.{Plan}
use Rattle.update_run.proofs.Saves.{saved_nothing, saved_both}
use Rattle.update_run.proofs.Ways.{starts, goes_on, way_whole}

-- ---- the definitions, with one round more

saved_one_more : (lists : List Held) (rounds : List Round) (round : Round)
    → saved_lists lists (rounds ++ round ∷ []) ≡ saved_lists lists rounds ++ saved_in (lists_after lists (map round_updates rounds)) round
saved_one_more lists [] round = append-nil (saved_in lists round)
saved_one_more lists (first ∷ rounds) round =
    ap (λ stores. saved_in lists first ++ stores) (saved_one_more (lists_after_round lists first) rounds round)
    ∙ sym (append_assoc (saved_in lists first) (saved_lists (lists_after_round lists first) rounds) (saved_in (lists_after (lists_after_round lists first) (map round_updates rounds)) round))

-- what is told of a round that was made from these lists
abbrev told_from : ℕ → List Held → Round → List ℕ
told_from number lists round = told_end number (lists_after_round lists round) (round_end lists round)

text_one_more : (number : ℕ) (lists : List Held) (rounds : List Round) (round : Round)
    → rounds_text number lists (rounds ++ round ∷ []) ≡ rounds_text number lists rounds ++ told_from (number + length rounds) (lists_after lists (map round_updates rounds)) round
text_one_more number lists [] round =
    append-nil (told_from number lists round) ∙ ap (λ n. told_from n lists round) (omega arith)
text_one_more number lists (first ∷ rounds) round =
    let rest = text_one_more (number + 1) (lists_after_round lists first) rounds round in
    let last = lists_after (lists_after_round lists first) (map round_updates rounds) in
    let count : (number + 1) + length rounds ≡ number + length (first ∷ rounds) = omega arith in
    ap (λ text. told_from number lists first ++ text) (rest ∙ ap (λ n. rounds_text (number + 1) (lists_after_round lists first) rounds ++ told_from n last round) count)
    ∙ sym (append_assoc (told_from number lists first) (rounds_text (number + 1) (lists_after_round lists first) rounds) (told_from (number + length (first ∷ rounds)) last round))

or_nothing : (a : Bool) → (a || false) ≡ a
or_nothing true = refl
or_nothing false = refl

or_assoc : (a b c : Bool) → (a || (b || c)) ≡ ((a || b) || c)
or_assoc true b c = refl
or_assoc false b c = refl

refusals_one_more : (lists : List Held) (rounds : List Round) (round : Round)
    → has_refusals lists (rounds ++ round ∷ []) ≡ (has_refusals lists rounds || has_refusal (taken_from (lists_after lists (map round_updates rounds)) round.answer))
refusals_one_more lists [] round = or_nothing (has_refusal (taken_from lists round.answer))
refusals_one_more lists (first ∷ rounds) round =
    ap (λ b. has_refusal (taken_from lists first.answer) || b) (refusals_one_more (lists_after_round lists first) rounds round)
    ∙ or_assoc (has_refusal (taken_from lists first.answer)) (has_refusals (lists_after_round lists first) rounds) (has_refusal (taken_from (lists_after (lists_after_round lists first) (map round_updates rounds)) round.answer))

pub one_longer : (rounds : List Round) (round : Round) → length (rounds ++ round ∷ []) ≡ length rounds + 1
one_longer rounds round = length-append rounds (round ∷ [])

end_with : Moment → Result (List Taken) RoundFault → RoundEnd
end_with begun taken = record { begun = begun; taken = taken }

same_end : (end : RoundEnd) (lists : List Held) (round : Round) → end.begun ≡ round.session.begun → end.taken ≡ taken_from lists round.answer → end ≡ round_end lists round
unfolding end_with
same_end end lists round h k = ap (λ begun. end_with begun end.taken) h ∙ ap (λ taken. end_with round.session.begun taken) k

-- ---- a round that was made, after those before it

module _ (plan : Plan) (number : ℕ) (rounds : List Round) (client between : Client) (first mid after : Seen) (lists : List Held) (waits : WaitState) (end : RoundEnd)
    (go : GoesOnWithRounds)
    (so_far : MakesRounds (round_state_of client) (round_state_of between) plan.options plan.target plan.need_digest first.outside mid.outside rounds)
    (made : MakesRound (round_state_of between) (round_state lists waits) plan.options plan.target plan.need_digest mid.outside after.outside end)
  where
    pub made_all : MakesRounds (round_state_of client) (round_state lists waits) plan.options plan.target plan.need_digest first.outside after.outside (rounds ++ made.round ∷ [])
    made_all = go (round_state_of client) (round_state_of between) (round_state lists waits) plan.options plan.target plan.need_digest first.outside mid.outside after.outside rounds end so_far made

    pub saved_all : saved_lists client.lists (rounds ++ made.round ∷ []) ≡ saved_lists client.lists rounds ++ saved_after end.taken lists
    saved_all =
        saved_one_more client.lists rounds made.round
        ∙ ap (λ (ls : List Held). saved_lists client.lists rounds ++ saved_in ls made.round) (sym so_far.lists_are)
        ∙ ap (λ taken. saved_lists client.lists rounds ++ saved_after taken (lists_after_round between.lists made.round)) (sym made.taken)
        ∙ ap (λ (ls : List Held). saved_lists client.lists rounds ++ saved_after end.taken ls) (sym made.lists_after)

    end_is : end ≡ round_end (lists_after client.lists (map round_updates rounds)) made.round
    end_is = same_end end between.lists made.round made.begun made.taken ∙ ap (λ (ls : List Held). round_end ls made.round) so_far.lists_are

    lists_is : lists ≡ lists_after_round (lists_after client.lists (map round_updates rounds)) made.round
    lists_is = made.lists_after ∙ ap (λ (ls : List Held). lists_after_round ls made.round) so_far.lists_are

    pub text_all : (client.page ++ rounds_text number client.lists rounds) ++ told_end (number + length rounds) lists end ≡ client.page ++ rounds_text number client.lists (rounds ++ made.round ∷ [])
    text_all =
        append_assoc client.page (rounds_text number client.lists rounds) (told_end (number + length rounds) lists end)
        ∙ ap (λ e. client.page ++ (rounds_text number client.lists rounds ++ told_end (number + length rounds) lists e)) end_is
        ∙ ap (λ (ls : List Held). client.page ++ (rounds_text number client.lists rounds ++ told_end (number + length rounds) ls (round_end (lists_after client.lists (map round_updates rounds)) made.round))) lists_is
        ∙ ap (λ text. client.page ++ text) (sym (text_one_more number client.lists rounds made.round))

    pub refusals_all : (refused more : Bool) → refused ≡ has_refusals client.lists rounds → more ≡ has_refusal end.taken → (refused || more) ≡ has_refusals client.lists (rounds ++ made.round ∷ [])
    refusals_all refused more h k =
        ap (λ b. b || more) h
        ∙ ap (λ b. has_refusals client.lists rounds || b) (k ∙ ap has_refusal made.taken ∙ ap (λ (ls : List Held). has_refusal (taken_from ls made.round.answer)) so_far.lists_are)
        ∙ sym (refusals_one_more client.lists rounds made.round)

-- ---- the law

pub begins_steps : BeginsRounds → BeginsSteps
begins_steps begins plan number client at = record {
  made = begins (round_state_of client) plan.options plan.target plan.need_digest at.outside;
  saved = saved_nothing at.keeper;
  text = subst (λ text. IsOnItsWay at.output at.output client.page text) (sym (append-nil client.page)) (starts at.output client.page);
  refusal = refl;
}

pub goes_on_writing : GoesOnWriting
goes_on_writing plan number rounds client between client' before after output refused takes writes =
    subst (λ (c : Client). TakesRounds plan number rounds client c before (record after { output = output }) refused) (sym writes.is) (record {
      made = takes.made;
      saved = takes.saved;
      text = way_whole between.page (client.page ++ rounds_text number client.lists rounds) takes.text writes.text;
      refusal = takes.refusal;
    })

pub goes_on_taking : GoesOnWithRounds → GoesOnTaking
goes_on_taking go plan number rounds client between client' before mid after refused more so_far takes =
    let saved = saved_all plan number rounds client between before mid after client'.lists client'.waits takes.end go so_far.made takes.made in
    let text = text_all plan number rounds client between before mid after client'.lists client'.waits takes.end go so_far.made takes.made in
    let lines = told_end (number + length rounds) client'.lists takes.end in record {
      made = made_all plan number rounds client between before mid after client'.lists client'.waits takes.end go so_far.made takes.made;
      saved = subst (λ all. HasSaved all before.keeper after.keeper) (sym saved)
          (saved_both before.keeper mid.keeper after.keeper (saved_lists client.lists rounds) (saved_after takes.end.taken client'.lists) so_far.saved takes.saved);
      text = subst (λ all. IsOnItsWay before.output after.output client'.page all) text
          (goes_on between.page client'.page (client.page ++ rounds_text number client.lists rounds) lines so_far.text
          (subst (λ (page : List ℕ). IsOnItsWay mid.output after.output client'.page (page ++ lines)) (sym takes.written) takes.text));
      refusal = refusals_all plan number rounds client between before mid after client'.lists client'.waits takes.end go so_far.made takes.made refused more so_far.refusal takes.refusal;
    }

-- ---- the loop

pub one_more : (plan : Plan) (number : ℕ) (rounds : List Round) (client between client' : Client) (first mid after : Seen) (refused more : Bool)
    → GoesOnWriting → GoesOnTaking → 1 + length rounds ≡ number → TakesRounds plan 1 rounds client between first mid refused → WritesAndTakes plan number between client' mid after more
    → (all : List Round) × (length all ≡ number) × TakesRounds plan 1 all client client' first after (refused || more)
one_more plan number rounds client between client' first mid after refused more writing taking count so_far both =
    let written = writing plan 1 rounds client between both.between first mid both.output refused so_far both.writes in
    let takes = subst (λ n. TakesRound plan n both.between client' (record mid { output = both.output }) after more) (sym count) both.takes in (
      rounds ++ takes.made.round ∷ [],
      omega (arith, count, one_longer rounds takes.made.round),
      taking plan 1 rounds client both.between client' first (record mid { output = both.output }) after refused more written takes,
    )
