-- Where a client stops, after some rounds.
use Rattle.std.proofs.Common.{◌≡◌, ◌+◌, ◌≤◌, ℕ, List, [], ◌∷◌, ◌++◌, Bool, true, false, length, refl, sym, ap, ◌∙◌, subst, inl, inr, append_assoc, arith}
use Rattle.std.specs.Prelude.{if◌then◌else◌, IsTrue}
use Rattle.sb_outside.specs.Outside.{appended}
use Rattle.sb_outside.specs.Writing.{HasFront}
use Rattle.update_client.specs.Held.{Held}
use Rattle.wait_rules.specs.declared.waits.WaitState.{WaitState}
use Rattle.timed_sessions.specs.Told.{Outside}
use Rattle.sb_round.specs.Printed.{round_lines}
use Rattle.sb_round.specs.Round.{Round, round_state, MakesRound}
use Rattle.sb_round.specs.Rounds.{MakesRounds, GoesOnWithRounds}
use Rattle.sb_round.specs.declared.rounds.RoundEnd.{RoundEnd}
use Rattle.update_run.specs.Saved.{Keeping, HasSaved, FailsToSave, MayLackLast, has_installed, saved_after, saved_lists}
use Rattle.update_run.specs.Printed.{not_answered, not_answered_lines, saved_line, saved_part, told_end}
use Rattle.update_run.specs.Run.{Seen}
use Rattle.update_run.specs.Rounding.{StopsAtStart, StopsOneRound, StopsAfterRounds, BreaksOffAfterRounds, FailsAfterRounds, StopsRounds, text_so_far}
use Rattle.update_run.specs.Steps.{round_state_of, MayHaveSaved, StopsWithin, StopsRound, TakesRounds}
use Rattle.update_run.specs.declared.client.Client.{Client}
use Rattle.update_run.specs.declared.plan.Plan.{Plan}
use Rattle.update_run.specs.declared.stop.RunStop.{RunStop}
use Rattle.update_run.specs.declared.stop.RunStop.TheVariants as stop
use Rattle.update_run.proofs.OneByOne.{goes_on_writing, one_longer, made_all, saved_all, text_all}
use Rattle.update_run.proofs.Saves.{saved_both, lacks_last}
use Rattle.update_run.proofs.Ways.{appended_twice, taken_whole, front_after, front_of_way}

-- ---- before a round and within one

stopped_at_start : (why : RunStop) (plan : Plan) (rounds : List Round) (client between : Client) (first mid after : Seen) (refused : Bool)
    → length rounds ≤ plan.rounds → TakesRounds plan 1 rounds client between first mid refused → StopsAtStart why between mid after
    → StopsAfterRounds plan client (text_so_far client) first after
stopped_at_start why plan rounds client between first mid after refused few so_far stops = record {
  rounds = rounds;
  few = few;
  lists = between.lists;
  waits = between.waits;
  made = subst (λ (o : Outside). MakesRounds (round_state_of client) (round_state_of between) plan.options plan.target plan.need_digest first.outside o rounds) (sym stops.outside) so_far.made;
  stores = saved_lists client.lists rounds;
  most = inl refl;
  saved = subst (λ k. HasSaved (saved_lists client.lists rounds) first.keeper k) (sym stops.keeper) so_far.saved;
  front = front_of_way between.page (text_so_far client rounds) so_far.text stops.front;
}

-- In what follows nothing waits before the round that is stopped.
stopped_within : (plan : Plan) (number : ℕ) (rounds : List Round) (client between : Client) (first mid after : Seen) (refused : Bool)
    → 1 + length rounds ≡ number → number ≤ plan.rounds → between.page ≡ [] → TakesRounds plan 1 rounds client between first mid refused → StopsWithin plan between mid after
    → BreaksOffAfterRounds plan client first after
stopped_within plan number rounds client between first mid after refused count few none so_far stops = record {
  rounds = rounds;
  further = omega (arith, count, few);
  between = mid.outside;
  lists = between.lists;
  waits = between.waits;
  made = so_far.made;
  breaks = stops.breaks;
  saved = subst (λ k. HasSaved (saved_lists client.lists rounds) first.keeper k) (sym stops.keeper) so_far.saved;
  text = stops.output ∙ taken_whole between.page (text_so_far client rounds) none so_far.text;
}

-- ---- after a round

-- the stores that were handed in, with that of the last round or without it
record SavedStores (all : List (List Held)) (before after : Keeping) : Type 0 where
  stores : List (List Held)
  most : MayLackLast all stores
  saved : HasSaved stores before after

how_many : (stores all : List (List Held)) (lists : List Held) (installed : Bool) (first mid after : Keeping)
    → all ≡ stores ++ (if installed then lists ∷ [] else []) → HasSaved stores first mid → MayHaveSaved (if installed then lists ∷ [] else []) mid after
    → SavedStores all first after
how_many stores all lists installed first mid after are saved (inl same) = record {
  stores = stores;
  most = subst (λ ss. MayLackLast ss stores) (sym are) (lacks_last stores lists installed);
  saved = subst (λ k. HasSaved stores first k) (sym same) saved;
}
how_many stores all lists installed first mid after are saved (inr saves) = record {
  stores = all;
  most = inl refl;
  saved = subst (λ ss. HasSaved ss first after) (sym are) (saved_both first mid after stores (if installed then lists ∷ [] else []) saved saves);
}

stopped_telling : (plan : Plan) (number : ℕ) (rounds : List Round) (client between : Client) (first mid after : Seen) (refused : Bool) (lists : List Held) (waits : WaitState) (end : RoundEnd)
    → GoesOnWithRounds → 1 + length rounds ≡ number → number ≤ plan.rounds → between.page ≡ [] → TakesRounds plan 1 rounds client between first mid refused
    → MakesRound (round_state_of between) (round_state lists waits) plan.options plan.target plan.need_digest mid.outside after.outside end
    → MayHaveSaved (saved_after end.taken lists) mid.keeper after.keeper → HasFront mid.output after.output (told_end number lists end)
    → StopsAfterRounds plan client (text_so_far client) first after
stopped_telling plan number rounds client between first mid after refused lists waits end go count few none so_far made may front =
    let text = text_all plan 1 rounds client between first mid after lists waits end go so_far.made made in
    let stores = saved_all plan 1 rounds client between first mid after lists waits end go so_far.made made in
    let lines = told_end (1 + length rounds) lists end in
    let saved = how_many (saved_lists client.lists rounds) (saved_lists client.lists (rounds ++ made.round ∷ [])) lists (has_installed end.taken) first.keeper mid.keeper after.keeper stores so_far.saved may in
    let here = subst (λ n. HasFront mid.output after.output (told_end n lists end)) (sym count) front in
    let behind = subst (λ (page : List ℕ). HasFront mid.output after.output (page ++ lines)) (sym none) here in record {
      rounds = rounds ++ made.round ∷ [];
      few = omega (arith, count, few, one_longer rounds made.round);
      lists = lists;
      waits = waits;
      made = made_all plan 1 rounds client between first mid after lists waits end go so_far.made made;
      stores = saved.stores;
      most = saved.most;
      saved = saved.saved;
      front = subst (λ all. HasFront first.output after.output all) text (front_after between.page (text_so_far client rounds) lines so_far.text behind);
    }

lists_true : (b : Bool) (lists : List Held) → IsTrue b → (if b then lists ∷ [] else []) ≡ lists ∷ []
lists_true true lists h = refl
lists_true false lists h = absurd (cc)

line_true : (b : Bool) (line : List ℕ) → IsTrue b → (if b then line else []) ≡ line
line_true true line h = refl
line_true false line h = absurd (cc)

stopped_saving : (plan : Plan) (number : ℕ) (rounds : List Round) (client between : Client) (first mid after : Seen) (refused : Bool) (lists : List Held) (waits : WaitState) (end : RoundEnd)
    → GoesOnWithRounds → 1 + length rounds ≡ number → number ≤ plan.rounds → between.page ≡ [] → TakesRounds plan 1 rounds client between first mid refused
    → MakesRound (round_state_of between) (round_state lists waits) plan.options plan.target plan.need_digest mid.outside after.outside end
    → IsTrue (has_installed end.taken) → FailsToSave lists mid.keeper after.keeper → after.output ≡ appended mid.output (round_lines number end)
    → FailsAfterRounds plan client first after
stopped_saving plan number rounds client between first mid after refused lists waits end go count few none so_far made some fails told =
    let page = text_so_far client rounds in
    let lines = round_lines number end in
    let unanswered = not_answered lists end.taken in
    let stores = saved_all plan 1 rounds client between first mid after lists waits end go so_far.made made in
    let text = text_all plan 1 rounds client between first mid after lists waits end go so_far.made made in
    let longer = one_longer rounds made.round in record {
      rounds = rounds ++ made.round ∷ [];
      few = omega (arith, count, few, longer);
      lists = lists;
      waits = waits;
      made = made_all plan 1 rounds client between first mid after lists waits end go so_far.made made;
      earlier = saved_lists client.lists rounds;
      last = lists;
      saves = stores ∙ ap (λ more. saved_lists client.lists rounds ++ more) (lists_true (has_installed end.taken) lists some);
      between = mid.keeper;
      saved = so_far.saved;
      fails = fails;
      written = page ++ lines;
      text = told ∙ ap (λ known. appended known lines) (taken_whole between.page page none so_far.text) ∙ appended_twice first.output page lines;
      unanswered = unanswered;
      lacks =
          ap (λ n. page ++ lines ++ saved_line n ++ not_answered_lines n unanswered) (let n : length (rounds ++ made.round ∷ []) ≡ number = omega (arith, longer, count) in n)
          ∙ ap (λ line. page ++ lines ++ line ++ not_answered_lines number unanswered) (sym (line_true (has_installed end.taken) (saved_line number) some))
          ∙ ap (λ text. text ++ not_answered_lines number unanswered) (append_assoc page lines (saved_part number end.taken))
          ∙ append_assoc page (lines ++ saved_part number end.taken) (not_answered_lines number unanswered)
          ∙ ap (λ n. page ++ told_end n lists end) (sym count)
          ∙ text;
    }

-- ---- any of them

in_round : (why : RunStop) (plan : Plan) (number : ℕ) (rounds : List Round) (client between : Client) (first mid after : Seen) (refused : Bool)
    → GoesOnWithRounds → 1 + length rounds ≡ number → number ≤ plan.rounds → between.page ≡ [] → TakesRounds plan 1 rounds client between first mid refused → StopsRound why plan number between mid after
    → StopsRounds why plan client (text_so_far client) first after
in_round stop.WriteFault plan number rounds client between first mid after refused go count few none so_far ends =
    stopped_telling plan number rounds client between first mid after refused ends.lists ends.waits ends.end go count few none so_far ends.made (inl ends.stops.0) ends.stops.1
in_round stop.KeepFault plan number rounds client between first mid after refused go count few none so_far ends =
    let (some, fails, text) = ends.stops in
    stopped_saving plan number rounds client between first mid after refused ends.lists ends.waits ends.end go count few none so_far ends.made some fails text
in_round stop.OutOfMemory plan number rounds client between first mid after refused go count few none so_far (inl within) =
    inr (stopped_within plan number rounds client between first mid after refused count few none so_far within)
in_round stop.OutOfMemory plan number rounds client between first mid after refused go count few none so_far (inr ends) =
    inl (stopped_telling plan number rounds client between first mid after refused ends.lists ends.waits ends.end go count few none so_far ends.made ends.stops.0 ends.stops.1)

pub stopped : (why : RunStop) (plan : Plan) (number : ℕ) (rounds : List Round) (client between : Client) (first mid after : Seen) (refused : Bool)
    → GoesOnWithRounds → 1 + length rounds ≡ number → number ≤ plan.rounds → TakesRounds plan 1 rounds client between first mid refused → StopsOneRound why plan number between mid after
    → StopsRounds why plan client (text_so_far client) first after
stopped why plan number rounds client between first mid after refused go count few so_far (inl starts) =
    subst (λ w. StopsRounds w plan client (text_so_far client) first after) (sym starts.output)
    (stopped_at_start why plan rounds client between first mid after refused (omega (arith, count, few)) so_far starts)
stopped why plan number rounds client between first mid after refused go count few so_far (inr both) =
    in_round why plan number rounds client both.between first (record mid { output = both.output }) after refused go count few (ap (λ (c : Client). c.page) both.writes.is)
    (goes_on_writing plan 1 rounds client between both.between first mid both.output refused so_far both.writes) both.stops
