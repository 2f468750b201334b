-- The lists at the end of the rounds, and what came before the first of them.
use Rattle.std.proofs.Common.{◌≡◌, ◌≢◌, ◌<◌, ℕ, List, [], ◌∷◌, ◌++◌, Bool, true, false, length, map, refl, ap, ◌∙◌, subst, inl, inr, arith}
use Rattle.std.specs.Prelude.{nat_lt, if◌then◌else◌, Option, Some, None, Result, Ok, Err}
use Rattle.std.specs.List.{flat_map}
use Rattle.std.specs.Ordering.{match_ordering}
use Rattle.std.specs.declared.cmp.Ordering.{Ordering}
use Rattle.std.specs.declared.cmp.Ordering.TheVariants as ordering
use Rattle.std.proofs.lemmas.List.{length-map}
use Rattle.sb_model.specs.declared.names.ListName.{ListName}
use Rattle.sb_model.specs.Names.{name_cmp, same_name}
use Rattle.sb_outside.specs.Outside.{appended}
use Rattle.sb_outside.specs.Writing.{HasFront}
use Rattle.update_messages.specs.Messages.{UpdatedList}
use Rattle.update_client.specs.Held.{Held, nothing_held, with_name, in_order}
use Rattle.update_client.specs.Step.{after_update, after_updates, list_step}
use Rattle.client_store.specs.Reading.{store_reading}
use Rattle.client_store.specs.Selected.{stored_or_nothing}
use Rattle.client_store.specs.declared.fault.StoreFault.{StoreFault}
use Rattle.wait_rules.specs.declared.waits.WaitState.{WaitState}
use Rattle.timed_sessions.specs.Told.{Outside}
use Rattle.sb_round.specs.Round.{Round, round_state}
use Rattle.sb_round.specs.Rounds.{MakesRounds, round_updates}
use Rattle.sb_round.specs.Run.{lists_after}
use Rattle.update_run.specs.Opening.{first_lists, lists_from, HasLoaded, HasOpened}
use Rattle.update_run.specs.Printed.{ignored_text, list_line}
use Rattle.update_run.specs.Run.{Seen, seen, HasMade, IsLoaded, IsRun, RunEnding, EndsRun, StopsAtSave, StopsAfter, BreaksOffAfter}
use Rattle.update_run.specs.Rounding.{TakesAllRounds, StopsAfterRounds, BreaksOffAfterRounds, FailsAfterRounds, StopsRounds, EndsRounds, EndsFrom, text_so_far, text_until, whole_text}
use Rattle.update_run.specs.Saved.{Keeping, keeping, saved_lists}
use Rattle.update_run.specs.declared.client.Client.{Client}
use Rattle.update_run.specs.declared.plan.Plan.{Plan}
use Rattle.update_run.specs.declared.stop.RunStop.{RunStop}
use Rattle.update_run.specs.declared.stop.RunStop.TheVariants as stop
use Rattle.update_run.proofs.Ways.{way_ends, way_longer, front_after, front_of_more}

-- ---- there is a list

pub lines_some : (lists : List Held) → 0 < length lists → flat_map list_line lists ≢ []
lines_some [] h = absurd (omega (arith, h))
lines_some (held ∷ lists) h = λ e. cc

count_after_body : (lists : List Held) (updates : List UpdatedList) → length (after_updates lists updates) ≡ length lists
count_after_body lists [] = refl
count_after_body lists (update ∷ updates) =
    count_after_body (after_update lists update) updates ∙ length-map lists (λ (held : Held). if same_name held.name update.name then list_step held update else held)

count_after : (lists : List Held) (bodies : List (List UpdatedList)) → length (lists_after lists bodies) ≡ length lists
count_after lists [] = refl
count_after lists (updates ∷ bodies) = count_after (after_updates lists updates) bodies ∙ count_after_body lists updates

pub still_some : (plan : Plan) (client client' : Client) (before after : Seen) (refused : Bool) → TakesAllRounds plan client client' before after refused → 0 < length client.lists → 0 < length client'.lists
still_some plan client client' before after refused all some =
    omega (arith, some, count_after client.lists (map round_updates all.rounds), ap length all.takes.made.lists_are)

with_name_some : (name : ListName) (names : List ListName) → 0 < length (with_name name names)
with_name_some name [] = omega arith
with_name_some name (first ∷ names) = go (name_cmp name first)
  where
    go : (o : Ordering) → 0 < length (match_ordering o (name ∷ first ∷ names) (first ∷ names) (first ∷ with_name name names))
    go ordering.Less = omega arith
    go ordering.Equal = omega arith
    go ordering.Greater = omega arith

in_order_some : (names : List ListName) → 0 < length names → 0 < length (in_order names)
in_order_some [] h = h
in_order_some (name ∷ names) h = with_name_some name (in_order names)

first_some : (names : List ListName) (kept : Option (List ℕ)) → 0 < length names → 0 < length (first_lists names kept)
first_some names None h = omega (arith, in_order_some names h, length-map (in_order names) nothing_held)
first_some names (Some text) h = go (store_reading text)
  where
    go : (reading : Result (List Held) StoreFault) → 0 < length (lists_from names reading)
    go (Ok stored) = omega (arith, in_order_some names h, length-map (in_order names) (stored_or_nothing stored))
    go (Err fault) = omega (arith, in_order_some names h, length-map (in_order names) nothing_held)

pub lists_to_run : (names names' : List ListName) (known : Option (Option (List ℕ))) (lists : List Held) (page : List ℕ) → names' ≡ names → HasLoaded names' known lists [] page → 0 < length names → 0 < length lists
lists_to_run names names' known lists page same loaded some = omega (arith, ap length loaded.are, first_some names' loaded.kept (omega (arith, some, ap length same)))

-- ---- rounds, and the lists at the end

lines_at_end : (client : Client) (rounds : List Round) (lists : List Held) → lists ≡ lists_after client.lists (map round_updates rounds) → text_so_far client rounds ++ flat_map list_line lists ≡ whole_text client rounds
lines_at_end client rounds lists are = ap (λ (ls : List Held). text_so_far client rounds ++ flat_map list_line ls) are

pub ends : (plan : Plan) (client client' : Client) (o o' : Outside) (k k' : Keeping) (h h' h'' : Option (List ℕ)) (refused : Bool)
    → TakesAllRounds plan client client' (seen o k h) (seen o' k' h') refused → h'' ≡ appended h' (client'.page ++ flat_map list_line client'.lists)
    → EndsRounds plan client refused (seen o k h) (seen o' k' h'')
ends plan client client' o o' k k' h h' h'' refused all written =
    let takes = all.takes in
    let before = text_so_far client all.rounds in
    let lines = flat_map list_line client'.lists in record {
      rounds = all.rounds;
      all = all.all;
      lists = client'.lists;
      waits = client'.waits;
      made = takes.made;
      saved = takes.saved;
      text = way_ends (client'.page ++ lines) (before ++ lines) (way_longer client'.page before lines takes.text) written
          ∙ ap (appended h) (lines_at_end client all.rounds client'.lists takes.made.lists_are);
      refusal = takes.refusal;
    }

until_all : (count all : ℕ) (text whole : List ℕ) → count ≡ all → whole ≡ (if nat_lt count all then text else whole)
until_all count all text whole same = go (nat_lt count all) (none count all same)
  where
    none : (a b : ℕ) → a ≡ b → nat_lt a b ≡ false
    none a b e = grind (arith, e)

    go : (less : Bool) → less ≡ false → whole ≡ (if less then text else whole)
    go true e = absurd (cc)
    go false e = refl

ends_short : (plan : Plan) (client client' : Client) (o o' : Outside) (k k' : Keeping) (h h' h'' : Option (List ℕ)) (refused : Bool)
    → TakesAllRounds plan client client' (seen o k h) (seen o' k' h') refused → HasFront h' h'' (client'.page ++ flat_map list_line client'.lists)
    → StopsAfterRounds plan client (text_until plan.rounds client) (seen o k h) (seen o' k' h'')
ends_short plan client client' o o' k k' h h' h'' refused all front =
    let takes = all.takes in
    let before = text_so_far client all.rounds in
    let lines = flat_map list_line client'.lists in
    let text = lines_at_end client all.rounds client'.lists takes.made.lists_are ∙ until_all (length all.rounds) plan.rounds (text_so_far client all.rounds) (whole_text client all.rounds) all.all in record {
      rounds = all.rounds;
      few = omega (arith, all.all);
      lists = client'.lists;
      waits = client'.waits;
      made = takes.made;
      stores = saved_lists client.lists all.rounds;
      most = inl refl;
      saved = takes.saved;
      front = subst (λ (t : List ℕ). HasFront h h'' t) text (front_after client'.page before lines takes.text front);
    }

pub ends_if : (why : RunStop) (plan : Plan) (client client' : Client) (o o' : Outside) (k k' : Keeping) (h h' h'' : Option (List ℕ)) (refused : Bool)
    → why ≢ stop.KeepFault → TakesAllRounds plan client client' (seen o k h) (seen o' k' h') refused → HasFront h' h'' (client'.page ++ flat_map list_line client'.lists)
    → StopsRounds why plan client (text_until plan.rounds client) (seen o k h) (seen o' k' h'')
ends_if stop.WriteFault plan client client' o o' k k' h h' h'' refused other all front = ends_short plan client client' o o' k k' h h' h'' refused all front
ends_if stop.KeepFault plan client client' o o' k k' h h' h'' refused other all front = absurd (other refl)
ends_if stop.OutOfMemory plan client client' o o' k k' h h' h'' refused other all front = inl (ends_short plan client client' o o' k k' h h' h'' refused all front)

-- a front of the rounds' text is one of the text up to the stop
until_more : (more : Bool) (before after : Option (List ℕ)) (text lines : List ℕ) → HasFront before after text → HasFront before after (if more then text else text ++ lines)
until_more true before after text lines front = front
until_more false before after text lines front = front_of_more text lines front

until : (all : ℕ) (client : Client) (rounds : List Round) (before after : Option (List ℕ)) → HasFront before after (text_so_far client rounds) → HasFront before after (text_until all client rounds)
until all client rounds before after front =
    until_more (nat_lt (length rounds) all) before after (text_so_far client rounds) (flat_map list_line (lists_after client.lists (map round_updates rounds))) front

after_until : (plan : Plan) (client : Client) (before after : Seen) → StopsAfterRounds plan client (text_so_far client) before after → StopsAfterRounds plan client (text_until plan.rounds client) before after
after_until plan client before after stops = record {
  rounds = stops.rounds;
  few = stops.few;
  lists = stops.lists;
  waits = stops.waits;
  made = stops.made;
  stores = stops.stores;
  most = stops.most;
  saved = stops.saved;
  front = until plan.rounds client stops.rounds before.output after.output stops.front;
}

pub stops_until : (why : RunStop) (plan : Plan) (client : Client) (before after : Seen)
    → StopsRounds why plan client (text_so_far client) before after → StopsRounds why plan client (text_until plan.rounds client) before after
stops_until stop.WriteFault plan client before after stops = after_until plan client before after stops
stops_until stop.KeepFault plan client before after stops = stops
stops_until stop.OutOfMemory plan client before after (inl stops) = inl (after_until plan client before after stops)
stops_until stop.OutOfMemory plan client before after (inr breaks) = inr breaks

-- ---- from what was kept on

-- the client with which a run begins, where this was kept
abbrev pub first_client : Plan → Option (List ℕ) → WaitState → Client
first_client plan kept waits = record { lists = first_lists plan.names kept; waits = waits; page = ignored_text kept }

module _ (plan : Plan) (kept : Option (List ℕ)) (waits : WaitState) (before : Seen) (opened : Outside) (after : Seen)
    (loaded : IsLoaded kept before.keeper.kept) (opens : HasOpened waits before.outside opened)
  where
    made_from : (rounds : List Round) (between : Outside) (lists : List Held) (waits_now : WaitState)
        → MakesRounds (round_state (first_lists plan.names kept) waits) (round_state lists waits_now) plan.options plan.target plan.need_digest opened between rounds → HasMade plan kept rounds before.outside between
    made_from rounds between lists waits_now made = record { waits = waits; opened = opened; opens = opens; lists = lists; waits_now = waits_now; made = made }

    ran : (refused : Bool) → EndsRounds plan (first_client plan kept waits) refused (seen opened before.keeper before.output) after → IsRun plan refused before after
    ran refused ends = record {
      kept = kept;
      loaded = loaded;
      rounds = ends.rounds;
      all = ends.all;
      made = made_from ends.rounds after.outside ends.lists ends.waits ends.made;
      saved = ends.saved;
      text = ends.text;
      refusal = ends.refusal;
    }

    ran_short : StopsAfterRounds plan (first_client plan kept waits) (text_until plan.rounds (first_client plan kept waits)) (seen opened before.keeper before.output) after → StopsAfter plan before after
    ran_short stops = record {
      kept = kept;
      loaded = loaded;
      rounds = stops.rounds;
      few = stops.few;
      made = made_from stops.rounds after.outside stops.lists stops.waits stops.made;
      stores = stops.stores;
      most = stops.most;
      saved = stops.saved;
      front = stops.front;
    }

    ran_into_keeper : FailsAfterRounds plan (first_client plan kept waits) (seen opened before.keeper before.output) after → StopsAtSave plan before after
    ran_into_keeper fails = record {
      kept = kept;
      loaded = loaded;
      rounds = fails.rounds;
      few = fails.few;
      made = made_from fails.rounds after.outside fails.lists fails.waits fails.made;
      earlier = fails.earlier;
      last = fails.last;
      saves = fails.saves;
      between = fails.between;
      saved = fails.saved;
      fails = fails.fails;
      written = fails.written;
      text = fails.text;
      unanswered = fails.unanswered;
      lacks = fails.lacks;
    }

    ran_out : BreaksOffAfterRounds plan (first_client plan kept waits) (seen opened before.keeper before.output) after → BreaksOffAfter plan before after
    unfolding made_from
    ran_out breaks = record {
      kept = kept;
      loaded = loaded;
      rounds = breaks.rounds;
      further = breaks.further;
      between = breaks.between;
      made = made_from breaks.rounds breaks.between breaks.lists breaks.waits breaks.made;
      breaks = breaks.breaks;
      saved = breaks.saved;
      text = breaks.text;
    }

    pub ran_any : (ending : RunEnding) → EndsFrom plan ending (first_client plan kept waits) (seen opened before.keeper before.output) after → EndsRun plan ending before after
    ran_any (Ok refused) ends = ran refused ends
    ran_any (Err stop.WriteFault) stops = ran_short stops
    ran_any (Err stop.KeepFault) fails = inr (ran_into_keeper fails)
    ran_any (Err stop.OutOfMemory) (inl stops) = inr (inl (ran_short stops))
    ran_any (Err stop.OutOfMemory) (inr breaks) = inr (inr (ran_out breaks))

-- ---- the whole call

pub same_keeping : (handed handed' : Option (List (List ℕ))) (kept kept' : Option (Option (List ℕ))) → handed ≡ handed' → kept ≡ kept' → keeping handed kept ≡ keeping handed' kept'
same_keeping handed handed' kept kept' h k = ap (λ x. keeping x kept) h ∙ ap (λ x. keeping handed' x) k

client_with : WaitState → List Held → List ℕ → Client
client_with waits lists page = record { lists = lists; waits = waits; page = page }

pub run_any : (ending : RunEnding) (plan : Plan) (names : List ListName) (client : Client) (before : Seen) (opened : Outside) (keeper : Keeping) (after : Seen)
    → names ≡ plan.names → HasLoaded names before.keeper.kept client.lists [] client.page → HasOpened client.waits before.outside opened → keeper ≡ before.keeper
    → EndsFrom plan ending client (seen opened keeper before.output) after → EndsRun plan ending before after
unfolding client_with
run_any ending plan names client before opened keeper after same loaded opens kept ends =
    let lists = loaded.are ∙ ap (λ (ns : List ListName). first_lists ns loaded.kept) same in
    let here = subst (λ k. EndsFrom plan ending client (seen opened k before.output) after) kept ends in
    let listed = subst (λ (ls : List Held). EndsFrom plan ending (client_with client.waits ls client.page) (seen opened before.keeper before.output) after) lists here in
    ran_any plan loaded.kept client.waits before opened after loaded.loaded opens ending
    (subst (λ page. EndsFrom plan ending (client_with client.waits (first_lists plan.names loaded.kept) page) (seen opened before.keeper before.output) after) loaded.told listed)
