-- One line more of a replay.
use Rattle.std.proofs.Common.{◌≡◌, ◌≢◌, ℕ, suc, ◌+◌, ◌<◌, length, get_or, List, [], ◌∷◌, ◌++◌, Bool, true, false, drop, arith, refl, sym, ap, ◌∙◌, subst, append_assoc, Option}
use Rattle.std.specs.Prelude.{◌||◌}
use Rattle.std.specs.List.{flat_map}
use Rattle.std.specs.declared.cmp.Ordering.{Ordering}
use Rattle.std.specs.declared.cmp.Ordering.TheVariants.{Less, Equal, Greater}
use Rattle.std.specs.Ordering.{match_ordering}
use Rattle.std.proofs.lemmas.List.{length-map}
use Rattle.sb_model.specs.declared.names.ListName.{ListName}
use Rattle.update_messages.specs.Messages.{UpdatedList}
use Rattle.update_client.specs.declared.fault.ListResult.{ListResult}
use Rattle.update_client.specs.Held.{Held, nothing_held, in_order, with_name, nothing_held_of}
use Rattle.sb_model.specs.Names.{name_cmp}
use Rattle.update_client.specs.Step.{after_update, after_updates, results_of}
use Rattle.sb_round.specs.Printed.{taken_text}
use Rattle.sb_round.specs.Run.{lists_after}
use Rattle.input_lines.specs.Lines.{numbered}
use Rattle.update_replay.specs.Readings.{ResponseReading, updates_of_reading, bodies_of}
use Rattle.update_replay.specs.Printed.{taken_lines, body_lines, outcome_lines, list_lines, replay_text}
use Rattle.update_replay.specs.Replay.{is_body_refused, is_any_body_refused}
use Rattle.sb_outside.specs.Writing.{HasFront}
use Rattle.input_lines.specs.Writing.{HasPart}
use Rattle.input_lines.specs.Ways.{drop_at, some_back, part_front}

-- ---- the updates of a body

-- the line of the update at a place, and those after it
pub taken_step : (number i : ℕ) (updates : List UpdatedList) (results : List ListResult) (update : UpdatedList) (result : ListResult) (done whole : List ℕ)
    → update ≡ get_or updates i update → i < length updates → result ≡ get_or results i result → i < length results
    → done ++ taken_lines number (drop i updates) (drop i results) ≡ whole
    → (done ++ numbered number (taken_text update.name result)) ++ taken_lines number (drop (i + 1) updates) (drop (i + 1) results) ≡ whole
taken_step number i updates results update result done whole u u_within r r_within h =
    let us = drop_at updates i update u u_within in
    let rs = drop_at results i result r r_within in
    append_assoc done (numbered number (taken_text update.name result)) (taken_lines number (drop (i + 1) updates) (drop (i + 1) results))
    ∙ ap (λ (now : List UpdatedList). done ++ taken_lines number now (result ∷ drop (i + 1) results)) (sym us)
    ∙ ap (λ (now : List ListResult). done ++ taken_lines number (drop i updates) now) (sym rs)
    ∙ h

-- ---- the bodies

-- the lines after the next one, where it leaves the lists as these
pub text_step : (n : ℕ) (now next : List Held) (r : ResponseReading) (rs : List ResponseReading) (done all : List ℕ)
    → next ≡ after_updates now (updates_of_reading r) → done ++ outcome_lines n now (r ∷ rs) ≡ all
    → (done ++ body_lines n now r) ++ outcome_lines (n + 1) next rs ≡ all
text_step n now next r rs done all e h =
    append_assoc done (body_lines n now r) (outcome_lines (n + 1) next rs)
    ∙ ap (λ (lists : List Held). done ++ (body_lines n now r ++ outcome_lines (n + 1) lists rs)) e
    ∙ h

or_assoc : (a b c : Bool) → ((a || b) || c) ≡ (a || (b || c))
or_assoc true b c = refl
or_assoc false b c = refl

pub refusal_step : (now next : List Held) (r : ResponseReading) (rs : List ResponseReading) (refused here all : Bool)
    → next ≡ after_updates now (updates_of_reading r) → here ≡ is_body_refused now r → (refused || is_any_body_refused now (r ∷ rs)) ≡ all
    → ((refused || here) || is_any_body_refused next rs) ≡ all
refusal_step now next r rs refused here all e k h =
    or_assoc refused here (is_any_body_refused next rs)
    ∙ ap (λ (b : Bool). refused || (b || is_any_body_refused next rs)) k
    ∙ ap (λ (lists : List Held). refused || (is_body_refused now r || is_any_body_refused lists rs)) e
    ∙ h

pub lists_step : (now next all : List Held) (r : ResponseReading) (rs : List ResponseReading)
    → next ≡ after_updates now (updates_of_reading r) → lists_after now (bodies_of (r ∷ rs)) ≡ all → lists_after next (bodies_of rs) ≡ all
lists_step now next all r rs e h = ap (λ (lists : List Held). lists_after lists (bodies_of rs)) e ∙ h

-- ---- the end

pub results_count : (lists : List Held) (updates : List UpdatedList) → length (results_of lists updates) ≡ length updates
results_count lists [] = refl
results_count lists (update ∷ updates) = ap suc (results_count (after_update lists update) updates)

-- lists have lines
pub lists_some : (lists : List Held) → lists ≢ [] → flat_map list_lines lists ≢ []
lists_some [] h = absurd (h refl)
lists_some (held ∷ lists) h = λ e. cc

length_some : {A : Type 0} (xs : List A) → 0 < length xs → xs ≢ []
length_some [] h = absurd (omega arith)
length_some (x ∷ xs) h = λ e. cc

with_name_some : (name : ListName) (names : List ListName) → 0 < length (with_name name names)
with_name_some name [] = omega arith
with_name_some name (first ∷ names) = by_order (name_cmp name first)
  where
    by_order : (o : Ordering) → 0 < length (match_ordering o (name ∷ first ∷ names) (first ∷ names) (first ∷ with_name name names))
    by_order Less = omega arith
    by_order Equal = omega arith
    by_order Greater = omega arith

in_order_some : (names : List ListName) → names ≢ [] → 0 < length (in_order names)
in_order_some [] h = absurd (h refl)
in_order_some (name ∷ names) h = with_name_some name (in_order names)

length_after_one : (lists : List Held) (update : UpdatedList) → length (after_update lists update) ≡ length lists
length_after_one lists update = length-map lists _

length_after_body : (lists : List Held) (updates : List UpdatedList) → length (after_updates lists updates) ≡ length lists
length_after_body lists [] = refl
length_after_body lists (update ∷ updates) = length_after_body (after_update lists update) updates ∙ length_after_one lists update

length_after : (lists : List Held) (bodies : List (List UpdatedList)) → length (lists_after lists bodies) ≡ length lists
length_after lists [] = refl
length_after lists (updates ∷ bodies) = length_after (after_updates lists updates) bodies ∙ length_after_body lists updates

-- the lists that are left after bodies have lines
pub after_some : (names : List ListName) (bodies : List (List UpdatedList)) → names ≢ [] → flat_map list_lines (lists_after (nothing_held_of names) bodies) ≢ []
after_some names bodies h =
    let start : 0 < length (in_order names) = in_order_some names h in
    let held : length (nothing_held_of names) ≡ length (in_order names) = length-map (in_order names) nothing_held in
    let kept : length (lists_after (nothing_held_of names) bodies) ≡ length (nothing_held_of names) = length_after (nothing_held_of names) bodies in
    lists_some _ (length_some _ (omega (arith, start, held, kept)))

pub text_some : (names : List ListName) (readings : List ResponseReading) → names ≢ [] → replay_text names readings ≢ []
text_some names readings h = some_back (outcome_lines 1 (nothing_held_of names) readings) _ (after_some names (bodies_of readings) h)

-- the lines, and then the lists that they led to, are the whole text
pub whole_text : (names : List ListName) (start after : List Held) (readings : List ResponseReading) → start ≡ nothing_held_of names → after ≡ lists_after start (bodies_of readings)
    → outcome_lines 1 start readings ++ flat_map list_lines after ≡ replay_text names readings
whole_text names start after readings e h =
    ap (λ (lists : List Held). outcome_lines 1 start readings ++ flat_map list_lines lists) h
    ∙ ap (λ (lists : List Held). outcome_lines 1 lists readings ++ flat_map list_lines (lists_after lists (bodies_of readings))) e

-- a part of the lines is a front of the text
pub lines_front : {a b : Option (List ℕ)} (names : List ListName) (start : List Held) (readings : List ResponseReading) → names ≢ [] → start ≡ nothing_held_of names
    → HasPart a b (outcome_lines 1 start readings) → HasFront a b (replay_text names readings)
lines_front {a} {b} names start readings some e h =
    part_front (outcome_lines 1 (nothing_held_of names) readings) _ (after_some names (bodies_of readings) some)
    (subst (λ (lists : List Held). HasPart a b (outcome_lines 1 lists readings)) e h)
