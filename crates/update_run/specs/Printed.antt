-- What a run prints.
use Rattle.std.specs.Prelude.{ℕ, ◌+◌, Bool, true, false, not, ◌||◌, if◌then◌else◌, List, [], ◌∷◌, ◌++◌, length, map, filter, Option, Some, None, Result, Ok, Err, codes, decimal}
use Rattle.std.specs.List.{list_any, flat_map}
use Rattle.sb_model.specs.declared.names.ListName.{ListName}
use Rattle.sb_model.specs.Names.{same_name, text_of}
use Rattle.update_client.specs.Held.{Held}
use Rattle.update_client.specs.Printed.{token_text}
use Rattle.update_client.specs.Step.{is_refused}
use Rattle.client_store.specs.Printed.{store_cause_text}
use Rattle.client_store.specs.Reading.{store_reading}
use Rattle.client_store.specs.declared.fault.StoreFault.{StoreFault}
use Rattle.sb_round.specs.Printed.{round_line, round_lines}
use Rattle.sb_round.specs.Rounds.{round_updates}
use Rattle.sb_round.specs.Run.{lists_after}
use Rattle.sb_round.specs.Round.{Round, lists_after_round, taken_from}
use Rattle.sb_round.specs.declared.rounds.RoundEnd.{RoundEnd}
use Rattle.sb_round.specs.declared.rounds.RoundFault.{RoundFault}
use Rattle.sb_round.specs.declared.rounds.Taken.{Taken}
use Rattle.update_run.specs.Saved.{has_installed}

-- ---- the store

-- a line for a text that was kept and is no store
abbrev pub ignored_line : Result (List Held) StoreFault → List ℕ
ignored_line (Ok stored) = []
ignored_line (Err fault) = codes "store ignored: " ++ store_cause_text fault ++ 10 ∷ []

abbrev pub ignored_text : Option (List ℕ) → List ℕ
ignored_text None = []
ignored_text (Some text) = ignored_line (store_reading text)

-- ---- rounds

-- the line that tells of a store that was replaced
abbrev pub saved_line : ℕ → List ℕ
saved_line number = round_line number (codes "saved")

-- how a round ended
abbrev pub round_end : List Held → Round → RoundEnd
round_end lists round = record { begun = round.session.begun; taken = taken_from lists round.answer }

-- the line of the store that a round replaced, where it installed a list
abbrev pub saved_part : ℕ → Result (List Taken) RoundFault → List ℕ
saved_part number taken = if has_installed taken then saved_line number else []

-- whether one of these updates is that of a list
abbrev pub has_update_for : List Taken → ListName → Bool
has_update_for taken name = list_any (λ (one : Taken). same_name one.name name) taken

-- the names of the lists for which a round's answer had no update, in their order, and none where the round brought no answer
abbrev pub not_answered : List Held → Result (List Taken) RoundFault → List ListName
not_answered lists (Ok taken) = filter (λ name. not (has_update_for taken name)) (map (λ (held : Held). held.name) lists)
not_answered lists (Err fault) = []

-- the line of such a list
abbrev pub not_answered_line : ℕ → ListName → List ℕ
not_answered_line number name = round_line number (text_of name ++ codes " not-answered")

abbrev pub not_answered_lines : ℕ → List ListName → List ℕ
not_answered_lines number names = flat_map (not_answered_line number) names

-- the lines of a round that led to these lists, that of its store, and those of the lists for which its answer had no update
abbrev pub told_end : ℕ → List Held → RoundEnd → List ℕ
told_end number lists end =
    round_lines number end ++ saved_part number end.taken ++ not_answered_lines number (not_answered lists end.taken)

-- the lines of rounds, each where the rounds before it led
abbrev pub rounds_text : ℕ → List Held → List Round → List ℕ
rounds_text number lists [] = []
rounds_text number lists (round ∷ rounds) =
    told_end number (lists_after_round lists round) (round_end lists round) ++ rounds_text (number + 1) (lists_after_round lists round) rounds

-- ---- lists

-- a list with the number of its prefixes and its token
abbrev pub list_line : Held → List ℕ
list_line held = codes "list " ++ text_of held.name ++ codes " " ++ decimal (length held.set) ++ codes " " ++ token_text held.token ++ 10 ∷ []

-- ---- the whole run

-- the lines before the lists
abbrev pub told_rounds : Option (List ℕ) → List Held → List Round → List ℕ
told_rounds kept lists rounds = ignored_text kept ++ rounds_text 1 lists rounds

-- the text of a run that began with what was kept, and with these lists
abbrev pub run_text : Option (List ℕ) → List Held → List Round → List ℕ
run_text kept lists rounds = told_rounds kept lists rounds ++ flat_map list_line (lists_after lists (map round_updates rounds))

-- ---- what is told with the status

-- whether a round brought no message, or an update that was refused
abbrev pub has_refusal : Result (List Taken) RoundFault → Bool
has_refusal (Ok taken) = list_any (λ (one : Taken). is_refused one.result) taken
has_refusal (Err fault) = true

-- whether one of these rounds did, each where the rounds before it led
abbrev pub has_refusals : List Held → List Round → Bool
has_refusals lists [] = false
has_refusals lists (round ∷ rounds) = has_refusal (taken_from lists round.answer) || has_refusals (lists_after_round lists round) rounds
