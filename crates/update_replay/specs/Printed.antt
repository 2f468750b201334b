-- The printed text of a replay.
use Rattle.std.specs.Prelude.{ℕ, ◌+◌, List, [], ◌∷◌, ◌++◌, Ok, Err, codes}
use Rattle.std.specs.List.{flat_map}
use Rattle.hex.specs.Hex.{encode_lower}
use Rattle.sb_model.specs.declared.names.ListName.{ListName}
use Rattle.sb_json.specs.Printed.{message_cause_text}
use Rattle.update_messages.specs.Messages.{UpdatedList}
use Rattle.update_client.specs.declared.fault.ListResult.{ListResult}
use Rattle.update_client.specs.Held.{Held, nothing_held_of}
use Rattle.update_client.specs.Step.{after_updates, results_of}
use Rattle.sb_round.specs.Printed.{taken_text}
use Rattle.sb_round.specs.Run.{lists_after}
use Rattle.update_run.specs.Printed.{list_line}
use Rattle.input_lines.specs.Lines.{newline, numbered}
use Rattle.update_replay.specs.Readings.{ResponseReading, updates_of_reading, bodies_of}

-- a line for each update of a body, with its list and what became of it
abbrev pub taken_lines : ℕ → List UpdatedList → List ListResult → List ℕ
taken_lines number (update ∷ updates) (result ∷ results) = numbered number (taken_text update.name result) ++ taken_lines number updates results
taken_lines number updates results = []

-- the lines of a body that comes to these lists
abbrev pub body_lines : ℕ → List Held → ResponseReading → List ℕ
body_lines number lists (Ok message) = taken_lines number message.items (results_of lists message.items)
body_lines number lists (Err fault) = numbered number (codes "unreadable " ++ message_cause_text fault)

-- the lines of bodies, each where the bodies before it led
abbrev pub outcome_lines : ℕ → List Held → List ResponseReading → List ℕ
outcome_lines number lists [] = []
outcome_lines number lists (reading ∷ readings) =
    body_lines number lists reading ++ outcome_lines (number + 1) (after_updates lists (updates_of_reading reading)) readings

-- a list, and then its prefixes, each on a line
abbrev pub prefix_line : List ℕ → List ℕ
prefix_line prefix = encode_lower prefix ++ newline ∷ []

abbrev pub list_lines : Held → List ℕ
list_lines held = list_line held ++ flat_map prefix_line held.set

-- the text of a replay of bodies to lists: what became of the bodies from line 1 on, and then the lists as they are in the end
abbrev pub printed_text : List Held → List ResponseReading → List ℕ
printed_text lists readings = outcome_lines 1 lists readings ++ flat_map list_lines (lists_after lists (bodies_of readings))

-- the same from lists of which nothing was installed yet
abbrev pub replay_text : List ListName → List ResponseReading → List ℕ
replay_text names readings = printed_text (nothing_held_of names) readings
