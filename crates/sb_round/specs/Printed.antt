-- The printed results of updates, and the printed lines of rounds.
use Rattle.std.specs.Prelude.{ℕ, List, [], ◌∷◌, ◌++◌, Result, Ok, Err, codes, decimal}
use Rattle.std.specs.List.{flat_map}
use Rattle.sb_model.specs.declared.names.ListName.{ListName}
use Rattle.sb_model.specs.Names.{text_of}
use Rattle.update_client.specs.declared.fault.ListResult.{ListResult}
use Rattle.update_client.specs.declared.fault.ListResult.TheVariants.{Installed, Refused, NotKept}
use Rattle.update_client.specs.Printed.{update_cause_text}
use Rattle.http_edge.specs.Printed as exchange
use Rattle.sb_json.specs.Printed as message
use Rattle.sb_round.specs.declared.rounds.RoundEnd.{RoundEnd}
use Rattle.sb_round.specs.declared.rounds.RoundFault.{RoundFault}
use Rattle.sb_round.specs.declared.rounds.RoundFault.TheVariants.{Exchange, Message}
use Rattle.sb_round.specs.declared.rounds.Taken.{Taken}

abbrev pub result_text : ListResult → List ℕ
result_text (Installed entries) = codes "installed " ++ decimal entries
result_text (Refused fault) = codes "refused " ++ update_cause_text fault
result_text NotKept = codes "not-kept"

-- a list's name and what became of its update
abbrev pub taken_text : ListName → ListResult → List ℕ
taken_text name result = text_of name ++ codes " " ++ result_text result

-- a line of the round of this number; each ends with a newline
abbrev pub round_line : ℕ → List ℕ → List ℕ
round_line number text = codes "round " ++ decimal number ++ codes " " ++ text ++ 10 ∷ []

-- why a round brought no message
abbrev pub fault_text : RoundFault → List ℕ
fault_text (Exchange fault) = codes "failed " ++ exchange.exchange_cause_text fault
fault_text (Message fault) = codes "unreadable " ++ message.message_cause_text fault

-- how a round ended
abbrev pub ending_text : Result (List Taken) RoundFault → List ℕ
ending_text (Ok taken) = codes "ok"
ending_text (Err fault) = fault_text fault

-- when a round's session began, and how the round ended
abbrev pub round_end_text : RoundEnd → List ℕ
round_end_text end = codes "at " ++ decimal end.begun.0 ++ codes " " ++ ending_text end.taken

-- a line for each update that was taken
abbrev pub update_line : ℕ → Taken → List ℕ
update_line number taken = round_line number (taken_text taken.name taken.result)

abbrev pub update_lines : ℕ → Result (List Taken) RoundFault → List ℕ
update_lines number (Ok taken) = flat_map (update_line number) taken
update_lines number (Err fault) = []

-- the lines of a round
abbrev pub round_lines : ℕ → RoundEnd → List ℕ
round_lines number end = round_line number (round_end_text end) ++ update_lines number end.taken
