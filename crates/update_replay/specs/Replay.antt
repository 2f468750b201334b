-- What a replay says of its input and its output, with no word on how it gets there.
use Rattle.std.specs.Prelude.{◌≡◌, ℕ, Bool, true, false, ◌||◌, List, [], ◌∷◌, ◌++◌, map, Option, IfSome, Ok, Err}
use Rattle.std.specs.List.{list_any, flat_map}
use Rattle.sb_model.specs.declared.names.ListName.{ListName}
use Rattle.sb_model.specs.History.{History}
use Rattle.sb_model.specs.Naming.{Naming}
use Rattle.sb_outside.specs.Outside.{next_piece, left_after_end, appended}
use Rattle.sb_outside.specs.Writing.{HasFront}
use Rattle.update_client.specs.Held.{Held, in_order, nothing_held_of}
use Rattle.update_client.specs.Step.{is_refused, after_updates, results_of}
use Rattle.update_client.specs.Replica.{AreReplicas}
use Rattle.input_lines.specs.Lines.{lines_of, IsInputWithinLimits}
use Rattle.update_replay.specs.Readings.{ResponseReading, AreReadings, updates_of_reading}
use Rattle.update_replay.specs.Printed.{outcome_lines, list_lines, replay_text}

-- whether a body that comes to these lists has no reading, or an update that is refused
abbrev pub is_body_refused : List Held → ResponseReading → Bool
is_body_refused lists (Ok message) = list_any is_refused (results_of lists message.items)
is_body_refused lists (Err fault) = true

-- whether one of these bodies has, each where the bodies before it led
abbrev pub is_any_body_refused : List Held → List ResponseReading → Bool
is_any_body_refused lists [] = false
is_any_body_refused lists (reading ∷ readings) = is_body_refused lists reading || is_any_body_refused (after_updates lists (updates_of_reading reading)) readings

-- A replay was printed whole: the text is that of an input, which the source gave to its end and which passes no limit.
pub record IsPrinted (names : List ListName) (refused : Bool) (left left' : Option (List (List ℕ))) (held held' : Option (List ℕ)) : Type 0 where
  pub input : List ℕ
  pub whole : IfSome left (λ pieces. next_piece pieces ≡ input)
  pub end : left' ≡ left_after_end left
  pub within : IsInputWithinLimits input
  pub readings : List ResponseReading
  pub read : AreReadings (lines_of input) readings
  pub refusal : refused ≡ is_any_body_refused (nothing_held_of names) readings
  pub text : held' ≡ appended held (replay_text names readings)

-- A replay was printed in part: the input was read to its end, and a front of its text is there, of which something is missing.
pub record IsPartlyPrinted (names : List ListName) (left left' : Option (List (List ℕ))) (held held' : Option (List ℕ)) : Type 0 where
  pub input : List ℕ
  pub whole : IfSome left (λ pieces. next_piece pieces ≡ input)
  pub end : left' ≡ left_after_end left
  pub within : IsInputWithinLimits input
  pub readings : List ResponseReading
  pub read : AreReadings (lines_of input) readings
  pub front : HasFront held held' (replay_text names readings)

-- What was printed are the lines of the bodies, and then lists with exactly these names, each a replica of the server's.
pub record PrintsReplicas (history : History) (token_at : Naming) (names : List ListName) (readings : List ResponseReading) (held held' : Option (List ℕ)) : Type 0 where
  pub lists : List Held
  pub named : map (λ (list : Held). list.name) lists ≡ in_order names
  pub replicas : AreReplicas history token_at lists
  pub text : held' ≡ appended held (outcome_lines 1 (nothing_held_of names) readings ++ flat_map list_lines lists)
