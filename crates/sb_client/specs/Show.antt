-- What `show` and `vectors` say of their input and their output.
use Rattle.std.specs.Prelude.{◌≡◌, ◌↔◌, ℕ, Bool, List, ◌∷◌, [], ◌++◌, length, map, Option, IfSome, IsTrue, All, codes, decimal}
use Rattle.sb_outside.specs.Outside.{next_piece, left_after_end, appended}
use Rattle.sb_outside.specs.Writing.{HasFront}
use Rattle.conformance_vectors.specs.declared.case.Case.{Case}
use Rattle.conformance_vectors.specs.Vectors.{Meets, MeetCount}
use Rattle.conformance_vectors.specs.Published.{held_by, published_examples}
use Rattle.input_lines.specs.Lines.{newline, lines_of, IsInputWithinLimits}
use Rattle.sb_client.specs.Shown.{show_text, has_refused_url}

-- The URLs were shown: the text is that of an input, which the source gave to its end and which passes no limit.
pub record IsShown (refused : Bool) (left left' : Option (List (List ℕ))) (held held' : Option (List ℕ)) : Type 0 where
  pub input : List ℕ
  pub whole : IfSome left (λ pieces. next_piece pieces ≡ input)
  pub end : left' ≡ left_after_end left
  pub within : IsInputWithinLimits input
  pub refusal : refused ≡ has_refused_url (lines_of input)
  pub text : held' ≡ appended held (show_text input)

-- They were shown in part: the input was read to its end, and a front of its text is there, of which something is missing.
pub record IsPartlyShown (left left' : Option (List (List ℕ))) (held held' : Option (List ℕ)) : Type 0 where
  pub input : List ℕ
  pub whole : IfSome left (λ pieces. next_piece pieces ≡ input)
  pub end : left' ≡ left_after_end left
  pub within : IsInputWithinLimits input
  pub front : HasFront held held' (show_text input)

-- so many cases of so many are met
abbrev pub vectors_met_text : ℕ → ℕ → List ℕ
vectors_met_text passed all = codes "vectors " ++ decimal passed ++ codes " of " ++ decimal all ++ newline ∷ []

-- The published examples were counted: how many of their cases the definitions meet, and whether these are all.
pub record IsCounted (all_met : Bool) (held held' : Option (List ℕ)) : Type 0 where
  pub cases : List Case
  pub are : map held_by cases ≡ published_examples
  pub passed : ℕ
  pub count : MeetCount cases passed
  pub met : IsTrue all_met ↔ All Meets cases
  pub text : held' ≡ appended held (vectors_met_text passed (length cases))

-- They were counted, and a front of the text is there, of which something is missing.
pub record IsPartlyCounted (held held' : Option (List ℕ)) : Type 0 where
  pub cases : List Case
  pub are : map held_by cases ≡ published_examples
  pub passed : ℕ
  pub count : MeetCount cases passed
  pub front : HasFront held held' (vectors_met_text passed (length cases))
