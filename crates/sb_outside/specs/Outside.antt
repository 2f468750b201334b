-- What the calls on an outside object do to its count of faults, to what a source has left, to what a sink holds and to a log.
use Rattle.std.specs.Prelude.{◌≡◌, ℕ, ◌+◌, ◌-◌, ◌^◌, ◌≤◌, min, List, [], ◌∷◌, ◌++◌, Option, None, Some, IfSome}
use Rattle.std.specs.Option.{option_map}

-- a count that rises by one, and stands still at the greatest u64
abbrev pub raised : ℕ → ℕ
raised count = min (count + 1) (2 ^ 64 - 1)

-- a count rose, by one or more, or stands at the greatest u64
abbrev pub Rose : ℕ → ℕ → Type 0
Rose before after = raised before ≤ after

-- What a source has left is a list of pieces: the bytes that it gives before each further end of input. After the
-- last piece the input stays at its end. A source that does not tell what it has left has `None`.

-- the bytes before the next end of input
abbrev pub next_piece : List (List ℕ) → List ℕ
next_piece [] = []
next_piece (piece ∷ pieces) = piece

-- the pieces after the next end of input
abbrev pub later_pieces : List (List ℕ) → List (List ℕ)
later_pieces [] = []
later_pieces (piece ∷ pieces) = pieces

-- these two, where the source tells what it has left
abbrev pub bytes_left : Option (List (List ℕ)) → Option (List ℕ)
bytes_left left = option_map next_piece left

abbrev pub left_after_end : Option (List (List ℕ)) → Option (List (List ℕ))
left_after_end left = option_map later_pieces left

-- these bytes, and then those that are known
abbrev pub prepended : List ℕ → Option (List ℕ) → Option (List ℕ)
prepended front known = option_map (λ bytes. front ++ bytes) known

-- the bytes that are known, and then these
abbrev pub appended : Option (List ℕ) → List ℕ → Option (List ℕ)
appended known back = option_map (λ bytes. bytes ++ back) known

-- A read gave bytes: they are the front of those before the next end, and the rest of these is left.
pub record GivesFront (given : List ℕ) (before after : Option (List (List ℕ))) : Type 0 where
  pub front : bytes_left before ≡ prepended given (bytes_left after)
  pub later : left_after_end after ≡ left_after_end before

-- A read answered an end of input: no byte was left before it, and what is left is what stood after it.
pub record AnswersEnd (before after : Option (List (List ℕ))) : Type 0 where
  pub at_end : IfSome before (λ pieces. next_piece pieces ≡ [])
  pub later : after ≡ left_after_end before

-- An object in memory tells what it holds, and a real one tells nothing. What is told after a call was told before it.

-- where the first is told, the second is told too and is the same
abbrev pub IfTold : {A : Type 0} → Option A → Option A → Type 0
IfTold known value = IfSome known (λ told. value ≡ Some told)

-- a log with one more entry, where it is told
abbrev pub with_entry : {A : Type 0} → Option (List A) → A → Option (List A)
with_entry log entry = option_map (λ entries. entries ++ entry ∷ []) log

-- A value that is a source and a sink, as the wire of a connection, has two sides. A read leaves the side of the sink
-- as it is, and a write the side of the source. Either side knows which connection it is: its number, and the pieces
-- that it had to give at first.

pub record SinkSide : Type 0 where
  pub number : ℕ
  pub start : Option (List (List ℕ))
  pub contents : Option (List ℕ)
  pub faults : ℕ

pub record SourceSide : Type 0 where
  pub number : ℕ
  pub start : Option (List (List ℕ))
  pub left : Option (List (List ℕ))
  pub faults : ℕ

-- the other side of what is a source alone, and of what is a sink alone
abbrev pub no_sink : SinkSide
no_sink = record { number = 0; start = None; contents = None; faults = 0 }

abbrev pub no_source : SourceSide
no_source = record { number = 0; start = None; left = None; faults = 0 }
