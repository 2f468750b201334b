-- The clock and the dice in memory, as contracts see them.
use Rattle.std.specs.Prelude.{ℕ, List, [], ◌∷◌, Option, max}
use Rattle.sb_model.specs.declared.time.Moment.{Moment}

pub record ClockInMemory : Type 0 where
  -- the readings that come
  pub coming : List Moment
  -- the last answer in milliseconds, and 0 before the first
  pub last : ℕ
  pub answers : Option (List Moment)
  -- the moments that it was to wait for
  pub waits : Option (List Moment)
  -- how many answers it lists at most, and how many moments
  pub room : ℕ

-- the next answer: the next reading, but none below the last answer, which stands after the readings
abbrev pub next_answer : List Moment → ℕ → ℕ
next_answer [] last = last
next_answer (reading ∷ readings) last = max last reading.0

pub record DiceInMemory : Type 0 where
  -- the words that come
  pub coming : List ℕ
  -- the last word, and 0 before the first
  pub last : ℕ
  pub given : Option (List ℕ)
  -- how many words it lists at most
  pub room : ℕ

-- the next word, or the last one where no more come
abbrev pub next_word : List ℕ → ℕ → ℕ
next_word [] last = last
next_word (word ∷ words) last = word
