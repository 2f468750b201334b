-- The source and the sink in memory, as contracts see them.
use Rattle.std.specs.Prelude.{ℕ, List, [], ◌∷◌, drop}

-- a source in memory
pub record SourceInMemory : Type 0 where
  -- the bytes before each further end of input
  pub left : List (List ℕ)
  -- the numbers of the calls that fail, counted from 1
  pub failing : List ℕ
  pub calls : ℕ
  pub faults : ℕ
  -- how many bytes a call gives at most
  pub step : ℕ

-- a sink in memory
pub record SinkInMemory : Type 0 where
  pub held : List ℕ
  -- how many bytes it holds at most
  pub room : ℕ
  -- the numbers of the calls that fail, counted from 1
  pub failing : List ℕ
  pub calls : ℕ
  pub faults : ℕ
  -- how many bytes a call takes at most
  pub step : ℕ

-- the pieces without the first bytes of the first
abbrev pub without_front : ℕ → List (List ℕ) → List (List ℕ)
without_front n [] = []
without_front n (piece ∷ pieces) = drop n piece ∷ pieces
