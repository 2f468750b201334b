-- The door that gathers, as contracts see it. It tells nothing of what is to come.
use Rattle.std.specs.Prelude.{ℕ, Bool, Option, Some, None}
use Rattle.sb_outside.specs.Outside.{raised}

pub record GatheringAt : Type 0 where
  -- whether there is a port
  pub is_usable : Bool
  -- how many connections were handed out
  pub taken : ℕ
  pub faults : ℕ

-- how many were handed out after a call, which handed out one or none
abbrev pub taken_after : {Wire : Type 0} → Option Wire → ℕ → ℕ
taken_after (Some wire) taken = raised taken
taken_after None taken = taken
