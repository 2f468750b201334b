-- What reading an input whole does to a source.
use Rattle.std.specs.Prelude.{ℕ, List, Option}
use Rattle.sb_outside.specs.Outside.{GivesFront}
use Rattle.input_lines.specs.Lines.{IsInputWithinLimits}

-- The source gave some bytes and no end of input, and the bytes are within the limits.
pub record GivesWithin (before after : Option (List (List ℕ))) : Type 0 where
  pub given : List ℕ
  pub gives : GivesFront given before after
  pub within : IsInputWithinLimits given

-- The source gave some bytes and no end of input, and the bytes pass a limit.
pub record GivesPast (before after : Option (List (List ℕ))) : Type 0 where
  pub given : List ℕ
  pub gives : GivesFront given before after
  pub past : ¬ (IsInputWithinLimits given)
