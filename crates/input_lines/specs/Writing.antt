-- How writing a text may end before its end.
use Rattle.std.specs.Prelude.{◌≡◌, ℕ, ◌⊎◌, List, ◌++◌, Option}
use Rattle.sb_outside.specs.Outside.{Rose, appended}
use Rattle.input_lines.specs.declared.stop.Stop.{Stop}
use Rattle.input_lines.specs.declared.stop.Stop.TheVariants.{WriteFault, OutOfMemory}

-- Writing ended before its end: the sink failed and its count of faults rose, or memory was refused and the count is as it was.
abbrev pub IsWritingStopped : Stop → ℕ → ℕ → Type 0
IsWritingStopped stop before after = ((stop ≡ WriteFault) × Rose before after) ⊎ ((stop ≡ OutOfMemory) × (after ≡ before))

-- The sink took a front of the text, or the whole, and no more comes.
pub record HasPart (before after : Option (List ℕ)) (text : List ℕ) : Type 0 where
  pub taken : List ℕ
  pub lost : List ℕ
  pub has : after ≡ appended before taken
  pub rest : taken ++ lost ≡ text
