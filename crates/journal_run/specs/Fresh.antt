-- A new journal.
use Rattle.std.specs.Prelude.{◌≡◌, ◌<◌, ℕ, ◌+◌, ◌*◌, ◌^◌, true, List, [], map, Option}
use Rattle.sb_outside.specs.Outside.{IfTold, with_entry}
use Rattle.sb_model.specs.History.{History}
use Rattle.list_versions.specs.Written.{journal_text}
use Rattle.journal_run.specs.declared.command.NewLine.{NewLine}
use Rattle.journal_run.specs.Printed.{done_with}
use Rattle.journal_run.specs.Written.{IsWritten}

-- ---- epochs

-- the epoch of two words of 32 bits, the upper one first
abbrev pub epoch_of : ℕ → ℕ → ℕ
epoch_of upper lower = upper * 2 ^ 32 + lower

-- Dice gave the two words of an epoch, which has 64 bits.
pub record DrawsEpoch (epoch : ℕ) (given given' : Option (List ℕ)) : Type 0 where
  pub upper : ℕ
  pub lower : ℕ
  pub drawn : IfTold given' (with_entry (with_entry given upper) lower)
  pub epoch_is : epoch ≡ epoch_of upper lower
  pub fits : epoch < 2 ^ 64

-- ---- `new`

-- a history of lists that have no change yet
abbrev pub fresh_history : ℕ → NewLine → History
fresh_history epoch line = record { epoch = epoch; declared = map (λ name. (name, line.size)) line.lists; changes = [] }

-- A run of `new`: the text of a journal 2 with a new epoch and these lists was written.
pub record IsNewRun (line : NewLine) (status : ℕ) (given given' : Option (List ℕ)) (held held' : Option (List ℕ)) : Type 0 where
  pub epoch : ℕ
  pub drawn : DrawsEpoch epoch given given'
  pub written : IsWritten (done_with (journal_text true (fresh_history epoch line))) status held held'
