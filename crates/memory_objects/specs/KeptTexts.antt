-- The keeper in memory, as contracts see it.
use Rattle.std.specs.Prelude.{ℕ, ◌==◌, List, take, find, Option, Some, None}
use Rattle.std.specs.Option.{option_map}
use Rattle.memory_objects.specs.declared.memory_keeper.KeepFailure.{KeepFailure}
use Rattle.memory_objects.specs.declared.memory_keeper.Remains.{Remains}
use Rattle.memory_objects.specs.declared.memory_keeper.Remains.TheVariants.{Old, New, Front}

pub record KeeperInMemory : Type 0 where
  pub kept : Option (List ℕ)
  -- the texts that were handed in
  pub handed : List (List ℕ)
  pub failing : List KeepFailure
  pub calls : ℕ
  pub faults : ℕ

-- what remains after the call of this number, where it fails
abbrev pub failure_at : ℕ → List KeepFailure → Option Remains
failure_at call failures = option_map (λ failure. failure.remains) (find (λ failure. failure.call == call) failures)

-- what is kept after a replacement that failed, of the text before and the new one
abbrev pub text_kept_after : Remains → Option (List ℕ) → List ℕ → Option (List ℕ)
text_kept_after Old before text = before
text_kept_after New before text = Some text
text_kept_after (Front n) before text = Some (take n text)

-- what is kept after a replacement, where it may have failed
abbrev pub kept_next : Option Remains → Option (List ℕ) → List ℕ → Option (List ℕ)
kept_next None before text = Some text
kept_next (Some remains) before text = text_kept_after remains before text
