-- What is known of the prefixes of a list that were read so far.
use Rattle.std.specs.Prelude.{◌≡◌, ◌≤◌, ℕ, List, length}
use Rattle.sb_model.specs.Prefixes.{concatenation}
use Rattle.prefix_set.specs.Edits.{EditLists}
use Rattle.prefix_set.specs.declared.set.TheConstants.{MAX_BYTES}
use Rattle.client_store.specs.Reading.{last_of}

-- they are the additions of an edit, whose last one and whose bytes are known
pub record IsGathered (edit : EditLists) (last : List ℕ) (total : ℕ) : Type 0 where
  pub last_is : last ≡ last_of edit.additions
  pub total_is : total ≡ length (concatenation edit.additions)
  pub within : total ≤ MAX_BYTES
