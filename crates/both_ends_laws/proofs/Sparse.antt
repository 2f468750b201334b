-- Values whose texts are not too dense.
use Rattle.std.proofs.Common.{◌≡◌, ℕ, ◌≤◌, false, List, length, None, arith}
use Rattle.serde_json.specs.Data.{Data}
use Rattle.serde_json.specs.Written.{compact_text, has_float}
use Rattle.sb_json.specs.Counts.{openings_in, values_in}
use Rattle.sb_json.specs.Density.{openings_of, values_of, most_openings, most_values, too_dense}

-- a value with no float, whose compact text opens no more and has no more values than a text of its length may
pub record IsSparse (value : Data) : Type 0 where
  pub openings : openings_in value ≤ most_openings (length (compact_text value))
  pub values : values_in value ≤ most_values (length (compact_text value))
  pub whole : has_float value ≡ false

-- a text has what its value has
abbrev pub AreCounted : Type 0
AreCounted = (d : Data) → has_float d ≡ false → (openings_of (compact_text d) ≡ openings_in d) × (values_of (compact_text d) ≡ values_in d)

-- a text that has no more than it may is not too dense
abbrev pub AreClear : Type 0
AreClear = (text : List ℕ) → openings_of text ≤ most_openings (length text) → values_of text ≤ most_values (length text) → too_dense text ≡ None

pub clear_text : AreCounted → AreClear → (d : Data) → IsSparse d → too_dense (compact_text d) ≡ None
clear_text counts clear d sparse =
    let counted = counts d sparse.whole in
    clear (compact_text d) (omega (arith, counted.0, sparse.openings)) (omega (arith, counted.1, sparse.values))
