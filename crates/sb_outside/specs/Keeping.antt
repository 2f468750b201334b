-- What a keeper keeps after a replacement that failed.
use Rattle.std.specs.Prelude.{ℕ, ◌<◌, ◌⊎◌, List, length, take, Option, Some}
use Rattle.sb_outside.specs.Outside.{IfTold}

-- It keeps what it kept before, the whole new text, or a front of the new text that is not the whole.
abbrev pub IsTorn : Option (Option (List ℕ)) → List ℕ → Option (Option (List ℕ)) → Type 0
IsTorn before text after =
    IfTold after before
    ⊎ IfTold after (Some (Some text))
    ⊎ ((n : ℕ) × (n < length text) × IfTold after (Some (Some (take n text))))
