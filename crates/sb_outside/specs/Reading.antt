-- What reading a text in pieces does to a source.
use Rattle.std.specs.Prelude.{◌≡◌, ℕ, ◌<◌, ◌≤◌, List, ◌++◌, length, Option, IfSome}
use Rattle.sb_outside.specs.Outside.{next_piece, left_after_end, GivesFront}

-- The source gave so many bytes, and the text grew by them.
pub record GrowsBy (n : ℕ) (text grown : List ℕ) (before after : Option (List (List ℕ))) : Type 0 where
  pub given : List ℕ
  pub count : length given ≡ n
  pub whole : grown ≡ text ++ given
  pub gives : GivesFront given before after

-- The source gave the text and then answered an end of input: where it tells, the text is all that stood before that end.
pub record ReadsToEnd (text : List ℕ) (before after : Option (List (List ℕ))) : Type 0 where
  pub whole : IfSome before (λ pieces. next_piece pieces ≡ text)
  pub end : after ≡ left_after_end before

-- The source gave some bytes, and no end of input.
pub record GivesSome (before after : Option (List (List ℕ))) : Type 0 where
  pub given : List ℕ
  pub gives : GivesFront given before after

-- The source gave so many bytes or fewer, and no end of input.
pub record GivesAtMost (limit : ℕ) (before after : Option (List (List ℕ))) : Type 0 where
  pub given : List ℕ
  pub gives : GivesFront given before after
  pub within : length given ≤ limit

-- The source gave more bytes than that, and no end of input.
pub record GivesMoreThan (limit : ℕ) (before after : Option (List (List ℕ))) : Type 0 where
  pub given : List ℕ
  pub gives : GivesFront given before after
  pub past : limit < length given
