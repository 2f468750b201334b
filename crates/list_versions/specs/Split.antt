-- Where a line ends.
use Rattle.std.specs.Prelude.{◌≡◌, ℕ, ◌<◌, ◌≤◌, false, List, ◌∷◌, ◌++◌, length, All}
use Rattle.list_versions.specs.Lines.{newline, is_newline}
use Rattle.list_versions.specs.Journal.{most_line}

-- no byte is a newline
abbrev pub IsOneLine : List ℕ → Type 0
IsOneLine bytes = All (λ byte. is_newline byte ≡ false) bytes

-- the bytes begin with a line
pub record IsLine (bytes line rest : List ℕ) : Type 0 where
  pub whole : bytes ≡ line ++ newline ∷ rest
  pub within : IsOneLine line
  pub short : length line ≤ most_line

-- the bytes are the front of a line
pub record IsFront (bytes : List ℕ) : Type 0 where
  pub within : IsOneLine bytes
  pub short : length bytes ≤ most_line

-- the bytes begin with a line that is too long
pub record IsLong (bytes : List ℕ) : Type 0 where
  pub front : List ℕ
  pub others : List ℕ
  pub whole : bytes ≡ front ++ others
  pub within : IsOneLine front
  pub long : most_line < length front

-- the bytes end with these
pub record EndsWith (bytes back : List ℕ) : Type 0 where
  pub front : List ℕ
  pub whole : bytes ≡ front ++ back
