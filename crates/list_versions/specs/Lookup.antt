-- Full hashes that a prefix stands for.
use Rattle.std.specs.Prelude.{ℕ, Bool, List, length, take}
use Rattle.std.specs.Str.{bytes_eq}

-- whether a full hash begins with these bytes
abbrev pub begins : List ℕ → List ℕ → Bool
begins prefix hash = bytes_eq (take (length prefix) hash) prefix
