-- What is taken off a text before it is read as a URL (Safe Browsing v4, "URLs and Hashing",
-- section "Canonicalization": tabs and line ends, the fragment, and spaces at the ends).
use Rattle.std.specs.Prelude.{ℕ, List, ◌==◌, Bool, not, ◌||◌, filter}
use Rattle.std.specs.List.{before_first}
use Rattle.url_canon.specs.Words.{without_leading, without_trailing}

-- a tab, a line feed or a carriage return
abbrev pub is_line_byte : ℕ → Bool
is_line_byte byte = byte == 9 || (byte == 10 || byte == 13)

abbrev pub is_hash : ℕ → Bool
is_hash byte = byte == 35

abbrev pub is_space : ℕ → Bool
is_space byte = byte == 32

-- the text before its first `#`, without tabs and line ends
unfoldable pub without_fragment : List ℕ → List ℕ
without_fragment text = before_first is_hash (filter (λ byte. not (is_line_byte byte)) text)

-- the text without the spaces at its ends
unfoldable pub trimmed : List ℕ → List ℕ
trimmed text = without_trailing is_space (without_leading is_space text)
