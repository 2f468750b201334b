-- Hash lines that a record may have behind a history.
use Rattle.std.specs.Prelude.{◌≡◌, ℕ, ⊤, length}
use Rattle.hex.specs.Hex.{IsBytes}
use Rattle.sb_model.specs.History.{IsPrefixSize}
use Rattle.sb_journal.specs.declared.hash_line.HashLine.{HashLine}
use Rattle.sb_journal.specs.declared.hash_line.HashLine.TheVariants.{Add, Remove}
use Rattle.sb_journal.specs.Records.{hash_in}

-- The hash of a line has 32 bytes.
unfoldable pub HasHash : HashLine → Type 0
HasHash line = IsBytes (hash_in line) × (length (hash_in line) ≡ 32)

-- If a line puts in, its size is one of a prefix.
abbrev pub HasPrefixSize : HashLine → Type 0
HasPrefixSize (Add added) = IsPrefixSize added.size
HasPrefixSize (Remove hash) = ⊤

-- If a line puts in, it names this size.
abbrev pub HasSize : ℕ → HashLine → Type 0
HasSize size (Add added) = added.size ≡ size
HasSize size (Remove hash) = ⊤
