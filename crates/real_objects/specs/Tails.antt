-- The last bytes of a text.
use Rattle.std.specs.Prelude.{ℕ, ◌-◌, List, length, drop}

-- the last so many bytes, or all where there are no more
abbrev pub tail_of : ℕ → List ℕ → List ℕ
tail_of count text = drop (length text - count) text
