-- A string of bytes as pieces of one size.
use Rattle.std.specs.Prelude.{ℕ, zero, suc, ◌/◌, List, [], ◌∷◌, length, take, drop}

-- so many pieces of a size from the front of a string
abbrev pub pieces : ℕ → ℕ → List ℕ → List (List ℕ)
pieces zero size bytes = []
pieces (suc count) size bytes = take size bytes ∷ pieces count size (drop size bytes)

-- all whole pieces of a size of a string
abbrev pub pieces_of : ℕ → List ℕ → List (List ℕ)
pieces_of size bytes = pieces (length bytes / size) size bytes
