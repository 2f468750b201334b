-- The lines of an input.
use Rattle.std.specs.Prelude.{◌≡◌, ℕ, ◌≤◌, ◌==◌, Bool, false, not, if◌then◌else◌, List, [], ◌∷◌, ◌++◌, length, codes, decimal}
use Rattle.std.specs.List.{slice_split, list_any, flat_map}

-- the byte that ends a line
abbrev pub newline : ℕ
newline = 10

abbrev pub is_newline : ℕ → Bool
is_newline byte = byte == newline

-- the parts, but for a last part that is empty
abbrev pub without_empty_end : List (List ℕ) → List (List ℕ)
without_empty_end [] = []
without_empty_end ([] ∷ []) = []
without_empty_end (part ∷ parts) = part ∷ without_empty_end parts

-- What stands between the newlines of a text. An empty line is a line, and what follows the last newline is one where it is not empty.
abbrev pub lines_of : List ℕ → List (List ℕ)
lines_of text = without_empty_end (slice_split is_newline text)

-- what is told of a line: its number, counted from 1, and a text
abbrev pub numbered : ℕ → List ℕ → List ℕ
numbered number text = decimal number ++ codes " " ++ text ++ newline ∷ []

-- the most bytes and the most lines of an input
pub record IsInputWithinLimits (input : List ℕ) : Type 0 where
  pub bytes : length input ≤ 201326592
  pub lines : length (lines_of input) ≤ 65536

-- a text with no newline in it
abbrev pub HasNoNewline : List ℕ → Type 0
HasNoNewline line = list_any is_newline line ≡ false

-- lines, each with its newline
abbrev pub joined_lines : List (List ℕ) → List ℕ
joined_lines lines = flat_map (λ line. line ++ newline ∷ []) lines

-- whether a text ends in a line without its newline
abbrev pub ends_open : List ℕ → Bool
ends_open [] = false
ends_open (byte ∷ []) = not (is_newline byte)
ends_open (byte ∷ next ∷ bytes) = ends_open (next ∷ bytes)

-- the newline that such a text lacks
abbrev pub last_newline : List ℕ → List ℕ
last_newline text = if ends_open text then newline ∷ [] else []
