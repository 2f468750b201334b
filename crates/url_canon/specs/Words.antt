-- Words that several of the definitions here need: a dot, and cuts of a list that std has no word
-- for.
use Rattle.std.specs.Prelude.{ℕ, ◌==◌, List, [], ◌∷◌, Bool, true, false, drop, reverse}
use Rattle.std.specs.List.{prefix_len, position_or_len}

abbrev pub is_dot : ℕ → Bool
is_dot byte = byte == 46

-- the first element passes
abbrev pub begins_with : {X : Type 0} → (X → Bool) → List X → Bool
begins_with p [] = false
begins_with p (x ∷ xs) = p x

abbrev pub is_nil : {X : Type 0} → List X → Bool
is_nil [] = true
is_nil (x ∷ xs) = false

-- the rest from the first element on that passes; nothing where none does
abbrev pub from_first : {X : Type 0} → (X → Bool) → List X → List X
from_first p xs = drop (position_or_len p xs) xs

-- without the elements at the front that pass
abbrev pub without_leading : {X : Type 0} → (X → Bool) → List X → List X
without_leading p xs = drop (prefix_len p xs) xs

-- without the elements at the end that pass
abbrev pub without_trailing : {X : Type 0} → (X → Bool) → List X → List X
without_trailing p xs = reverse (without_leading p (reverse xs))

-- the last of several lists
abbrev pub last_part : {X : Type 0} → List (List X) → List X
last_part [] = []
last_part (part ∷ []) = part
last_part (part ∷ next ∷ parts) = last_part (next ∷ parts)
