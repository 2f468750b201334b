-- Publications of a client's lists, one after the other.
use Rattle.std.specs.Prelude.{◌≡◌, ℕ, suc, ◌+◌, ◌-◌, ◌<◌, ◌≤◌, List, [], ◌∷◌, ◌++◌, length, drop, slice_get, Some}
use Rattle.update_client.specs.Held.{Held}

-- the lists that were published, in order: the first have the number 0
abbrev pub Publications : Type 0
Publications = List (List Held)

-- One of them: its number, and the client's lists.
pub record Publication : Type 0 where
  pub number : ℕ
  pub lists : List Held

abbrev pub publication : ℕ → List Held → Publication
publication number lists = record { number = number; lists = lists }

-- the later publications begin with the earlier ones
abbrev pub IsPrefixOf : Publications → Publications → Type 0
IsPrefixOf earlier later = (more : Publications) × (later ≡ earlier ++ more)

-- It is the last of them: its number is their count less one, and its lists stand there.
pub record IsLastOf (all : Publications) (last : Publication) : Type 0 where
  pub number : suc last.number ≡ length all
  pub lists : slice_get all last.number ≡ Some last.lists

-- ---- those that are kept

-- a publisher keeps its newest publications, so many of them
abbrev pub most_kept : ℕ
most_kept = 17

-- a publication of this number was made, and is among the newest
pub record IsPublicationKept (all : Publications) (number : ℕ) : Type 0 where
  pub made : number < length all
  pub newest : length all ≤ number + most_kept

-- publications with their numbers, from a number on
abbrev pub numbered_from : ℕ → Publications → List Publication
numbered_from number [] = []
numbered_from number (lists ∷ more) = publication number lists ∷ numbered_from (suc number) more

-- the newest with their numbers
abbrev pub kept_end : Publications → List Publication
kept_end all = drop (length all - most_kept) (numbered_from 0 all)
