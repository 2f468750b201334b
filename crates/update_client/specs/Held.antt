-- The lists that a client holds.
use Rattle.std.specs.Prelude.{ℕ, ◌≤◌, Bool, false, not, nat_le, List, [], ◌∷◌, length, map, filter}
use Rattle.std.specs.Ordering.{match_ordering}
use Rattle.std.specs.List.Sorted.{IsStrictlySortedBy}
use Rattle.sha2.specs.Sha256.{sha256}
use Rattle.sb_model.specs.declared.names.ListName.{ListName}
use Rattle.sb_model.specs.Names.{name_cmp}
use Rattle.sb_model.specs.Prefixes.{concatenation}

-- A list that a client holds: its state token, empty before the first update, its prefixes, and whether an update was
-- refused since the last that was installed.
pub record Held : Type 0 where
  pub name : ListName
  pub token : List ℕ
  pub set : List (List ℕ)
  pub resync : Bool

-- what each held list keeps to: a token is no longer than a state of a message may be
pub record IsHeldList (held : Held) : Type 0 where
  pub token : length held.token ≤ 4096

-- a list of which nothing was installed yet
abbrev pub nothing_held : ListName → Held
nothing_held name = record { name = name; token = []; set = []; resync = false }

-- the digest of a set: SHA-256 of its members one after the other
abbrev pub digest_of : List (List ℕ) → List ℕ
digest_of set = sha256 (concatenation set)

-- the most lists of a client
abbrev pub most_lists : ℕ
most_lists = 8

-- What a client's lists keep to: they are few, and in the order of their names, each of which stands once.
pub record AreHeldLists (lists : List Held) : Type 0 where
  pub few : length lists ≤ most_lists
  pub rising : IsStrictlySortedBy name_cmp (map (λ (held : Held). held.name) lists)

-- a rising list of names with one more, which it may have already
abbrev pub with_name : ListName → List ListName → List ListName
with_name name [] = name ∷ []
with_name name (first ∷ names) = match_ordering (name_cmp name first) (name ∷ first ∷ names) (first ∷ names) (first ∷ with_name name names)

-- names in their order
abbrev pub in_order : List ListName → List ListName
in_order [] = []
in_order (name ∷ names) = with_name name (in_order names)

-- the lists of these names, of which nothing was installed yet, in the order of the names
abbrev pub nothing_held_of : List ListName → List Held
nothing_held_of names = map nothing_held (in_order names)

abbrev pub has_token : Held → Bool
has_token held = not (nat_le (length held.token) 0)

-- the tokens that are not empty, in the order of the lists
abbrev pub tokens_of : List Held → List (List ℕ)
tokens_of lists = map (λ (held : Held). held.token) (filter has_token lists)
