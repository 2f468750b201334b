-- The places of a mirror: the lists that it held, one after the other. Place 0 has those that it began with, and each further place
-- those that came to be with a round. A mirror keeps the newest eight.
use Rattle.std.specs.Prelude.{◌≡◌, ◌≤◌, ◌<◌, ◌+◌, ◌-◌, ◌^◌, ℕ, min, nat_lt, if◌then◌else◌, List, [], ◌∷◌, length, map, drop, All, Option, Some, None, slice_get}
use Rattle.prefix_set.specs.Limits.{IsPrefixSet}
use Rattle.sb_model.specs.declared.names.ListName.{ListName}
use Rattle.update_client.specs.Held.{AreHeldLists, Held, digest_of}

-- how many places a mirror keeps
abbrev pub most_kept_places : ℕ
most_kept_places = 8

-- the greatest number of a place
abbrev pub last_place : ℕ
last_place = 2 ^ 63

-- A mirror: the epoch that its tokens name, how many places are no longer kept, and the lists at those that are.
pub record Places : Type 0 where
  pub epoch : ℕ
  pub gone : ℕ
  pub kept : List (List Held)

abbrev pub names_of_lists : List Held → List ListName
names_of_lists lists = map (λ (held : Held). held.name) lists

-- Lists can be held at a place of a mirror with these names: they are a client's, they have these names, and each of their sets is a set
-- of prefixes.
pub record AreAtPlace (names : List ListName) (lists : List Held) : Type 0 where
  pub client : AreHeldLists lists
  pub named : names_of_lists lists ≡ names
  pub sets : All (λ (held : Held). IsPrefixSet held.set) lists

-- The lists at all kept places of a mirror have the same names.
abbrev pub HaveSameNames : Places → Type 0
HaveSameNames mirror = (names : List ListName) × All (λ lists. names_of_lists lists ≡ names) mirror.kept

-- A mirror stands for all lists that it held so far: it keeps the newest eight of them, or all where they are fewer, and knows how many
-- came before.
pub record StandsForPlaces (mirror : Places) (places : List (List Held)) : Type 0 where
  pub names : List ListName
  pub held : All (AreAtPlace names) places
  pub some : 0 < length places
  pub few : length places ≤ last_place + 1
  pub count : mirror.gone + length mirror.kept ≡ length places
  pub newest : length mirror.kept ≡ min most_kept_places (length places)
  pub kept : mirror.kept ≡ drop mirror.gone places

-- the newest place
abbrev pub newest_place : Places → ℕ
newest_place mirror = mirror.gone + length mirror.kept - 1

-- the lists at a place, where it is kept
abbrev pub lists_at_place : Places → ℕ → Option (List Held)
lists_at_place mirror place = if nat_lt place mirror.gone then None else slice_get mirror.kept (place - mirror.gone)

-- the lists at the newest place
abbrev pub newest_lists : Places → Option (List Held)
newest_lists mirror = lists_at_place mirror (newest_place mirror)

-- a mirror that has one place
abbrev pub mirror_of_one : ℕ → List Held → Places
mirror_of_one epoch lists = record { epoch = epoch; gone = 0; kept = lists ∷ [] }

-- What a mirror keeps to: one place to eight, each of which can be one, all eight once a place is gone, and the digest of each list at the
-- newest.
pub record IsKeptMirror (mirror : Places) (digests : List (List ℕ)) : Type 0 where
  pub names : List ListName
  pub held : All (AreAtPlace names) mirror.kept
  pub some : 0 < length mirror.kept
  pub most : length mirror.kept ≤ most_kept_places
  pub full : 0 < mirror.gone → length mirror.kept ≡ most_kept_places
  pub few : mirror.gone + length mirror.kept ≤ last_place + 1
  pub digested : (lists : List Held) → newest_lists mirror ≡ Some lists → digests ≡ map (λ (held : Held). digest_of held.set) lists
