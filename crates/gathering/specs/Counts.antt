-- What is counted for each of some keys: a list of keys in order with their numbers. A key that is not in it has 0.
use Rattle.std.specs.Prelude.{◌≡◌, ◌⊎◌, ℕ, ◌+◌, ◌-◌, ◌/◌, ◌^◌, ◌<◌, ◌≤◌, List, length, filter, map, Option, Some, None, nat_le, nat_lt, if◌then◌else◌}
use Rattle.std.specs.List.{All, Contains}
use Rattle.std.specs.Option.{unwrap_or}
use Rattle.std.specs.BTreeMap.{insert_entry, is_at}
use Rattle.std.specs.Map.{lookup, remove_entry}
use Rattle.std.specs.declared.cmp.Ordering.{Ordering}
use Rattle.gathering.specs.Addresses.{address_cmp}
use Rattle.gathering.specs.Deadlines.{moment}
use Rattle.gathering.specs.declared.addresses.Address.{Address}

module _ {K : Type 0} (cmp : K → K → Ordering) where
  -- the number of a key
  abbrev pub count_of : List (K × ℕ) → K → ℕ
  count_of counts key = unwrap_or (lookup (is_at (cmp key)) counts) 0

  -- the list with another number of a key, and without a key
  abbrev pub with_count : List (K × ℕ) → K → ℕ → List (K × ℕ)
  with_count counts key n = insert_entry cmp counts key n

  abbrev pub without_key : List (K × ℕ) → K → List (K × ℕ)
  without_key counts key = remove_entry (is_at (cmp key)) counts

  -- one more of a key, and one fewer
  abbrev pub one_more : List (K × ℕ) → K → List (K × ℕ)
  one_more counts key = with_count counts key (moment (count_of counts key + 1))

  abbrev pub one_fewer : List (K × ℕ) → K → List (K × ℕ)
  one_fewer counts key = if nat_le (count_of counts key) 1 then without_key counts key else with_count counts key (count_of counts key - 1)

-- The milliseconds that answers took, by the addresses that had them.
abbrev pub Taken : Type 0
Taken = List (Address × ℕ)

abbrev pub share_of : Taken → Address → ℕ
share_of taken address = count_of address_cmp taken address

-- the list with so many milliseconds more of an address
abbrev pub with_millis_more : Taken → Address → (millis : ℕ) → Taken
with_millis_more taken address millis = with_count address_cmp taken address (moment (share_of taken address + millis))

-- how many addresses are kept
abbrev pub most_shares : ℕ
most_shares = 4096

-- an address of the list that took least
pub record TookLeast (taken : Taken) (address : Address) : Type 0 where
  pub millis : ℕ
  pub has : Contains taken (address, millis)
  pub least : All (λ one. millis ≤ one.1) taken

-- of two the one that took less
abbrev pub lesser : Option (Address × ℕ) → Address × ℕ → Address × ℕ
lesser None one = one
lesser (Some first) one = if nat_le first.1 one.1 then first else one

-- The list as it is kept: where it is too long, one that took least has left it.
pub record LostLeast (taken kept : Taken) : Type 0 where
  pub address : Address
  pub least : TookLeast taken address
  pub without : kept ≡ without_key address_cmp taken address

abbrev pub IsTakenKept : Taken → Taken → Type 0
IsTakenKept taken kept = ((length taken ≤ most_shares) × (kept ≡ taken)) ⊎ ((most_shares < length taken) × LostLeast taken kept)

-- After some minutes, at most 63, each has half as much for each minute, and those that come to nothing are gone.
abbrev pub halved : (minutes : ℕ) → Taken → Taken
halved minutes taken = filter (λ one. nat_lt 0 one.1) (map (λ one. (one.0, one.1 / 2 ^ minutes)) taken)
