-- How a walk counts: for each full hash the prefix that is published of it, and for each prefix the full hashes that have it.
use Rattle.std.specs.Prelude.{◌≡◌, ℕ, zero, suc, ◌+◌, Bool, false, List, [], ◌∷◌, length, filter, Option, Some, None, if◌then◌else◌}
use Rattle.std.specs.List.{AllByRecursion}
use Rattle.std.specs.Map.{lookup}
use Rattle.std.specs.Str.{bytes_eq}
use Rattle.sb_model.specs.declared.history.Added.{Added}
use Rattle.sb_model.specs.Difference.{has_member}
use Rattle.sb_model.specs.History.{prefix_of}
use Rattle.delta_server.specs.Walk.{published}
use Rattle.delta_server.specs.declared.holders.Holders.{Holders}
use Rattle.delta_server.specs.declared.hashes.Hashes.{Hashes}

-- ---- maps whose keys are strings of bytes

abbrev pub value_at_key : {X : Type 0} → List (List ℕ × X) → List ℕ → Option X
value_at_key entries key = lookup (bytes_eq key) entries

-- what a map becomes where the value of a key is put or taken out
abbrev pub Puts : {X : Type 0} → List (List ℕ × X) → List (List ℕ × X) → List ℕ → Option X → Type 0
Puts before after key value = (other : List ℕ) → value_at_key after other ≡ (if bytes_eq key other then value else value_at_key before other)

-- ---- the full hashes that have a prefix

abbrev pub has_prefix : List ℕ → Added → Bool
has_prefix prefix entry = bytes_eq (prefix_of entry) prefix

-- how many
abbrev pub holders_of : List ℕ → List Added → ℕ
holders_of prefix entries = length (filter (has_prefix prefix) entries)

-- none is not counted
abbrev pub count_if_any : ℕ → Option ℕ
count_if_any zero = None
count_if_any (suc count) = Some (suc count)

-- one more full hash has the prefix
pub record Gains (fewer more : List Added) (prefix : List ℕ) : Type 0 where
  pub holders : (other : List ℕ) → holders_of other more ≡ holders_of other fewer + (if bytes_eq prefix other then 1 else 0)

-- the prefixes of these full hashes are counted, and those that an older set has too
pub record Counts (now : Holders) (entries : List Added) : Type 0 where
  pub holders : (prefix : List ℕ) → value_at_key now.counts.entries prefix ≡ count_if_any (holders_of prefix entries)
  pub members : length now.counts.entries ≡ length (published entries)
  pub stay : now.shared ≡ length (filter (has_member (published entries)) now.held.now)
  pub known : now.shared ≡ length (filter (has_member now.held.now) (published entries))

-- ---- the prefix of a full hash

abbrev pub prefix_of_hash : List ℕ → List Added → Option (List ℕ)
prefix_of_hash hash [] = None
prefix_of_hash hash (entry ∷ entries) = if bytes_eq entry.hash hash then Some (prefix_of entry) else prefix_of_hash hash entries

-- no two entries have one hash
abbrev pub HaveHashesApart : List Added → Type 0
HaveHashesApart [] = Unit {0}
HaveHashesApart (entry ∷ entries) = AllByRecursion (λ other. bytes_eq other.hash entry.hash ≡ false) entries × HaveHashesApart entries

-- these full hashes are known with their prefixes
pub record Knows (now : Hashes) (entries : List Added) : Type 0 where
  pub apart : HaveHashesApart entries
  pub prefixes : (hash : List ℕ) → value_at_key now.prefixes.entries hash ≡ prefix_of_hash hash entries
  pub count : length now.prefixes.entries ≡ length entries
