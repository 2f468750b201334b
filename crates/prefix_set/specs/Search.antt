-- Where a prefix is in a rising list.
use Rattle.std.specs.Prelude.{◌≡◌, ℕ, ◌+◌, ◌-◌, ◌≤◌, List, length, take, drop, All}
use Rattle.std.specs.declared.cmp.Ordering.TheVariants.{Less}
use Rattle.sb_model.specs.Prefixes.{bytes_cmp}
use Rattle.prefix_set.specs.Index.{alike_count}

-- the members from one place on and before another
abbrev pub run : ℕ → ℕ → List (List ℕ) → List (List ℕ)
run from to members = take (to - from) (drop from members)

-- each comes before the prefix
abbrev pub AreBefore : List (List ℕ) → List ℕ → Type 0
AreBefore members prefix = All (λ member. bytes_cmp member prefix ≡ Less) members

-- each comes after it
abbrev pub AreAfter : List (List ℕ) → List ℕ → Type 0
AreAfter members prefix = All (λ member. bytes_cmp prefix member ≡ Less) members

-- what stands in front of `index` comes before the prefix, what stands from `past` on comes after it, and what is between is the prefix
pub record IsPlaceOf (members : List (List ℕ)) (prefix : List ℕ) (index past : ℕ) : Type 0 where
  pub order : index ≤ past
  pub within : past ≤ length members
  pub before : AreBefore (take index members) prefix
  pub here : All (λ member. member ≡ prefix) (run index past members)
  pub after : AreAfter (drop past members) prefix

-- The members between two places are those that begin with the first two bytes of a prefix. The others come before it or after it.
pub record IsSpanOf (members : List (List ℕ)) (prefix : List ℕ) (start end : ℕ) : Type 0 where
  pub within : end ≤ length members
  pub count : end ≡ start + alike_count members prefix
  pub before : AreBefore (take start members) prefix
  pub after : AreAfter (drop end members) prefix
