-- What a merge of a rising list with removals and additions has done so far.
use Rattle.std.specs.Prelude.{◌≡◌, ℕ, ◌<◌, ◌≤◌, ◌==◌, not, List, [], ◌∷◌, ◌++◌, length, map, filter, slice_index}
use Rattle.std.specs.List.{list_any, enumerate_from}
use Rattle.prefix_set.specs.Search.{run, IsPlaceOf}

-- the members whose places, counted from a number, are not among the removals
abbrev pub kept_from : ℕ → List (List ℕ) → List ℕ → List (List ℕ)
kept_from first members removals = map (λ member. member.1) (filter (λ member. not (list_any (λ place. place == member.0) removals)) (enumerate_from first members))

-- the members from one place on and before another, without those whose places are among the removals
abbrev pub kept_between : List (List ℕ) → List ℕ → ℕ → ℕ → List (List ℕ)
kept_between members removals from to = kept_from from (run from to members) removals

-- the first `count` removals are places in front of this one
pub record AreDone (removals : List ℕ) (count place : ℕ) : Type 0 where
  pub within : count ≤ length removals
  pub below : (k : ℕ) → k < count → slice_index removals k < place

-- an addition was taken: first what is kept of the members in front of it, from a place on, and then the addition
pub record TakesAddition (members : List (List ℕ)) (removals addition : List ℕ) (from next : ℕ) (old new : List (List ℕ)) : Type 0 where
  pub index : ℕ
  pub order : from ≤ index
  pub place : IsPlaceOf members addition index next
  pub is : new ≡ old ++ kept_between members removals from index ++ addition ∷ []
