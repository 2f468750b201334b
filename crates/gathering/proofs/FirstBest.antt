-- The first of some, by an order of numbers: one step of the loop that looks for it.
use Rattle.std.proofs.Common.{◌≡◌, ℕ, ◌+◌, ◌<◌, List, length, get_or, Bool, true, false, sym, ◌∙◌, rules}
use Rattle.std.specs.List.{IsFirstBest}
use Rattle.std.specs.Cmp.{IsStrictWeakOrder}
use Rattle.std.proofs.lemmas.List.{get_or_default}
use Rattle.std.proofs.lemmas.List.MinMax.{ranks_by, IsFirstBest-none, IsFirstBest-keeps, IsFirstBest-takes}
use Rattle.std.proofs.lemmas.Cmp.{nat_list_cmp_total}
use Rattle.gathering.specs.Turns.{is_before}

-- an order by keys that are lists of numbers
abbrev pub by_key : {X : Type 0} → (X → List ℕ) → X → X → Bool
by_key key one other = is_before (key one) (key other)

pub ranks : {X : Type 0} (key : X → List ℕ) → IsStrictWeakOrder (by_key key)
ranks key = ranks_by nat_list_cmp_total key

pub begins : {X : Type 0} (key : X → List ℕ) (xs : List X) → IsFirstBest (by_key key) xs 1 0
begins key xs = IsFirstBest-none (ranks key) xs

pub takes : {X : Type 0} (key : X → List ℕ) (xs : List X) (i b : ℕ) (d : X) (r : Bool) → IsFirstBest (by_key key) xs i b → i < length xs → r ≡ by_key key (get_or xs i d) (get_or xs b d) → r ≡ true
    → IsFirstBest (by_key key) xs (i + 1) i
takes key xs i b d r far within is yes' =
    IsFirstBest-takes (ranks key) xs i b (get_or xs i d) (get_or xs b d) far within (search (rules, get_or_default)) (search (rules, get_or_default)) (sym is ∙ yes')

pub keeps : {X : Type 0} (key : X → List ℕ) (xs : List X) (i b : ℕ) (d : X) (r : Bool) → IsFirstBest (by_key key) xs i b → i < length xs → r ≡ by_key key (get_or xs i d) (get_or xs b d) → r ≡ false
    → IsFirstBest (by_key key) xs (i + 1) b
keeps key xs i b d r far within is no' =
    IsFirstBest-keeps (ranks key) xs i b (get_or xs i d) (get_or xs b d) far within (search (rules, get_or_default)) (search (rules, get_or_default)) (sym is ∙ no')
