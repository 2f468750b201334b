-- Lists whose members rise.
use Rattle.std.proofs.Common.{◌≡◌, ℕ, List, [], ◌∷◌, refl, sym, ◌∙◌}
use Rattle.std.specs.declared.cmp.Ordering.{Ordering}
use Rattle.std.specs.declared.cmp.Ordering.TheVariants.{Less, Equal, Greater}
use Rattle.std.specs.Ordering.{match_ordering, ordering_reverse}
use Rattle.std.specs.Cmp.{IsTotalOrder}
use Rattle.std.specs.List.{AllByRecursion}
use Rattle.std.specs.List.Sorted.{IsStrictlySortedBy}
use Rattle.std.proofs.lemmas.Cmp.{nat_list_cmp_total}
use Rattle.std.proofs.lemmas.Map.Keys.{sorted_head, sorted_tail}
use Rattle.sb_model.specs.Prefixes.{bytes_cmp, IsRising, with_member, set_of}

-- whether one comes before all of others
abbrev pub IsBeforeAll : {K : Type 0} → (K → K → Ordering) → K → List K → Type 0
IsBeforeAll cmp a others = AllByRecursion (λ other. cmp a other ≡ Less) others

pub before_all : {K : Type 0} (cmp : K → K → Ordering) → IsTotalOrder cmp → (a b : K) (others : List K) → cmp a b ≡ Less → IsBeforeAll cmp b others → IsBeforeAll cmp a others
before_all cmp total a b [] h above = tt
before_all cmp total a b (c ∷ others) h above = (total.trans a b c h above.0, before_all cmp total a b others h above.1)

pub sorted_nil : {K : Type 0} (cmp : K → K → Ordering) → IsStrictlySortedBy cmp []
unfolding IsStrictlySortedBy
sorted_nil cmp = tt

pub sorted_cons : {K : Type 0} (cmp : K → K → Ordering) (a : K) (others : List K) → IsBeforeAll cmp a others → IsStrictlySortedBy cmp others → IsStrictlySortedBy cmp (a ∷ others)
unfolding IsStrictlySortedBy
sorted_cons cmp a others above sorted = (above, sorted)

-- ---- the rising list of the members of any list

less_from_reverse : (o : Ordering) → Greater ≡ ordering_reverse o → o ≡ Less
less_from_reverse Less h = refl
less_from_reverse Equal h = cc h
less_from_reverse Greater h = cc h

before_flip : (x y : List ℕ) → bytes_cmp x y ≡ Greater → bytes_cmp y x ≡ Less
before_flip x y h = less_from_reverse (bytes_cmp y x) (sym h ∙ nat_list_cmp_total.antisymm x y)

before_with_member : (y x : List ℕ) (ys : List (List ℕ)) → bytes_cmp y x ≡ Less → IsBeforeAll bytes_cmp y ys → IsBeforeAll bytes_cmp y (with_member x ys)
before_with_member y x [] h above = (h, tt)
before_with_member y x (z ∷ ys) h above = go (bytes_cmp x z) (before_with_member y x ys h above.1)
  where
    go : (o : Ordering) → IsBeforeAll bytes_cmp y (with_member x ys) → IsBeforeAll bytes_cmp y (match_ordering o (x ∷ z ∷ ys) (z ∷ ys) (z ∷ with_member x ys))
    go Less more = (h, above)
    go Equal more = above
    go Greater more = (above.0, more)

with_member_rises : (x : List ℕ) (ys : List (List ℕ)) → IsRising ys → IsRising (with_member x ys)
with_member_rises x [] rising = sorted_cons bytes_cmp x [] tt rising
with_member_rises x (y ∷ ys) rising = go (bytes_cmp x y) refl (with_member_rises x ys (sorted_tail bytes_cmp y ys rising))
  where
    go : (o : Ordering) → bytes_cmp x y ≡ o → IsRising (with_member x ys) → IsRising (match_ordering o (x ∷ y ∷ ys) (y ∷ ys) (y ∷ with_member x ys))
    go Less is more = sorted_cons bytes_cmp x (y ∷ ys) (is, before_all bytes_cmp nat_list_cmp_total x y ys is (sorted_head bytes_cmp y ys rising)) rising
    go Equal is more = rising
    go Greater is more = sorted_cons bytes_cmp y (with_member x ys) (before_with_member y x ys (before_flip x y is) (sorted_head bytes_cmp y ys rising)) more

pub set_rises : (xs : List (List ℕ)) → IsRising (set_of xs)
set_rises [] = sorted_nil bytes_cmp
set_rises (x ∷ xs) = with_member_rises x (set_of xs) (set_rises xs)
