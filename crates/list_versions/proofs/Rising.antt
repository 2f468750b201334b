-- The order of byte strings, lists of them that rise, and whether a set has one.
use Rattle.std.proofs.Common.{◌≡◌, ℕ, ◌<◌, true, List, ◌∷◌, length, get_or, sym, subst, ◌∙◌}
use Rattle.std.specs.List.{Any, Contains}
use Rattle.std.specs.declared.cmp.Ordering.TheVariants.{Less}
use Rattle.std.specs.Str.{bytes_eq}
use Rattle.std.specs.Cmp.Lexicographic.{nat_list_cmp_total}
use Rattle.std.proofs.lemmas.Cmp.{tied_itself}
use Rattle.std.proofs.lemmas.List.Elements.{All-contains, All-from_recursion}
use Rattle.std.proofs.lemmas.List.Folds.{list_any-from_Any, Any-from_list_any}
use Rattle.std.proofs.lemmas.Map.Keys.{Less-from_sorted, sorted_head}
use Rattle.sb_model.specs.Difference.{has_member}
use Rattle.sb_model.specs.Prefixes.{bytes_cmp, IsRising, set_of}
use Rattle.list_versions.proofs.Finding.{same_bytes, bytes_are_same}
use Rattle.list_versions.proofs.Membership.{In, contains_in, in_contained}
use Rattle.list_versions.proofs.PrefixBytes.{has_set}

-- x comes before y
abbrev pub IsBefore : List ℕ → List ℕ → Type 0
IsBefore x y = bytes_cmp x y ≡ Less

pub before_trans : (x y z : List ℕ) → IsBefore x y → IsBefore y z → IsBefore x z
before_trans x y z h k = nat_list_cmp_total.trans x y z h k

pub before_itself : (x : List ℕ) → IsBefore x x → ⊥
before_itself x h = cc (sym h ∙ tied_itself nat_list_cmp_total x)

-- a member comes before each that stands after it
pub rising_places : (members : List (List ℕ)) (i j : ℕ) (d : List ℕ) → IsRising members → i < j → j < length members → IsBefore (get_or members i d) (get_or members j d)
rising_places members i j d up lt within = Less-from_sorted bytes_cmp members i j d up lt within

pub after_head : (x z : List ℕ) (xs : List (List ℕ)) → IsRising (x ∷ xs) → Contains xs z → IsBefore x z
after_head x z xs up h = All-contains (λ y. IsBefore x y) xs z (All-from_recursion (λ y. IsBefore x y) xs (sorted_head bytes_cmp x xs up)) h

-- ---- what a set has

pub has_Contains : (set : List (List ℕ)) (x : List ℕ) → has_member set x ≡ true → Contains set x
has_Contains set x h =
    let found : Any (λ (other : List ℕ). bytes_eq other x ≡ true) set = Any-from_list_any (λ (other : List ℕ). bytes_eq other x) set h in
    subst (Contains set) (same_bytes found.1 x found.4) (found.0, found.2, found.3)

pub Contains-has : (set : List (List ℕ)) (x : List ℕ) → Contains set x → has_member set x ≡ true
Contains-has set x h = list_any-from_Any (λ (other : List ℕ). bytes_eq other x) set (h.0, x, h.1, h.2, bytes_are_same x)

pub in_set : (x : List ℕ) (xs : List (List ℕ)) → In x xs → In x (set_of xs)
in_set x xs i = in_contained x (set_of xs) (has_Contains (set_of xs) x (has_set x xs ∙ Contains-has xs x (contains_in x xs i)))

pub from_set : (x : List ℕ) (xs : List (List ℕ)) → In x (set_of xs) → In x xs
from_set x xs i = in_contained x xs (has_Contains xs x (sym (has_set x xs) ∙ Contains-has (set_of xs) x (contains_in x (set_of xs) i)))
