-- Prefixes of four bytes have the order of their big-endian numbers.
use Rattle.std.proofs.Common.{◌≡◌, ℕ, zero, suc, ◌+◌, ◌*◌, ◌^◌, ◌<◌, List, [], ◌∷◌, length, map, get_or, Bool, true, false, inl, inr, refl, sym, ap, subst, ◌∙◌, arith}
use Rattle.std.specs.Prelude.{◌==◌, ◌↔◌, ◌||◌, All, Contains, nat_eq}
use Rattle.std.specs.declared.cmp.Ordering.{Ordering}
use Rattle.std.specs.declared.cmp.Ordering.TheVariants.{Less, Equal, Greater}
use Rattle.std.specs.Int.{w32, from_be_bytes, to_be_bytes}
use Rattle.std.specs.List.{AllByRecursion, list_any, dedup}
use Rattle.std.specs.List.Sorted.{IsPermutation, IsSorted, IsStrictlyIncreasing, IsStrictlySortedBy}
use Rattle.std.specs.Ordering.{nat_cmp, ordering_then}
use Rattle.std.specs.Str.{bytes_eq}
use Rattle.std.proofs.lemmas.Bool.{cases_lt, eq-eqb, eqb-true}
use Rattle.std.proofs.lemmas.Bool.Decides.{nat_tests}
use Rattle.std.proofs.lemmas.List.{get_or_past}
use Rattle.std.proofs.lemmas.List.Kept.{Contains-dedup_nat, Contains-from_dedup}
use Rattle.std.proofs.lemmas.List.Sorted.{Contains-permutation, IsPermutation-sym}
use Rattle.std.proofs.lemmas.Map.Keys.{IsStrictlyIncreasing-dedup, IsStrictlyIncreasing-from_sorted, sorted_from_strictly_increasing}
use Rattle.std.proofs.lemmas.Nat.{from_be_bytes-to_be_bytes_4}
use Rattle.sb_model.specs.Difference.{has_member}
use Rattle.sb_model.specs.Prefixes.{bytes_cmp, IsRising, set_of}
use Rattle.list_versions.specs.Quads.{quads_of}
use Rattle.list_versions.proofs.Finding.{same_bytes, bytes_are_same}
use Rattle.list_versions.proofs.Mapped.{SetLaws, set_is}
use Rattle.list_versions.proofs.Membership.{contains_in, in_contained, in_map, from_map}

-- ---- two prefixes

-- one byte more: numbers are compared by what stood before, and then by the byte
nat_cmp-more : (x y a b : ℕ) → a < 256 → b < 256 → nat_cmp (x * 256 + a) (y * 256 + b) ≡ ordering_then (nat_cmp x y) (nat_cmp a b)
nat_cmp-more x y a b below_a below_b = grind (arith, nat_tests)

-- the number of a string of bytes, behind what stood in front
big : ℕ → List ℕ → ℕ
big front [] = front
big front (x ∷ xs) = big (front * 256 + x) xs

then_equal : (o : Ordering) → o ≡ ordering_then o Equal
then_equal Less = refl
then_equal Equal = refl
then_equal Greater = refl

then_assoc : (p q r : Ordering) → ordering_then (ordering_then p q) r ≡ ordering_then p (ordering_then q r)
then_assoc Less q r = refl
then_assoc Equal q r = refl
then_assoc Greater q r = refl

abbrev AreBytes : List ℕ → Type 0
AreBytes = AllByRecursion (λ byte. byte < 256)

big_compare : (m n : ℕ) (xs ys : List ℕ) → length xs ≡ length ys → AreBytes xs → AreBytes ys
    → nat_cmp (big m xs) (big n ys) ≡ ordering_then (nat_cmp m n) (bytes_cmp xs ys)
unfolding big
big_compare m n [] [] long bytes_x bytes_y = then_equal (nat_cmp m n)
big_compare m n [] (y ∷ ys) long bytes_x bytes_y = absurd (omega arith)
big_compare m n (x ∷ xs) [] long bytes_x bytes_y = absurd (omega arith)
big_compare m n (x ∷ xs) (y ∷ ys) long bytes_x bytes_y =
    big_compare (m * 256 + x) (n * 256 + y) xs ys (omega arith) bytes_x.1 bytes_y.1
    ∙ ap (λ (o : Ordering). ordering_then o (bytes_cmp xs ys)) (nat_cmp-more m n x y bytes_x.0 bytes_y.0)
    ∙ then_assoc (nat_cmp m n) (nat_cmp x y) (bytes_cmp xs ys)

big_is : (a b c d : ℕ) → from_be_bytes w32 (a ∷ b ∷ c ∷ d ∷ []) ≡ big 0 (a ∷ b ∷ c ∷ d ∷ [])
unfolding big
big_is a b c d = omega arith

quad_is : (n : ℕ) → n < 2 ^ 32 → n ≡ big 0 (to_be_bytes w32 n)
quad_is n fits = sym (from_be_bytes-to_be_bytes_4 n fits) ∙ big_is _ _ _ _

are_bytes : (n : ℕ) → AreBytes (to_be_bytes w32 n)
are_bytes n = (omega arith, (omega arith, (omega arith, (omega arith, tt))))

quads_compare : (m n : ℕ) → m < 2 ^ 32 → n < 2 ^ 32 → bytes_cmp (to_be_bytes w32 m) (to_be_bytes w32 n) ≡ nat_cmp m n
quads_compare m n small fits =
    sym (big_compare 0 0 (to_be_bytes w32 m) (to_be_bytes w32 n) refl (are_bytes m) (are_bytes n))
    ∙ ap (λ k. nat_cmp k (big 0 (to_be_bytes w32 n))) (sym (quad_is m small)) ∙ ap (λ k. nat_cmp m k) (sym (quad_is n fits))

same_number : (m n : ℕ) → m < 2 ^ 32 → n < 2 ^ 32 → to_be_bytes w32 m ≡ to_be_bytes w32 n → m ≡ n
same_number m n small fits is = sym (from_be_bytes-to_be_bytes_4 m small) ∙ ap (from_be_bytes w32) is ∙ from_be_bytes-to_be_bytes_4 n fits

-- ---- rows

-- the numbers have 32 bits
abbrev pub AreSmall : List ℕ → Type 0
AreSmall numbers = (i : ℕ) → get_or numbers i 0 < 2 ^ 32

pub each_small : (numbers : List ℕ) → All (λ number. number < 2 ^ 32) numbers → AreSmall numbers
each_small numbers all i = elim (cases_lt i (length numbers)) [
  | inl lt ↦ all i 0 lt
  | inr past ↦ omega (arith, get_or_past numbers i 0 past)
]

quads_above : (x : ℕ) (xs : List ℕ) → x < 2 ^ 32 → AreSmall xs → AllByRecursion (λ y. nat_cmp x y ≡ Less) xs → AllByRecursion (λ y. bytes_cmp (to_be_bytes w32 x) y ≡ Less) (quads_of xs)
quads_above x [] fits small up = tt
quads_above x (y ∷ ys) fits small up = (quads_compare x y fits (small zero) ∙ up.0, quads_above x ys fits (λ i. small (suc i)) up.1)

quads_sorted : (xs : List ℕ) → AreSmall xs → IsStrictlySortedBy nat_cmp xs → IsRising (quads_of xs)
unfolding IsStrictlySortedBy
quads_sorted [] small up = tt
quads_sorted (x ∷ xs) small up = (quads_above x xs (small zero) (λ i. small (suc i)) up.0, quads_sorted xs (λ i. small (suc i)) up.1)

pub quads_rise : (xs : List ℕ) → AreSmall xs → IsStrictlyIncreasing xs → IsRising (quads_of xs)
quads_rise xs small up = quads_sorted xs small (sorted_from_strictly_increasing xs up)

numbers_above : (x : ℕ) (xs : List ℕ) → x < 2 ^ 32 → AreSmall xs → AllByRecursion (λ y. bytes_cmp (to_be_bytes w32 x) y ≡ Less) (quads_of xs) → AllByRecursion (λ y. nat_cmp x y ≡ Less) xs
numbers_above x [] fits small up = tt
numbers_above x (y ∷ ys) fits small up = (sym (quads_compare x y fits (small zero)) ∙ up.0, numbers_above x ys fits (λ i. small (suc i)) up.1)

numbers_sorted : (xs : List ℕ) → AreSmall xs → IsRising (quads_of xs) → IsStrictlySortedBy nat_cmp xs
unfolding IsStrictlySortedBy
numbers_sorted [] small up = tt
numbers_sorted (x ∷ xs) small up = (numbers_above x xs (small zero) (λ i. small (suc i)) up.0, numbers_sorted xs (λ i. small (suc i)) up.1)

pub numbers_rise : (xs : List ℕ) → AreSmall xs → IsRising (quads_of xs) → IsStrictlyIncreasing xs
numbers_rise xs small up = IsStrictlyIncreasing-from_sorted xs (numbers_sorted xs small up)

-- sorted, and each once
pub in_order : SetLaws → (old sorted last : List ℕ) → AreSmall last → IsPermutation old sorted → IsSorted nat_cmp sorted → last ≡ dedup nat_eq sorted → quads_of last ≡ set_of (quads_of old)
in_order laws old sorted last small moved up is =
    set_is laws (quads_of last) (quads_of old) (quads_rise last small (subst IsStrictlyIncreasing (sym is) (IsStrictlyIncreasing-dedup sorted up))) (λ x. (to x, from x))
  where
    down : (n : ℕ) → Contains last n → Contains old n
    down n c = Contains-permutation sorted old n (IsPermutation-sym old sorted moved) (Contains-from_dedup nat_eq sorted n (subst (λ (xs : List ℕ). Contains xs n) is c))

    back : (n : ℕ) → Contains old n → Contains last n
    back n c = subst (λ (xs : List ℕ). Contains xs n) (sym is) (Contains-dedup_nat sorted n (Contains-permutation old sorted n moved c))

    to : (x : List ℕ) → Contains (quads_of last) x → Contains (quads_of old) x
    to x c =
        let of = from_map (to_be_bytes w32) x last (in_contained x (quads_of last) c) in
        subst (Contains (quads_of old)) of.holds
        (contains_in (to_be_bytes w32 of.item) (quads_of old) (in_map (to_be_bytes w32) of.item old (in_contained of.item old (down of.item (contains_in of.item last of.there)))))

    from : (x : List ℕ) → Contains (quads_of old) x → Contains (quads_of last) x
    from x c =
        let of = from_map (to_be_bytes w32) x old (in_contained x (quads_of old) c) in
        subst (Contains (quads_of last)) of.holds
        (contains_in (to_be_bytes w32 of.item) (quads_of last) (in_map (to_be_bytes w32) of.item last (in_contained of.item last (back of.item (contains_in of.item old of.there)))))

-- ---- members

abbrev pub has_number : List ℕ → ℕ → Bool
has_number numbers number = list_any (λ other. other == number) numbers

same_test : (a b : Bool) → (a ≡ true → b ≡ true) → (b ≡ true → a ≡ true) → a ≡ b
same_test true b to from = sym (to refl)
same_test false true to from = from refl
same_test false false to from = refl

one_test : (m n : ℕ) → m < 2 ^ 32 → n < 2 ^ 32 → bytes_eq (to_be_bytes w32 m) (to_be_bytes w32 n) ≡ (m == n)
one_test m n small fits =
    same_test (bytes_eq (to_be_bytes w32 m) (to_be_bytes w32 n)) (m == n)
    (λ h. eq-eqb m n (same_number m n small fits (same_bytes (to_be_bytes w32 m) (to_be_bytes w32 n) h)))
    (λ h. ap (λ k. bytes_eq (to_be_bytes w32 k) (to_be_bytes w32 n)) (eqb-true m n h) ∙ bytes_are_same (to_be_bytes w32 n))

pub has_quad : (numbers : List ℕ) (n : ℕ) → AreSmall numbers → n < 2 ^ 32 → has_member (quads_of numbers) (to_be_bytes w32 n) ≡ has_number numbers n
has_quad [] n small fits = refl
has_quad (m ∷ ms) n small fits =
    ap (λ (b : Bool). b || has_member (quads_of ms) (to_be_bytes w32 n)) (one_test m n (small zero) fits) ∙ ap (λ (b : Bool). (m == n) || b) (has_quad ms n (λ i. small (suc i)) fits)
