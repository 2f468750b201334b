-- The order of byte strings of four bytes is the order of their big-endian numbers.
use Rattle.std.proofs.Common.{◌≡◌, ℕ, ◌+◌, ◌*◌, ◌<◌, List, [], ◌∷◌, length, IsTrue, nat_lt, refl, sym, ap, ◌∙◌, arith}
use Rattle.std.specs.Prelude.{◌↔◌}
use Rattle.std.specs.declared.cmp.Ordering.{Ordering}
use Rattle.std.specs.declared.cmp.Ordering.TheVariants.{Less, Equal, Greater}
use Rattle.std.specs.Int.{w32, from_be_bytes}
use Rattle.std.specs.List.{All}
use Rattle.std.specs.Ordering.{nat_cmp, ordering_then}
use Rattle.std.proofs.lemmas.Bool.Decides.{nat_tests}
use Rattle.std.proofs.lemmas.List.Elements.{All-head, All-tail}
use Rattle.sb_model.specs.Prefixes.{bytes_cmp}

-- one byte more: numbers are compared by what stood before, and then by the byte
nat_cmp-more : (x y a b : ℕ) → a < 256 → b < 256 → nat_cmp (x * 256 + a) (y * 256 + b) ≡ ordering_then (nat_cmp x y) (nat_cmp a b)
nat_cmp-more x y a b below_a below_b = grind (arith, nat_tests)

-- the number of a string of bytes, behind what stood in front
big : ℕ → List ℕ → ℕ
big front [] = front
big front (x ∷ xs) = big (front * 256 + x) xs

then_equal : (o : Ordering) → o ≡ ordering_then o Equal
then_equal Less = refl
then_equal Equal = refl
then_equal Greater = refl

then_assoc : (p q r : Ordering) → ordering_then (ordering_then p q) r ≡ ordering_then p (ordering_then q r)
then_assoc Less q r = refl
then_assoc Equal q r = refl
then_assoc Greater q r = refl

big_compare : (m n : ℕ) (xs ys : List ℕ) → length xs ≡ length ys → All (λ byte. byte < 256) xs → All (λ byte. byte < 256) ys
    → nat_cmp (big m xs) (big n ys) ≡ ordering_then (nat_cmp m n) (bytes_cmp xs ys)
unfolding big
big_compare m n [] [] long bytes_x bytes_y = then_equal (nat_cmp m n)
big_compare m n [] (y ∷ ys) long bytes_x bytes_y = absurd (omega arith)
big_compare m n (x ∷ xs) [] long bytes_x bytes_y = absurd (omega arith)
big_compare m n (x ∷ xs) (y ∷ ys) long bytes_x bytes_y =
    big_compare (m * 256 + x) (n * 256 + y) xs ys (omega arith) (All-tail (λ byte. byte < 256) x xs bytes_x) (All-tail (λ byte. byte < 256) y ys bytes_y)
    ∙ ap (λ (o : Ordering). ordering_then o (bytes_cmp xs ys))
    (nat_cmp-more m n x y (All-head (λ byte. byte < 256) x xs bytes_x) (All-head (λ byte. byte < 256) y ys bytes_y))
    ∙ then_assoc (nat_cmp m n) (nat_cmp x y) (bytes_cmp xs ys)

big_is : (xs : List ℕ) → length xs ≡ 4 → from_be_bytes w32 xs ≡ big 0 xs
unfolding big
big_is [] long = absurd (omega arith)
big_is (a ∷ []) long = absurd (omega arith)
big_is (a ∷ b ∷ []) long = absurd (omega arith)
big_is (a ∷ b ∷ c ∷ []) long = absurd (omega arith)
big_is (a ∷ b ∷ c ∷ d ∷ []) long = omega arith
big_is (a ∷ b ∷ c ∷ d ∷ e ∷ xs) long = absurd (omega arith)

-- strings of four bytes are compared by their numbers
pub quads_compare : (xs ys : List ℕ) → length xs ≡ 4 → length ys ≡ 4 → All (λ byte. byte < 256) xs → All (λ byte. byte < 256) ys
    → nat_cmp (from_be_bytes w32 xs) (from_be_bytes w32 ys) ≡ bytes_cmp xs ys
quads_compare xs ys long_x long_y bytes_x bytes_y =
    (λ i. nat_cmp (big_is xs long_x i) (big_is ys long_y i)) ∙ big_compare 0 0 xs ys (long_x ∙ sym long_y) bytes_x bytes_y

less_from_lt : (m n : ℕ) → IsTrue (nat_lt m n) → nat_cmp m n ≡ Less
less_from_lt m n h = grind (arith, nat_tests)

lt_from_less : (m n : ℕ) → nat_cmp m n ≡ Less → IsTrue (nat_lt m n)
lt_from_less m n h = grind (arith, nat_tests)

pub before_by_numbers : (xs ys : List ℕ) → length xs ≡ 4 → length ys ≡ 4 → All (λ byte. byte < 256) xs → All (λ byte. byte < 256) ys
    → IsTrue (nat_lt (from_be_bytes w32 xs) (from_be_bytes w32 ys)) ↔ (bytes_cmp xs ys ≡ Less)
before_by_numbers xs ys long_x long_y bytes_x bytes_y =
    let same : nat_cmp (from_be_bytes w32 xs) (from_be_bytes w32 ys) ≡ bytes_cmp xs ys = quads_compare xs ys long_x long_y bytes_x bytes_y in
    (λ h. sym same ∙ less_from_lt (from_be_bytes w32 xs) (from_be_bytes w32 ys) h, λ h. lt_from_less (from_be_bytes w32 xs) (from_be_bytes w32 ys) (same ∙ h))
