-- Prefixes of four bytes have the order of their big-endian numbers.
use Rattle.std.proofs.Common.{◌≡◌, ℕ, ◌+◌, ◌*◌, ◌^◌, ◌<◌, List, [], ◌∷◌, length, refl, sym, ap, ◌∙◌, arith}
use Rattle.std.specs.declared.cmp.Ordering.{Ordering}
use Rattle.std.specs.declared.cmp.Ordering.TheVariants.{Less, Equal, Greater}
use Rattle.std.specs.Int.{w32, from_be_bytes, to_be_bytes}
use Rattle.std.specs.List.{AllByRecursion}
use Rattle.std.specs.Ordering.{nat_cmp, ordering_then}
use Rattle.std.proofs.lemmas.Bool.Decides.{nat_tests}
use Rattle.std.proofs.lemmas.Nat.{from_be_bytes-to_be_bytes_4}
use Rattle.sb_model.specs.Prefixes.{bytes_cmp}

-- one byte more: numbers are compared by what stood before, and then by the byte
nat_cmp-more : (x y a b : ℕ) → a < 256 → b < 256 → nat_cmp (x * 256 + a) (y * 256 + b) ≡ ordering_then (nat_cmp x y) (nat_cmp a b)
nat_cmp-more x y a b below_a below_b = grind (arith, nat_tests)

-- the number of a string of bytes, behind what stood in front
big : ℕ → List ℕ → ℕ
big front [] = front
big front (x ∷ xs) = big (front * 256 + x) xs

then_equal : (o : Ordering) → o ≡ ordering_then o Equal
then_equal Less = refl
then_equal Equal = refl
then_equal Greater = refl

then_assoc : (p q r : Ordering) → ordering_then (ordering_then p q) r ≡ ordering_then p (ordering_then q r)
then_assoc Less q r = refl
then_assoc Equal q r = refl
then_assoc Greater q r = refl

abbrev AreBytes : List ℕ → Type 0
AreBytes = AllByRecursion (λ byte. byte < 256)

big_compare : (m n : ℕ) (xs ys : List ℕ) → length xs ≡ length ys → AreBytes xs → AreBytes ys
    → nat_cmp (big m xs) (big n ys) ≡ ordering_then (nat_cmp m n) (bytes_cmp xs ys)
unfolding big
big_compare m n [] [] long bytes_x bytes_y = then_equal (nat_cmp m n)
big_compare m n [] (y ∷ ys) long bytes_x bytes_y = absurd (omega arith)
big_compare m n (x ∷ xs) [] long bytes_x bytes_y = absurd (omega arith)
big_compare m n (x ∷ xs) (y ∷ ys) long bytes_x bytes_y =
    big_compare (m * 256 + x) (n * 256 + y) xs ys (omega arith) bytes_x.1 bytes_y.1
    ∙ ap (λ (o : Ordering). ordering_then o (bytes_cmp xs ys)) (nat_cmp-more m n x y bytes_x.0 bytes_y.0)
    ∙ then_assoc (nat_cmp m n) (nat_cmp x y) (bytes_cmp xs ys)

big_is : (a b c d : ℕ) → from_be_bytes w32 (a ∷ b ∷ c ∷ d ∷ []) ≡ big 0 (a ∷ b ∷ c ∷ d ∷ [])
unfolding big
big_is a b c d = omega arith

quad_is : (n : ℕ) → n < 2 ^ 32 → n ≡ big 0 (to_be_bytes w32 n)
quad_is n fits = sym (from_be_bytes-to_be_bytes_4 n fits) ∙ big_is _ _ _ _

are_bytes : (n : ℕ) → AreBytes (to_be_bytes w32 n)
are_bytes n = (omega arith, (omega arith, (omega arith, (omega arith, tt))))

less_from_lt : (m n : ℕ) → m < n → nat_cmp m n ≡ Less
less_from_lt m n h = grind (arith, nat_tests)

pub quads_rise : (m n : ℕ) → m < n → n < 2 ^ 32 → bytes_cmp (to_be_bytes w32 m) (to_be_bytes w32 n) ≡ Less
quads_rise m n less fits =
    sym (big_compare 0 0 (to_be_bytes w32 m) (to_be_bytes w32 n) refl (are_bytes m) (are_bytes n))
    ∙ ap (λ k. nat_cmp k (big 0 (to_be_bytes w32 n))) (sym (quad_is m (omega arith)))
    ∙ ap (λ k. nat_cmp m k) (sym (quad_is n fits))
    ∙ less_from_lt m n less
