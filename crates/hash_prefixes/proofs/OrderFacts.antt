-- The order of byte strings goes by their first four bytes as a big-endian number, and then by the rest.
use Rattle.std.proofs.Common.{◌≡◌, ℕ, ◌+◌, ◌*◌, ◌<◌, ◌≤◌, List, [], ◌∷◌, length, take, drop, slice_index, inl, inr, refl, sym, ap, subst, ◌∙◌, arith}
use Rattle.std.specs.declared.cmp.Ordering.{Ordering}
use Rattle.std.specs.declared.cmp.Ordering.TheVariants.{Less, Equal, Greater}
use Rattle.std.specs.Int.{w32, from_be_bytes}
use Rattle.std.specs.Ordering.{nat_cmp, ordering_then}
use Rattle.std.specs.Cmp.Lexicographic.{slice_cmp}
use Rattle.hex.specs.Hex.{IsBytes}
use Rattle.std.proofs.lemmas.Bool.{cases_lt}
use Rattle.std.proofs.lemmas.Bool.Decides.{nat_tests}
use Rattle.std.proofs.lemmas.List.{get_or-take, get_or_past, length-take}
use Rattle.std.proofs.Math.Nat.{mul-le-mul_right}

nat_cmp-below : (m n : ℕ) → m < n → nat_cmp m n ≡ Less
nat_cmp-below m n h = grind (arith, nat_tests)

nat_cmp-above : (m n : ℕ) → n < m → nat_cmp m n ≡ Greater
nat_cmp-above m n h = grind (arith, nat_tests)

nat_cmp-same : (m n : ℕ) → m ≡ n → nat_cmp m n ≡ Equal
nat_cmp-same m n h = grind (arith, nat_tests)

-- a digit below the base does not make up for a higher digit
below_by_digit : (base x y a b : ℕ) → x < y → a < base → x * base + a < y * base + b
below_by_digit base x y a b h ha =
    omega (arith, mul-le-mul_right base h)

-- a number of two digits is compared by the first digit, and then by the second
pub nat_cmp-two_digits : (base x y a b : ℕ) → a < base → b < base
    → nat_cmp (x * base + a) (y * base + b) ≡ ordering_then (nat_cmp x y) (nat_cmp a b)
nat_cmp-two_digits base x y a b ha hb =
    elim (cases_lt x y) [
      | inl lt ↦
          rw (nat_cmp-below x y lt) (nat_cmp-below (x * base + a) (y * base + b) (below_by_digit base x y a b lt ha))
      | inr ge ↦
          elim (cases_lt y x) [
            | inl gt ↦
                rw (nat_cmp-above x y gt) (nat_cmp-above (x * base + a) (y * base + b) (below_by_digit base y x b a gt hb))
            | inr le ↦
                let same : y ≡ x = omega arith in
                rw (same, nat_cmp-same x x refl) (
                elim (cases_lt a b) [
                  | inl lt ↦ rw (nat_cmp-below a b lt) (nat_cmp-below (x * base + a) (x * base + b) (omega arith))
                  | inr upper ↦
                      elim (cases_lt b a) [
                        | inl gt ↦ rw (nat_cmp-above a b gt) (nat_cmp-above (x * base + a) (x * base + b) (omega arith))
                        | inr lower ↦
                            let even : b ≡ a = omega arith in
                            rw (even, nat_cmp-same a a refl) (nat_cmp-same (x * base + a) (x * base + a) refl)
                      ]
                ]
                )
          ]
    ]

-- the first four bytes as a big-endian number
from_be_bytes-digits : (xs : List ℕ) → from_be_bytes w32 xs
    ≡ ((slice_index xs 0 * 256 + slice_index xs 1) * 256 + slice_index xs 2) * 256 + slice_index xs 3
from_be_bytes-digits xs = omega arith

ordering_then-assoc : (p q r : Ordering) → ordering_then p (ordering_then q r) ≡ ordering_then (ordering_then p q) r
ordering_then-assoc Less q r = refl
ordering_then-assoc Equal q r = refl
ordering_then-assoc Greater q r = refl

-- byte strings are compared by their first four bytes as a big-endian number, and then by the rest
slice_cmp-leading : (xs ys : List ℕ) → 4 ≤ length xs → 4 ≤ length ys → IsBytes xs → IsBytes ys → slice_cmp nat_cmp xs ys
    ≡ ordering_then (nat_cmp (from_be_bytes w32 xs) (from_be_bytes w32 ys)) (slice_cmp nat_cmp (drop 4 xs) (drop 4 ys))
slice_cmp-leading [] ys hx hy bx by = absurd (omega arith)
slice_cmp-leading (a ∷ []) ys hx hy bx by = absurd (omega arith)
slice_cmp-leading (a ∷ b ∷ []) ys hx hy bx by = absurd (omega arith)
slice_cmp-leading (a ∷ b ∷ c ∷ []) ys hx hy bx by = absurd (omega arith)
slice_cmp-leading xs [] hx hy bx by = absurd (omega arith)
slice_cmp-leading xs (e ∷ []) hx hy bx by = absurd (omega arith)
slice_cmp-leading xs (e ∷ f ∷ []) hx hy bx by = absurd (omega arith)
slice_cmp-leading xs (e ∷ f ∷ g ∷ []) hx hy bx by = absurd (omega arith)
slice_cmp-leading (a ∷ b ∷ c ∷ d ∷ xs) (e ∷ f ∷ g ∷ h ∷ ys) hx hy bx by =
    let digits = nat_cmp-two_digits 256 ((a * 256 + b) * 256 + c) ((e * 256 + f) * 256 + g) d h (bx 3) (by 3)
    ∙ ap (λ (o : Ordering). ordering_then o (nat_cmp d h)) (nat_cmp-two_digits 256 (a * 256 + b) (e * 256 + f) c g (bx 2) (by 2)
    ∙ ap (λ (o : Ordering). ordering_then o (nat_cmp c g)) (nat_cmp-two_digits 256 a e b f (bx 1) (by 1))) in
    rw (from_be_bytes-digits (a ∷ b ∷ c ∷ d ∷ xs), from_be_bytes-digits (e ∷ f ∷ g ∷ h ∷ ys), digits)
    (ordering_then-assoc (nat_cmp a e) (nat_cmp b f) _ ∙ ordering_then-assoc (ordering_then (nat_cmp a e) (nat_cmp b f)) (nat_cmp c g) _
    ∙ ordering_then-assoc (ordering_then (ordering_then (nat_cmp a e) (nat_cmp b f)) (nat_cmp c g)) (nat_cmp d h) _)

-- the first four bytes are those of the whole array
from_be_bytes-take : (n : ℕ) (xs : List ℕ) → 4 ≤ n → from_be_bytes w32 (take n xs) ≡ from_be_bytes w32 xs
from_be_bytes-take n xs h =
    rw (get_or-take n xs 0 0 (omega arith), get_or-take n xs 1 0 (omega arith), get_or-take n xs 2 0 (omega arith), get_or-take n xs 3 0 (omega arith)) refl

IsBytes-take : (n : ℕ) (xs : List ℕ) → IsBytes xs → IsBytes (take n xs)
IsBytes-take n xs bytes i =
    elim (cases_lt i n) [
      | inl below ↦ rw (get_or-take n xs i 0 below) (bytes i)
      | inr past ↦ rw (get_or_past (take n xs) i 0 (omega (arith, length-take n xs))) (omega arith)
    ]

-- the same at the fronts s and t of two arrays, whose first four bytes make the numbers a and b
pub slice_cmp-fronts : (m n : ℕ) (xs ys s t : List ℕ) (a b : ℕ) → 4 ≤ m → 4 ≤ n → m ≤ length xs → n ≤ length ys → IsBytes xs → IsBytes ys
    → take m xs ≡ s → take n ys ≡ t → a ≡ from_be_bytes w32 xs → b ≡ from_be_bytes w32 ys
    → slice_cmp nat_cmp s t ≡ ordering_then (nat_cmp a b) (slice_cmp nat_cmp (drop 4 s) (drop 4 t))
slice_cmp-fronts m n xs ys s t a b hm hn fm fn bx by es et ea eb =
    let long_s : 4 ≤ length s = rw (← es) (omega (arith, length-take m xs)) in
    let long_t : 4 ≤ length t = rw (← et) (omega (arith, length-take n ys)) in
    let x : from_be_bytes w32 s ≡ a = ap (from_be_bytes w32) (sym es) ∙ from_be_bytes-take m xs hm ∙ sym ea in
    let y : from_be_bytes w32 t ≡ b = ap (from_be_bytes w32) (sym et) ∙ from_be_bytes-take n ys hn ∙ sym eb in
    let bs : IsBytes s = subst IsBytes es (IsBytes-take m xs bx) in
    let bt : IsBytes t = subst IsBytes et (IsBytes-take n ys by) in
    slice_cmp-leading s t long_s long_t bs bt
    ∙ (λ i. ordering_then (nat_cmp (x i) (y i)) (slice_cmp nat_cmp (drop 4 s) (drop 4 t)))

-- an answer that is not `Equal` decides
pub ordering_then-unequal : (p q : Ordering) → (p ≡ Equal → ⊥) → ordering_then p q ≡ p
ordering_then-unequal Less q h = refl
ordering_then-unequal Equal q h = absurd (h refl)
ordering_then-unequal Greater q h = refl
