-- One step of a reading.
use Rattle.std.proofs.Common.{◌≡◌, ◌≢◌, ℕ, zero, suc, ◌+◌, ◌-◌, ◌^◌, ◌<◌, ◌≤◌, min, Bool, true, false, cond, eqb, ltb, List, [], ◌∷◌, ◌++◌, length, Some, None, refl, sym, ap, ◌∙◌, arith}
use Rattle.std.proofs.lemmas.Bool.Decides.{nat_tests}
use Rattle.std.proofs.lemmas.List.{append_assoc}
use Rattle.rice_coding.specs.declared.fault.RiceFault.TheVariants.{Ended, Range, LeftOver}
use Rattle.rice_coding.specs.Reading.{Reading, delta_at, reading, reading_after, reading_step, with_value, stopped}

-- the first value was given
pub reading_given : (k n given v : ℕ) (bits : List Bool) → given ≢ 0 → reading_after k n given v bits ≡ reading k n given v bits
reading_given k n given v bits some =
    let test : eqb given 0 ≡ false = grind (arith, nat_tests) in
    rw test refl

pub reading_over : (k n g v bits_left : ℕ) (bits : List Bool) → n ≡ 0 → bits_left ≡ min (length bits) (2 ^ 64 - 1) → 8 ≤ bits_left → reading k n g v bits ≡ stopped (Some (LeftOver bits_left))
unfolding reading
reading_over k zero g v bits_left bits none is long =
    let test : ltb (length bits) 8 ≡ false = (let many : 8 ≤ length bits = omega arith in grind (arith, nat_tests)) in
    ap (λ (b : Bool). stopped (cond b None (Some (LeftOver (min (length bits) (2 ^ 64 - 1)))))) test ∙ ap (λ (n : ℕ). stopped (Some (LeftOver n))) (sym is)
reading_over k (suc n) g v bits_left bits none is long = absurd (omega arith)

pub reading_end : (k n g v bits_left : ℕ) (bits : List Bool) → n ≡ 0 → bits_left ≡ min (length bits) (2 ^ 64 - 1) → bits_left < 8 → reading k n g v bits ≡ stopped None
unfolding reading
reading_end k zero g v bits_left bits none is short =
    let test : ltb (length bits) 8 ≡ true = (let few : length bits < 8 = omega arith in grind (arith, nat_tests)) in
    ap (λ (b : Bool). stopped (cond b None (Some (LeftOver (min (length bits) (2 ^ 64 - 1)))))) test
reading_end k (suc n) g v bits_left bits none is short = absurd (omega arith)

pub reading_ended : (k n g v : ℕ) (bits : List Bool) → n ≢ 0 → delta_at k bits ≡ None → reading k n g v bits ≡ stopped (Some (Ended g))
unfolding reading
reading_ended k zero g v bits some none = absurd (some refl)
reading_ended k (suc n) g v bits some none = ap (reading_step (reading k n (g + 1)) g v) none

pub reading_beyond : (k n g v d : ℕ) (bits rest : List Bool) → n ≢ 0 → delta_at k bits ≡ Some (d, rest) → 2 ^ 32 ≤ v + d → reading k n g v bits ≡ stopped (Some (Range g))
unfolding reading
reading_beyond k zero g v d bits rest some is beyond = absurd (some refl)
reading_beyond k (suc n) g v d bits rest some is beyond =
    let test : ltb (v + d) (2 ^ 32) ≡ false = grind (arith, nat_tests) in
    ap (reading_step (reading k n (g + 1)) g v) is
    ∙ ap (λ (b : Bool). cond b (with_value (v + d) (reading k n (g + 1) (v + d) rest)) (stopped (Some (Range g)))) test

pub reading_value : (k n g v d w : ℕ) (bits rest : List Bool) → n ≢ 0 → delta_at k bits ≡ Some (d, rest) → w ≡ v + d → w < 2 ^ 32
    → reading k n g v bits ≡ with_value w (reading_after k (n - 1) (g + 1) w rest)
unfolding reading
reading_value k zero g v d w bits rest some is sum below = absurd (some refl)
reading_value k (suc n) g v d w bits rest some is sum below =
    let test : ltb (v + d) (2 ^ 32) ≡ true = (let within : v + d < 2 ^ 32 = omega arith in grind (arith, nat_tests)) in
    let less : suc n - 1 ≡ n = omega arith in
    let given : g + 1 ≢ 0 = omega arith in
    ap (reading_step (reading k n (g + 1)) g v) is
    ∙ ap (λ (b : Bool). cond b (with_value (v + d) (reading k n (g + 1) (v + d) rest)) (stopped (Some (Range g)))) test
    ∙ ap (λ (u : ℕ). with_value u (reading k n (g + 1) u rest)) (sym sum)
    ∙ ap (with_value w) (ap (λ (m : ℕ). reading k m (g + 1) w rest) (sym less) ∙ sym (reading_given k (suc n - 1) (g + 1) w rest given))

-- a number more was read, and appended to the others
pub read_on : (k n m g h v d w : ℕ) (bits rest : List Bool) (old now next : List ℕ) (whole : Reading) → 0 < n → m + 1 ≡ n → h ≡ g + 1
    → delta_at k bits ≡ Some (d, rest) → w ≡ v + d → w < 2 ^ 32 → next ≡ now ++ w ∷ []
    → now ++ (reading k n g v bits).values ≡ old ++ whole.values → (reading k n g v bits).fault ≡ whole.fault
    → (next ++ (reading k m h w rest).values ≡ old ++ whole.values) × ((reading k m h w rest).fault ≡ whole.fault)
read_on k n m g h v d w bits rest old now next whole some less later is sum below push same fault =
    let given : g + 1 ≢ 0 = omega arith in
    let size : n - 1 ≡ m = omega arith in
    let left : n ≢ 0 = omega arith in
    let step : reading k n g v bits ≡ with_value w (reading k m h w rest) =
    reading_value k n g v d w bits rest left is sum below
    ∙ ap (with_value w) (reading_given k (n - 1) (g + 1) w rest given ∙ ap (λ (n : ℕ). reading k n (g + 1) w rest) size ∙ ap (λ (g : ℕ). reading k m g w rest) (sym later)) in (
      ap (λ (next : List ℕ). next ++ (reading k m h w rest).values) push ∙ append_assoc now (w ∷ []) (reading k m h w rest).values
          ∙ ap (λ (r : Reading). now ++ r.values) (sym step) ∙ same,
      ap (λ (r : Reading). r.fault) (sym step) ∙ fault,
    )
