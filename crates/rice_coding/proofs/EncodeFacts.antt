-- The differences of rising numbers, and how many bits their codes take.
use Rattle.std.proofs.Common.{◌≡◌, ◌⊎◌, inl, inr, ℕ, zero, suc, ◌+◌, ◌-◌, ◌*◌, ◌/◌, ◌^◌, ◌<◌, ◌≤◌, Bool, true, false, List, [], ◌∷◌, ◌++◌, length, get_or, drop, replicate, refl, sym, ap, ◌∙◌, subst, None, take, arith, add-one, cond, nat_le}
use Rattle.std.proofs.lemmas.Bool.{cases_lt, cases_eq}
use Rattle.std.proofs.lemmas.Bool.Decides.{nat_tests}
use Rattle.std.proofs.lemmas.Nat.{shr-shr}
use Rattle.std.proofs.lemmas.List.{at_drop_more, length-append, length-replicate, append_cancel_left, take_all}
use Rattle.std.specs.List.{AllByRecursion}
use Rattle.std.specs.List.Sorted.{IsStrictlyIncreasing}
use Rattle.rice_coding.specs.declared.record.RiceRecord.{RiceRecord}
use Rattle.rice_coding.specs.Bits.{low_bits, bits_of, packed}
use Rattle.rice_coding.specs.Encoding.{parameter_for, encoding_of, StandsForOnly, HasBestParameter, HasZerosAfter}
use Rattle.rice_coding.specs.Rice.{BeginsWith, AreInRange, HasParameter, IsRiceRecordOf}
use Rattle.rice_coding.proofs.ReadingFacts.{reading_only}
use Rattle.rice_coding.specs.Codes.{code, codes, coded_length, differences, running_sums, place_of_least, best_parameter, HasFewestBits}
use Rattle.rice_coding.proofs.BitFacts.{length-low_bits}
use Rattle.rice_coding.proofs.PackFacts.{free_bits, free_few, bits_of-packed}

pub length-code : (parameter delta : ℕ) → length (code parameter delta) ≡ delta / 2 ^ parameter + parameter + 1
unfolding code
length-code parameter delta =
    omega (arith, length-append (replicate (delta / 2 ^ parameter) true) (false ∷ low_bits parameter delta), length-replicate (delta / 2 ^ parameter) true, length-low_bits parameter delta)

pub coded_length-more : (parameter delta : ℕ) (deltas : List ℕ) → coded_length parameter (delta ∷ deltas) ≡ delta / 2 ^ parameter + parameter + 1 + coded_length parameter deltas
coded_length-more parameter delta deltas = omega (arith, length-append (code parameter delta) (codes parameter deltas), length-code parameter delta)

-- ---- the number of bits is convex in the parameter
coded_length-convex : (k : ℕ) (deltas : List ℕ) → 2 * coded_length (k + 1) deltas ≤ coded_length k deltas + coded_length (k + 2) deltas
coded_length-convex k [] = omega arith
coded_length-convex k (delta ∷ deltas) =
    omega (arith, coded_length-convex k deltas, coded_length-more k delta deltas, coded_length-more (k + 1) delta deltas, coded_length-more (k + 2) delta deltas, shr-shr delta k 1)

coded_length-rises : (k j : ℕ) (deltas : List ℕ) → coded_length k deltas ≤ coded_length (k + 1) deltas → coded_length (k + j) deltas ≤ coded_length (k + j + 1) deltas
coded_length-rises k zero deltas here = let e : k + zero ≡ k = omega arith in rw e here
coded_length-rises k (suc j) deltas here =
    let e : k + suc j ≡ k + j + 1 = omega arith in
    let f : k + j + 1 + 1 ≡ k + j + 2 = omega arith in
    rw (e, f) (omega (arith, coded_length-rises k j deltas here, coded_length-convex (k + j) deltas))

coded_length-above : (k j : ℕ) (deltas : List ℕ) → coded_length k deltas ≤ coded_length (k + 1) deltas → coded_length k deltas ≤ coded_length (k + j) deltas
coded_length-above k zero deltas here = let e : k + zero ≡ k = omega arith in rw e (omega arith)
coded_length-above k (suc j) deltas here =
    let e : k + suc j ≡ k + j + 1 = omega arith in
    rw e (omega (arith, coded_length-above k j deltas here, coded_length-rises k j deltas here))

coded_length-below : (k j m : ℕ) (deltas : List ℕ) → m ≡ k + j → coded_length (m + 1) deltas < coded_length m deltas → coded_length (m + 1) deltas < coded_length k deltas
coded_length-below k zero m deltas is falls =
    let same : m ≡ k = omega arith in
    omega (arith, falls, ap (λ (n : ℕ). coded_length n deltas) same)
coded_length-below k (suc j) m deltas is falls =
    let last = m - 1 in
    let next : last + 1 ≡ m = omega arith in
    let after : last + 2 ≡ m + 1 = omega arith in
    let a = ap (λ (n : ℕ). coded_length n deltas) next in
    let b = ap (λ (n : ℕ). coded_length n deltas) after in
    let before : coded_length (last + 1) deltas < coded_length last deltas = omega (arith, a, b, falls, coded_length-convex last deltas) in
    omega (arith, a, falls, coded_length-below k j last deltas (omega arith) before)

-- A parameter is the best where the one below it takes more bits, and the one above it no fewer.
pub fewest_here : (k : ℕ) (deltas : List ℕ) → 2 ≤ k → k ≤ 28 → (2 < k → coded_length k deltas < coded_length (k - 1) deltas)
    → (k < 28 → coded_length k deltas ≤ coded_length (k + 1) deltas) → HasFewestBits deltas k
fewest_here k deltas from to below above = record {
  from = from;
  to = to;
  fewest = λ other low high. elim (cases_lt other k) [
    | inl less ↦ (let h : coded_length k deltas < coded_length other deltas = falls other low less in omega arith)
    | inr more ↦ elim (cases_lt k 28) [
      | inl inside ↦
          let e : k + (other - k) ≡ other = omega arith in
          let P : ℕ → Type 0 = λ n. coded_length k deltas ≤ coded_length n deltas in
          subst P e (coded_length-above k (other - k) deltas (above inside))
      | inr last ↦ (let e : other ≡ k = omega arith in omega (arith, ap (λ (n : ℕ). coded_length n deltas) e))
    ]
  ];
  least = falls;
} where
  falls : (other : ℕ) → 2 ≤ other → other < k → coded_length k deltas < coded_length other deltas
  falls other low less =
      let m = k - 1 in
      let here : m + 1 ≡ k = omega arith in
      let P : ℕ → ℕ → Type 0 = λ n o. coded_length n deltas < coded_length o deltas in
      let step : coded_length (m + 1) deltas < coded_length m deltas = subst (λ n. P n m) (sym here) (below (omega arith)) in
      subst (λ n. P n other) here (coded_length-below other (m - other) m deltas (omega arith) step)

-- ---- the best parameter, and the only one
abbrev IsLeastPlace : (ℕ → ℕ) → ℕ → ℕ → ℕ → Type 0
IsLeastPlace f at more place =
    (at ≤ place) × (place ≤ at + more) × ((other : ℕ) → at ≤ other → other ≤ at + more → f place ≤ f other) × ((other : ℕ) → at ≤ other → other < place → f place < f other)

least_step : (f : ℕ → ℕ) (at more later : ℕ) (test : Bool) → nat_le (f at) (f later) ≡ test → IsLeastPlace f (at + 1) more later → IsLeastPlace f at (suc more) (cond test at later)
least_step f at more later true is known =
    let here : f at ≤ f later = grind (arith, nat_tests) in (
      omega arith,
      omega arith,
      λ other low high. elim (cases_eq other at) [
        | inl same ↦ omega (arith, ap f same)
        | inr apart ↦ (let there : f later ≤ f other = known.2 other (omega arith) (omega arith) in omega arith)
      ],
      λ other low below. absurd (omega arith),
    )
least_step f at more later false is known =
    let less : f later < f at = grind (arith, nat_tests) in (
      omega (arith, known.0),
      omega (arith, known.1),
      λ other low high. elim (cases_eq other at) [
        | inl same ↦ omega (arith, ap f same)
        | inr apart ↦ known.2 other (omega arith) (omega arith)
      ],
      λ other low below. elim (cases_eq other at) [
        | inl same ↦ omega (arith, ap f same)
        | inr apart ↦ known.3 other (omega arith) below
      ],
    )

least_is : (f : ℕ → ℕ) (at more : ℕ) → IsLeastPlace f at more (place_of_least f at more)
least_is f at zero = (
  omega arith,
  omega arith,
  λ other low high. (let same : other ≡ at = omega arith in omega (arith, ap f same)),
  λ other low below. absurd (omega arith),
)
least_is f at (suc more) =
    let later = place_of_least f (at + 1) more in
    least_step f at more later (nat_le (f at) (f later)) refl (least_is f (at + 1) more)

pub best_parameter_is_best : (deltas : List ℕ) → HasFewestBits deltas (best_parameter deltas)
unfolding best_parameter
best_parameter_is_best deltas =
    let known = least_is (λ parameter. coded_length parameter deltas) 2 26 in
    record { from = known.0; to = known.1; fewest = known.2; least = known.3 }

pub fewest_is_best : (deltas : List ℕ) (k : ℕ) → HasFewestBits deltas k → k ≡ best_parameter deltas
fewest_is_best deltas k is =
    let best = best_parameter deltas in
    let known = best_parameter_is_best deltas in
    elim (cases_lt k best) [
      | inl below ↦ absurd (let a : coded_length best deltas < coded_length k deltas = known.least k is.from below in let b = is.fewest best known.from known.to in omega arith)
      | inr above ↦ elim (cases_lt best k) [
        | inl over ↦ absurd (let a : coded_length k deltas < coded_length best deltas = is.least best known.from over in let b = known.fewest k is.from is.to in omega arith)
        | inr equal ↦ omega arith
      ]
    ]

-- one difference more
pub differences-drop : (previous i : ℕ) (rest : List ℕ) → i < length rest → differences previous (drop i rest) ≡ (get_or rest i 0 - previous) ∷ differences (get_or rest i 0) (drop (i + 1) rest)
differences-drop previous i rest within = at_drop_more (differences previous) rest i 0 within

pub get_or-next : (first i : ℕ) (rest : List ℕ) → get_or rest i 0 ≡ get_or (first ∷ rest) (i + 1) 0
get_or-next first i rest = rw add-one refl

-- ---- the record of numbers that rise
rising_rest : (x : ℕ) (xs : List ℕ) → IsStrictlyIncreasing (x ∷ xs) → IsStrictlyIncreasing xs
rising_rest x xs rises = λ k below.
    let e : suc k + 1 ≡ suc (k + 1) = omega arith in
    let P : ℕ → Type 0 = λ n. get_or xs k 0 < get_or (x ∷ xs) n 0 in
    subst P e (rises (suc k) (omega arith))

-- numbers that rise are the sums of their differences
pub sums_of_differences : (first : ℕ) (rest : List ℕ) → IsStrictlyIncreasing (first ∷ rest) → rest ≡ running_sums first (differences first rest)
sums_of_differences first [] rises = refl
sums_of_differences first (value ∷ rest) rises =
    let above : first < value = rises 0 (omega arith) in
    let sum : first + (value - first) ≡ value = omega arith in
    let later : rest ≡ running_sums value (differences value rest) = sums_of_differences value rest (rising_rest first (value ∷ rest) rises) in
    ap (λ (values : List ℕ). value ∷ values) later ∙ ap (λ (n : ℕ). n ∷ running_sums n (differences value rest)) (sym sum)

pub differences_of_sums : (first : ℕ) (deltas : List ℕ) → differences first (running_sums first deltas) ≡ deltas
differences_of_sums first [] = refl
differences_of_sums first (delta ∷ deltas) =
    let d : first + delta - first ≡ delta = omega arith in
    ap (λ (n : ℕ). n ∷ differences (first + delta) (running_sums (first + delta) deltas)) d ∙ ap (λ (deltas : List ℕ). delta ∷ deltas) (differences_of_sums (first + delta) deltas)

pub in_range : (values : List ℕ) → ((i : ℕ) → get_or values i 0 < 2 ^ 32) → AreInRange values
in_range [] fits = tt
in_range (value ∷ values) fits = (fits 0, in_range values (λ i. fits (suc i)))

-- What is known of a record that was made of a number and those after it.
pub record IsMade (r : RiceRecord) (rest : List ℕ) : Type 0 where
  pub rising : IsStrictlyIncreasing (r.first ∷ rest)
  pub fits : AreInRange (r.first ∷ rest)
  pub allowed : HasParameter r
  pub count : r.count ≡ length rest
  pub free : ℕ
  pub free_few : free < 8
  pub coded : bits_of r.coded ≡ codes r.parameter (differences r.first rest) ++ replicate free false

made_front : (r : RiceRecord) (rest : List ℕ) (m : IsMade r rest) → BeginsWith r (r.first ∷ rest) (replicate m.free false)
made_front r rest m = record {
  deltas = differences r.first rest;
  sums = ap (λ (values : List ℕ). r.first ∷ values) (sums_of_differences r.first rest m.rising);
  bits = m.coded;
}

pub made_stands : (r : RiceRecord) (rest : List ℕ) → IsMade r rest → IsRiceRecordOf r (r.first ∷ rest)
made_stands r rest m = record {
  parameter = m.allowed;
  count = omega (arith, m.count);
  range = m.fits;
  left = replicate m.free false;
  bits = made_front r rest m;
  free = omega (arith, length-replicate m.free false, m.free_few);
}

pub made_alone : (r : RiceRecord) (rest : List ℕ) → IsMade r rest → StandsForOnly r (r.first ∷ rest)
made_alone r rest m = λ others is.
    (reading_only r m.fits.0 others None is).0 ∙ sym (reading_only r m.fits.0 (r.first ∷ rest) None (made_stands r rest m)).0

-- the deltas by which the values follow one another are their differences
deltas_are : (first : ℕ) (rest deltas : List ℕ) → first ∷ rest ≡ first ∷ running_sums first deltas → deltas ≡ differences first rest
deltas_are first rest deltas is =
    let same : rest ≡ running_sums first deltas = cc in
    sym (differences_of_sums first deltas) ∙ ap (differences first) (sym same)

pub length-differences : (first : ℕ) (rest : List ℕ) → length (differences first rest) ≡ length rest
length-differences first [] = refl
length-differences first (value ∷ rest) = ap suc (length-differences value rest)

pub made_best : (r : RiceRecord) (rest : List ℕ) → (0 < length rest → HasFewestBits (differences r.first rest) r.parameter) → HasBestParameter r (r.first ∷ rest)
made_best r rest best = λ deltas is some.
    let same : deltas ≡ differences r.first rest = deltas_are r.first rest deltas is in
    let P : List ℕ → Type 0 = λ deltas. HasFewestBits deltas r.parameter in
    subst P (sym same) (best (omega (arith, ap length same, length-differences r.first rest)))

all_false : (n : ℕ) → AllByRecursion (λ bit. bit ≡ false) (replicate n false)
all_false zero = tt
all_false (suc n) = (refl, all_false n)

pub made_zeros : (r : RiceRecord) (rest : List ℕ) → IsMade r rest → HasZerosAfter r (r.first ∷ rest)
made_zeros r rest m = λ left front.
    let same : front.deltas ≡ differences r.first rest = deltas_are r.first rest front.deltas front.sums in
    let both : codes r.parameter (differences r.first rest) ++ left ≡ codes r.parameter (differences r.first rest) ++ replicate m.free false =
    ap (λ (deltas : List ℕ). codes r.parameter deltas ++ left) (sym same) ∙ sym front.bits ∙ m.coded in
    let zeros : left ≡ replicate m.free false = append_cancel_left (codes r.parameter (differences r.first rest)) left (replicate m.free false) both in
    let P : List Bool → Type 0 = λ bits. AllByRecursion (λ bit. bit ≡ false) bits in
    subst P (sym zeros) (all_false m.free)

-- ---- the record that encoding gives
abbrev pub record_with : ℕ → ℕ → ℕ → List ℕ → RiceRecord
record_with first parameter count coded = record { first = first; parameter = parameter; count = count; coded = coded }

pub encoding_is : (first k : ℕ) (rest coded : List ℕ) → k ≡ parameter_for (differences first rest) → coded ≡ packed (codes k (differences first rest))
    → record_with first k (length rest) coded ≡ encoding_of (first ∷ rest)
unfolding encoding_of
encoding_is first k rest coded parameter bytes =
    let deltas = differences first rest in
    ap (λ (n : ℕ). record_with first k n coded) (sym (length-differences first rest))
    ∙ ap (record_with first k (length deltas)) bytes
    ∙ ap (λ (k : ℕ). record_with first k (length deltas) (packed (codes k deltas))) parameter

pub parameter_of_some : (deltas : List ℕ) (k : ℕ) → 0 < length deltas → HasFewestBits deltas k → k ≡ parameter_for deltas
parameter_of_some [] k some best = absurd (omega arith)
parameter_of_some (delta ∷ deltas) k some best = fewest_is_best (delta ∷ deltas) k best

best_of_some : (deltas : List ℕ) → 0 < length deltas → HasFewestBits deltas (parameter_for deltas)
best_of_some [] some = absurd (omega arith)
best_of_some (delta ∷ deltas) some = best_parameter_is_best (delta ∷ deltas)

allowed_for : (deltas : List ℕ) → (length deltas ≡ 0) ⊎ ((2 ≤ parameter_for deltas) × (parameter_for deltas ≤ 28))
allowed_for [] = inl refl
allowed_for (delta ∷ deltas) = let best = best_parameter_is_best (delta ∷ deltas) in inr (best.from, best.to)

encoding_made : (first : ℕ) (rest : List ℕ) → IsStrictlyIncreasing (first ∷ rest) → AreInRange (first ∷ rest) → IsMade (encoding_of (first ∷ rest)) rest
unfolding encoding_of
encoding_made first rest rising fits =
    let deltas = differences first rest in
    let bits = codes (parameter_for deltas) deltas in
    record {
      rising = rising;
      fits = fits;
      allowed = allowed_for deltas;
      count = length-differences first rest;
      free = free_bits bits;
      free_few = free_few bits;
      coded = bits_of-packed bits;
    }

packed_none : packed [] ≡ []
unfolding packed
packed_none = refl

pub encoding_single : (first : ℕ) (coded : List ℕ) → coded ≡ [] → record_with first 0 0 coded ≡ encoding_of (first ∷ [])
unfolding encoding_of
encoding_single first coded nothing = ap (record_with first 0 0) (nothing ∙ sym packed_none)

-- what it is like
abbrev pub Laws : RiceRecord → List ℕ → Type 0
Laws r values =
    IsRiceRecordOf r values × StandsForOnly r values × HasBestParameter r values × (length values ≡ 1 → (r.parameter ≡ 0) × (r.coded ≡ [])) × HasZerosAfter r values

single_is : (first : ℕ) (rest : List ℕ) → length (first ∷ rest) ≡ 1 → ((encoding_of (first ∷ rest)).parameter ≡ 0) × ((encoding_of (first ∷ rest)).coded ≡ [])
unfolding encoding_of
single_is first [] one = (refl, packed_none)
single_is first (value ∷ rest) one = absurd (omega arith)

pub encoding_laws : (values : List ℕ) → 0 < length values → IsStrictlyIncreasing values → AreInRange values → Laws (encoding_of values) values
unfolding encoding_of
encoding_laws [] some rising fits = absurd (omega arith)
encoding_laws (first ∷ rest) some rising fits =
    let r = encoding_of (first ∷ rest) in
    let made = encoding_made first rest rising fits in
    let deltas = differences first rest in (
      made_stands r rest made,
      made_alone r rest made,
      made_best r rest (λ more. best_of_some deltas (omega (arith, length-differences first rest))),
      single_is first rest,
      made_zeros r rest made,
    )

-- the first number and those after it
pub first_and_rest : (values : List ℕ) → 0 < length values → get_or values 0 0 ∷ take (length values - 1) (drop 1 values) ≡ values
first_and_rest [] some = absurd (omega arith)
first_and_rest (value ∷ values) some = ap (λ (rest : List ℕ). value ∷ rest) (take_all (suc (length values) - 1) values (omega arith))
