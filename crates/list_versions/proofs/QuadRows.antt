-- Two rising rows of numbers that are gone through once, and what each of them alone has.
use Rattle.std.proofs.Common.{◌≡◌, ℕ, zero, suc, ◌+◌, ◌-◌, ◌<◌, ◌≤◌, ◌^◌, Bool, true, false, not, cond, List, [], ◌∷◌, ◌++◌, length, take, drop, map, get_or, refl, sym, ap, subst, ◌∙◌, arith, append-nil}
use Rattle.std.specs.Prelude.{◌==◌, ◌||◌, All}
use Rattle.std.specs.declared.cmp.Ordering.TheVariants.{Less}
use Rattle.std.specs.Int.{w32, to_be_bytes}
use Rattle.std.specs.List.{AllByRecursion, enumerate_from, filter, list_any}
use Rattle.std.specs.List.Sorted.{IsStrictlyIncreasing, IsStrictlySortedBy}
use Rattle.std.specs.Ordering.{nat_cmp}
use Rattle.std.proofs.lemmas.Bool.{eqb-true}
use Rattle.std.proofs.lemmas.Bool.Decides.{nat_tests}
use Rattle.std.proofs.lemmas.List.{get_or-map, get_or-take, length-drop, length-map, length-take, take-append-drop, take-take, take_all, take_more}
use Rattle.std.proofs.lemmas.List.Elements.{All-push, All-weaker, All-take, filter-append}
use Rattle.std.proofs.lemmas.List.Folds.{list_any-append, list_any_none}
use Rattle.std.proofs.lemmas.List.Kept.{AllPairs-from_increasing}
use Rattle.std.proofs.lemmas.Map.Keys.{below_from_sorted, sorted_from_strictly_increasing}
use Rattle.sb_model.specs.Difference.{has_member, removed_places, added_members}
use Rattle.list_versions.specs.Quads.{is_first_of, quads_of, IsFrom}
use Rattle.list_versions.proofs.QuadOrder.{AreSmall, has_number, has_quad}

abbrev Rises : List ℕ → Type 0
Rises = IsStrictlySortedBy nat_cmp

-- ---- what is left of a row

low_other : (m n : ℕ) → m < n → (m == n) ≡ false
low_other m n h = grind (arith, nat_tests)

high_other : (m n : ℕ) → n < m → (m == n) ≡ false
high_other m n h = grind (arith, nat_tests)

above : (m n : ℕ) → nat_cmp m n ≡ Less → m < n
above m n h = grind (arith, nat_tests)

low_lacks : (below : List ℕ) (number n : ℕ) → All (λ other. other < number) below → number ≤ n → has_number below n ≡ false
low_lacks below number n low le =
    list_any_none (λ other. other == n) below (All-weaker (λ other. other < number) (λ other. (other == n) ≡ false) (λ other h. low_other other n (omega (arith, h, le))) below low)

pub from_same : (number n : ℕ) (numbers rest : List ℕ) → IsFrom number numbers rest → number ≤ n → has_number rest n ≡ has_number numbers n
from_same number n numbers rest h le =
    sym (ap (λ (ns : List ℕ). has_number ns n) h.whole ∙ list_any-append (λ other. other == n) h.below rest
    ∙ ap (λ (b : Bool). b || has_number rest n) (low_lacks h.below number n h.low le))

rises_after : (below rest : List ℕ) → Rises (below ++ rest) → Rises rest
unfolding IsStrictlySortedBy
rises_after [] rest up = up
rises_after (x ∷ xs) rest up = rises_after xs rest up.1

from_rises : (number : ℕ) (numbers rest : List ℕ) → IsFrom number numbers rest → Rises numbers → Rises rest
from_rises number numbers rest h up = rises_after h.below rest (subst Rises h.whole up)

or_neither : (a b : Bool) → a ≡ false → b ≡ false → (a || b) ≡ false
or_neither true b h k = absurd (cc)
or_neither false b h k = k

high_lacks : (x : ℕ) (xs : List ℕ) (n : ℕ) → AllByRecursion (λ y. nat_cmp x y ≡ Less) xs → n ≤ x → has_number xs n ≡ false
high_lacks x [] n up le = refl
high_lacks x (y ∷ ys) n up le = or_neither (y == n) (has_number ys n) (high_other y n (omega (arith, above x y up.0, le))) (high_lacks x ys n up.1 le)

first_alone : (b c : Bool) → (b ≡ false → c ≡ false) → b ≡ (b || c)
first_alone true c h = refl
first_alone false c h = sym (h refl)

first_tells : (number : ℕ) (rest : List ℕ) → Rises rest → ((first : ℕ) (later : List ℕ) → rest ≡ first ∷ later → number ≤ first) → is_first_of number rest ≡ has_number rest number
unfolding IsStrictlySortedBy
first_tells number [] up next = refl
first_tells number (x ∷ xs) up next = first_alone (x == number) (has_number xs number) (λ _. high_lacks x xs number up.0 (next x xs refl))

first_of : (numbers : List ℕ) (i first : ℕ) (later : List ℕ) → drop i numbers ≡ first ∷ later → get_or numbers i 0 ≡ first
first_of [] zero first later e = absurd (cc)
first_of [] (suc i) first later e = absurd (cc)
first_of (n ∷ ns) zero first later e = cc
first_of (n ∷ ns) (suc i) first later e = first_of ns i first later e

pub from_here : (numbers : List ℕ) (i number : ℕ) → number ≤ get_or numbers i 0 → All (λ other. other < number) (take i numbers) → IsFrom number numbers (take (length numbers - i) (drop i numbers))
from_here numbers i number le low =
    subst (IsFrom number numbers) (sym (take_all (length numbers - i) (drop i numbers) (omega (arith, length-drop i numbers)))) (record {
      below = take i numbers;
      whole = sym (take-append-drop i numbers);
      low = low;
      next = λ first later e. omega (arith, le, first_of numbers i first later e);
    })

pub from_none : (numbers : List ℕ) (i number : ℕ) → length numbers ≤ i → All (λ other. other < number) (take i numbers) → IsFrom number numbers []
from_none numbers i number past low = record {
  below = numbers;
  whole = sym (append-nil numbers);
  low = subst (All (λ other. other < number)) (take_all i numbers past) low;
  next = λ first later e. absurd (cc);
}

pub low_more : (numbers : List ℕ) (i number : ℕ) → i < length numbers → get_or numbers i 0 < number → All (λ other. other < number) (take i numbers) → All (λ other. other < number) (take (i + 1) numbers)
low_more numbers i number lt own low =
    subst (All (λ other. other < number)) (sym (take_more numbers i 0 lt)) (All-push (λ other. other < number) (take i numbers) (get_or numbers i 0) low own)

-- ---- two rows

-- What is left of a row has each number of it that is above those of another row which were passed.
pub record TellsRest (done row rest : List ℕ) : Type 0 where
  pub rising : Rises rest
  pub same : (n : ℕ) → All (λ other. other < n) done → has_number rest n ≡ has_number row n

pub tells_first : (row : List ℕ) → IsStrictlyIncreasing row → TellsRest [] row row
tells_first row up = record { rising = sorted_from_strictly_increasing row up; same = λ n low. refl }

passed : (passing : List ℕ) (i : ℕ) → IsStrictlyIncreasing passing → i < length passing → All (λ other. other < get_or passing i 0) (take i passing)
passed passing i up lt = λ k d inside.
    let short : k < i = omega (arith, inside, length-take i passing) in
    let here : get_or (take i passing) k d ≡ get_or passing k d = get_or-take i passing k d short in
    let less : get_or passing k d < get_or passing i d = below_from_sorted passing k i d (sorted_from_strictly_increasing passing up) short lt in
    let same : get_or passing i d ≡ get_or passing i 0 = at_any passing i d lt in
    omega (arith, here, less, same)
  where
    at_any : (xs : List ℕ) (j d : ℕ) → j < length xs → get_or xs j d ≡ get_or xs j 0
    at_any [] j d h = absurd (omega arith)
    at_any (x ∷ xs) zero d h = refl
    at_any (x ∷ xs) (suc j) d h = at_any xs j d (omega (arith, h))

pub tells_next : (passing row rest next : List ℕ) (i n : ℕ) → i < length passing → n ≡ get_or passing i 0 → TellsRest (take i passing) row rest → IsFrom n rest next
    → TellsRest (take (i + 1) passing) row next
tells_next passing row rest next i n lt is h from = record {
  rising = from_rises n rest next from h.rising;
  same = λ m low.
      let here : get_or (take (i + 1) passing) i 0 < m = low i 0 (omega (arith, length-take (i + 1) passing, lt)) in
      let own : n < m = omega (arith, here, is, get_or-take (i + 1) passing i 0 (omega arith)) in
      from_same n m rest next from (omega (arith, own))
      ∙ h.same m (subst (All (λ other. other < m)) (take-take i (i + 1) passing (omega arith)) (All-take (λ other. other < m) i (take (i + 1) passing) low));
}

pub tells_here : (passing row rest next : List ℕ) (i n : ℕ) → IsStrictlyIncreasing passing → i < length passing → n ≡ get_or passing i 0 → TellsRest (take i passing) row rest → IsFrom n rest next
    → AreSmall row → n < 2 ^ 32 → has_member (quads_of row) (to_be_bytes w32 n) ≡ is_first_of n next
tells_here passing row rest next i n up lt is h from small fits =
    has_quad row n small fits ∙ sym (first_tells n next (from_rises n rest next from h.rising) from.next ∙ from_same n n rest next from (omega arith)
    ∙ h.same n (subst (λ k. All (λ other. other < k) (take i passing)) (sym is) (passed passing i up lt)))

-- ---- what is noted of one number more

abbrev noted : List (List ℕ) → ℕ → List (List ℕ) → List ℕ
noted newer n members = map (λ (member : ℕ × List ℕ). member.0) (filter (λ (member : ℕ × List ℕ). not (has_member newer member.1)) (enumerate_from n members))

noted_more : (newer : List (List ℕ)) (n : ℕ) (xs : List (List ℕ)) (x : List ℕ)
    → noted newer n (xs ++ x ∷ []) ≡ noted newer n xs ++ cond (not (has_member newer x)) ((n + length xs) ∷ []) []
noted_more newer n [] x = go (not (has_member newer x))
  where
    go : (b : Bool) → map (λ (member : ℕ × List ℕ). member.0) (cond b ((n, x) ∷ []) []) ≡ cond b ((n + 0) ∷ []) []
    go true = ap (λ k. k ∷ []) (let same : n ≡ n + 0 = omega arith in same)
    go false = refl
noted_more newer n (y ∷ ys) x = go (not (has_member newer y)) (noted_more newer (n + 1) ys x
    ∙ ap (λ k. noted newer (n + 1) ys ++ cond (not (has_member newer x)) (k ∷ []) []) (let same : n + 1 + length ys ≡ n + suc (length ys) = omega arith in same))
  where
    go : (b : Bool) → noted newer (n + 1) (ys ++ x ∷ []) ≡ noted newer (n + 1) ys ++ cond (not (has_member newer x)) ((n + suc (length ys)) ∷ []) []
        → map (λ (member : ℕ × List ℕ). member.0) (cond b ((n, y) ∷ filter (λ (member : ℕ × List ℕ). not (has_member newer member.1)) (enumerate_from (n + 1) (ys ++ x ∷ []))) (filter (λ (member : ℕ × List ℕ). not (has_member newer member.1)) (enumerate_from (n + 1) (ys ++ x ∷ []))))
        ≡ map (λ (member : ℕ × List ℕ). member.0) (cond b ((n, y) ∷ filter (λ (member : ℕ × List ℕ). not (has_member newer member.1)) (enumerate_from (n + 1) ys)) (filter (λ (member : ℕ × List ℕ). not (has_member newer member.1)) (enumerate_from (n + 1) ys)))
        ++ cond (not (has_member newer x)) ((n + suc (length ys)) ∷ []) []
    go true more = ap (λ (ns : List ℕ). n ∷ ns) more
    go false more = more

quads_more : (numbers : List ℕ) (i : ℕ) → i < length numbers → take (i + 1) (quads_of numbers) ≡ take i (quads_of numbers) ++ to_be_bytes w32 (get_or numbers i 0) ∷ []
quads_more numbers i lt =
    let there : i < length (quads_of numbers) = omega (arith, lt, length-map {B = List ℕ} numbers (to_be_bytes w32)) in
    take_more (quads_of numbers) i [] there ∙ ap (λ (q : List ℕ). take i (quads_of numbers) ++ q ∷ []) (get_or-map (to_be_bytes w32) numbers i 0 [] lt)

-- a place more, unless the newer set has the prefix
pub place_noted : (older newer : List ℕ) (i n : ℕ) (b : Bool) (old new : List ℕ) → i < length older → n ≡ get_or older i 0 → has_member (quads_of newer) (to_be_bytes w32 n) ≡ b
    → old ≡ removed_places (take i (quads_of older)) (quads_of newer) → new ≡ old ++ cond (not b) (i ∷ []) [] → new ≡ removed_places (take (i + 1) (quads_of older)) (quads_of newer)
place_noted older newer i n b old new lt is has before e =
    let count : i ≡ 0 + length (take i (quads_of older)) = omega (arith, length-take i (quads_of older), length-map {B = List ℕ} older (to_be_bytes w32)) in
    let test : b ≡ has_member (quads_of newer) (to_be_bytes w32 (get_or older i 0)) = sym has ∙ ap (λ k. has_member (quads_of newer) (to_be_bytes w32 k)) is in
    e ∙ ap (λ (ps : List ℕ). ps ++ cond (not b) (i ∷ []) []) before
    ∙ ap (λ k. removed_places (take i (quads_of older)) (quads_of newer) ++ cond (not b) (k ∷ []) []) count
    ∙ ap (λ (t : Bool). removed_places (take i (quads_of older)) (quads_of newer) ++ cond (not t) ((0 + length (take i (quads_of older))) ∷ []) []) test
    ∙ sym (noted_more (quads_of newer) 0 (take i (quads_of older)) (to_be_bytes w32 (get_or older i 0)))
    ∙ ap (λ (xs : List (List ℕ)). removed_places xs (quads_of newer)) (sym (quads_more older i lt))

-- a prefix more, unless the older set has it
pub prefix_noted : (older newer : List ℕ) (i n : ℕ) (b : Bool) (old new : List (List ℕ)) → i < length newer → n ≡ get_or newer i 0 → has_member (quads_of older) (to_be_bytes w32 n) ≡ b
    → old ≡ added_members (quads_of older) (take i (quads_of newer)) → new ≡ old ++ cond (not b) (to_be_bytes w32 n ∷ []) [] → new ≡ added_members (quads_of older) (take (i + 1) (quads_of newer))
prefix_noted older newer i n b old new lt is has before e =
    e ∙ ap (λ (ps : List (List ℕ)). ps ++ cond (not b) (to_be_bytes w32 n ∷ []) []) before
    ∙ ap (λ (t : Bool). added_members (quads_of older) (take i (quads_of newer)) ++ cond (not t) (to_be_bytes w32 n ∷ []) []) (sym has)
    ∙ ap (λ k. added_members (quads_of older) (take i (quads_of newer)) ++ cond (not (has_member (quads_of older) (to_be_bytes w32 k))) (to_be_bytes w32 k ∷ []) []) is
    ∙ sym (filter-append (λ (member : List ℕ). not (has_member (quads_of older) member)) (take i (quads_of newer)) (to_be_bytes w32 (get_or newer i 0) ∷ []))
    ∙ ap (added_members (quads_of older)) (sym (quads_more newer i lt))
