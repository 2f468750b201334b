-- How much is kept, after one was asked for, went or came.
use Rattle.std.proofs.Common.{◌≡◌, ◌≢◌, ◌+◌, ◌-◌, ◌^◌, ◌<◌, ◌≤◌, ℕ, Bool, true, false, List, [], ◌∷◌, ◌++◌, length, take, drop, get_or, refl, sym, ap, subst, ◌∙◌, arith}
use Rattle.std.specs.Prelude.{◌&&◌, MatchBool, nat_le, nat_lt, sum_by}
use Rattle.std.specs.List.{remove}
use Rattle.std.specs.List.Sorted.{IsPermutation}
use Rattle.std.proofs.lemmas.Bool.{leb-true, ltb-true, ltb-false}
use Rattle.std.proofs.lemmas.List.{drop_all, drop-append-le, take-append-drop}
use Rattle.std.proofs.lemmas.List.Sums.{sum_by-append}
use Rattle.std.proofs.lemmas.List.Sorted.{sum_by-IsPermutation}
use borrow.Rule.Slice.PartMut.{put_mid}
use Rattle.http_serving.specs.Kept.{is_kept_in, kept_size, AreLeft, Comes, FitIn, HasKept, KeptPart}
use Rattle.http_serving.specs.declared.kept.KeptAnswer.{KeptAnswer}
use Rattle.http_serving.specs.declared.kept.Room.{Room}

-- the bytes of all, after a part of them was put in another order
pub turned : {K : Type 0} → (xs new : List (KeptAnswer K)) (p : ℕ) → IsPermutation (take (length xs - p) (drop p xs)) new → sum_by kept_size (put_mid p (length xs - p) xs new) ≡ sum_by kept_size xs
turned {K} xs new p turns =
    let k : ℕ = length xs - p in
    let front : List (KeptAnswer K) = take p xs in
    let back : List (KeptAnswer K) = drop p xs in
    let whole = sum_by-append kept_size front (new ++ drop k back) in
    let part = sum_by-append kept_size new (drop k back) in
    let same = sum_by-IsPermutation kept_size (take k back) new turns in
    let cut = sum_by-append kept_size (take k back) (drop k back) in
    let joined = ap (sum_by kept_size) (take-append-drop k back) in
    let halves = sum_by-append kept_size front back in
    let all = ap (sum_by kept_size) (take-append-drop p xs) in
    omega (arith, whole, part, same, cut, joined, halves, all)

first_of_all : {K : Type 0} → (x : KeptAnswer K) (xs : List (KeptAnswer K)) → sum_by kept_size (x ∷ xs) ≡ kept_size x + sum_by kept_size xs
first_of_all {K} x xs = let both = sum_by-append kept_size (x ∷ []) xs in omega (arith, both)

-- ---- as many go as have to

-- The first of some went: these are left, with so many bytes.
pub record HasGone {K : Type 0} (left : List (KeptAnswer K)) (bytes size : ℕ) : Type 0 where
  pub within : size ≤ bytes
  pub bytes_are : sum_by kept_size left ≡ bytes - size

pub gone : {K : Type 0} → (xs ys : List (KeptAnswer K)) (first : KeptAnswer K) (bytes size : ℕ) → xs ≢ [] → sum_by kept_size xs ≡ bytes → bytes < 2 ^ 33 → first ≡ get_or xs 0 first → ys ≡ remove xs 0
    → (size < 2 ^ 33 → size ≡ kept_size first) → size ≤ kept_size first → HasGone ys bytes size
gone {K} [] ys first bytes size some sum low is rest exact most = absurd (some refl)
gone {K} (x ∷ xs) ys first bytes size some sum low is rest exact most =
    let parts = first_of_all x xs in
    let own : kept_size first ≡ kept_size x = ap kept_size is in
    let fits : size < 2 ^ 33 = omega (arith, low, sum, parts, own, most) in
    let same : size ≡ kept_size first = exact fits in
    record {
      within = omega (arith, same, own, parts, sum);
      bytes_are = (let others = ap (sum_by kept_size) rest in omega (arith, others, sum, parts, own, same));
    }

-- There is room for none.
pub nothing_fits : {K : Type 0} → (xs : List (KeptAnswer K)) (room : Room) → (FitIn xs room → ⊥) → xs ≢ []
nothing_fits {K} xs room past none = past (omega (arith, ap length none), omega (arith, ap (sum_by kept_size) none))

-- With one more gone no fewer would do either.
pub none_fewer : {K : Type 0} → (all xs : List (KeptAnswer K)) (gone : ℕ) (room : Room) → xs ≡ drop gone all → (FitIn xs room → ⊥)
    → ((fewer : ℕ) → fewer < gone → FitIn (drop fewer all) room → ⊥) → (fewer : ℕ) → fewer < gone + 1 → FitIn (drop fewer all) room → ⊥
none_fewer {K} all xs gone room is not before fewer below fit = go (nat_lt fewer gone) refl
  where
    go : (less : Bool) → nat_lt fewer gone ≡ less → ⊥
    go true less = before fewer (ltb-true fewer gone less) fit
    go false less =
        let same : fewer ≡ gone = omega (arith, below, ltb-false fewer gone less) in
        not (subst (λ (n : ℕ). FitIn (drop n all) room → FitIn xs room) (sym same) (subst (λ (ys : List (KeptAnswer K)). FitIn ys room) (sym is)) fit)

-- An answer that fits alone is not among those that go.
pub comes : {K : Type 0} → (answer : KeptAnswer K) (before after : KeptPart K) → after.room ≡ before.room → length (answer ∷ []) ≤ before.room.answers → kept_size answer ≤ before.room.bytes
    → AreLeft (before.answers ++ answer ∷ []) after.answers before.room → Comes answer before after
comes {K} answer before after room one small left =
    let few : left.gone ≤ length before.answers = stays (nat_lt (length before.answers) left.gone) refl in
    let parted : (n : ℕ) → n ≤ length before.answers → drop n (before.answers ++ answer ∷ []) ≡ drop n before.answers ++ answer ∷ []
    = λ n within. drop-append-le n before.answers (answer ∷ []) within in
    record {
      gone = left.gone;
      room = room;
      answers = left.are ∙ parted left.gone few;
      fits = left.fit;
      least = λ fewer below fit.
          left.least fewer below (subst (λ (ys : List (KeptAnswer K)). FitIn ys before.room) (sym (parted fewer (omega (arith, below, few)))) fit);
    }
  where
    alone : FitIn (answer ∷ []) before.room
    alone = (one, (let parts = first_of_all answer [] in omega (arith, small, parts)))

    last : drop (length before.answers) (before.answers ++ answer ∷ []) ≡ answer ∷ []
    last = drop-append-le (length before.answers) before.answers (answer ∷ []) (omega arith) ∙ ap (λ (ys : List (KeptAnswer K)). ys ++ answer ∷ []) (drop_all (length before.answers) before.answers (omega arith))

    stays : (past : Bool) → nat_lt (length before.answers) left.gone ≡ past → left.gone ≤ length before.answers
    stays true past =
        absurd (left.least (length before.answers) (ltb-true (length before.answers) left.gone past) (subst (λ (ys : List (KeptAnswer K)). FitIn ys before.room) (sym last) alone))
    stays false past = ltb-false (length before.answers) left.gone past

both_hold : (a b : Bool) → (a && b) ≡ true → (a ≡ true) × (b ≡ true)
both_hold true true is = (refl, refl)
both_hold true false is = absurd (cc)
both_hold false b is = absurd (cc)

-- A kept answer was put behind the others, and as many went as had to.
pub came : {K : Type 0} → (answer : KeptAnswer K) (before : KeptPart K) (pushed left : List (KeptAnswer K)) → is_kept_in answer before.room ≡ true → pushed ≡ before.answers ++ answer ∷ []
    → AreLeft pushed left before.room → HasKept answer before (record { answers = left; room = before.room })
came {K} answer before pushed left keeps is fewer =
    let after : KeptPart K = record { answers = left; room = before.room } in
    let room : Room = before.room in
    let parts = both_hold (nat_le room.least (length answer.text)) (nat_lt 0 room.answers && nat_le (kept_size answer) room.bytes) keeps in
    let rest = both_hold (nat_lt 0 room.answers) (nat_le (kept_size answer) room.bytes) parts.1 in
    subst (λ (b : Bool). MatchBool b (Comes answer before after) (after ≡ before)) (sym keeps)
    (comes answer before after refl (omega (arith, ltb-true 0 room.answers rest.0)) (leb-true (kept_size answer) room.bytes rest.1)
    (subst (λ (xs : List (KeptAnswer K)). AreLeft xs left room) is fewer))
