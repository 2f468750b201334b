-- Targets by a walk from a held version on.
use Rattle.std.proofs.Common.{◌≡◌, ℕ, zero, suc, ◌+◌, ◌-◌, ◌<◌, ◌≤◌, Bool, true, false, not, List, [], ◌∷◌, length, take, drop, refl, sym, ap, ◌∙◌, arith, length-drop, Option, Some, None}
use Rattle.std.specs.Prelude.{◌==◌, ◌&&◌, ◌||◌, nat_le, filter, fold, if◌then◌else◌}
use Rattle.std.proofs.lemmas.Bool.{eq-eqb, eqb-true, le-leb}
use Rattle.std.specs.Option.{IfSome, unwrap_or}
use Rattle.sb_model.specs.declared.history.Added.{Added}
use Rattle.sb_model.specs.declared.history.Change.{Change}
use Rattle.sb_model.specs.declared.names.ListName.{ListName}
use Rattle.sb_model.specs.Difference.{has_member, difference_count}
use Rattle.sb_model.specs.History.{History, version_count, prefixes_at, after_change}
use Rattle.sb_model.specs.Target.{is_within, can_reach, greatest_up_to, target_version}
use Rattle.delta_server.specs.Walk.{published, entries_after, may_take, changes_taken, held_set}

-- ---- the greatest number

pub greatest_step : (test : ℕ → Bool) (n : ℕ) (b : Bool) → test (n + 1) ≡ b → greatest_up_to test (n + 1) ≡ (if b then n + 1 else greatest_up_to test n)
greatest_step test n b is =
    let next : n + 1 ≡ suc n = omega arith in
    ap (greatest_up_to test) next ∙ ap (λ k. if test k then k else greatest_up_to test n) (sym next) ∙ ap (λ (t : Bool). if t then n + 1 else greatest_up_to test n) is

pub greatest_same : (t u : ℕ → Bool) (n : ℕ) → ((k : ℕ) → t k ≡ u k) → greatest_up_to t n ≡ greatest_up_to u n
greatest_same t u zero same = refl
greatest_same t u (suc n) same =
    ap (λ (b : Bool). if b then suc n else greatest_up_to t n) (same (suc n)) ∙ ap (λ k. if u (suc n) then suc n else k) (greatest_same t u n same)

pub greatest_within : (t u : ℕ → Bool) (n : ℕ) → ((k : ℕ) → k ≤ n → t k ≡ u k) → greatest_up_to t n ≡ greatest_up_to u n
greatest_within t u zero same = refl
greatest_within t u (suc n) same =
    ap (λ (b : Bool). if b then suc n else greatest_up_to t n) (same (suc n) (omega arith))
    ∙ ap (λ k. if u (suc n) then suc n else k) (greatest_within t u n (λ k below. same k (omega (arith, below))))

-- ---- a walk from a version on

pub fold_split : {A B : Type 0} (f : B → A → B) (b : B) (a k : ℕ) (xs : List A) → fold f b (take (a + k) xs) ≡ fold f (fold f b (take a xs)) (take k (drop a xs))
fold_split f b zero k xs = ap (λ n. fold f b (take n xs)) (let same : 0 + k ≡ k = omega arith in same)
fold_split f b (suc a) k [] = ap (λ n. fold f b (take n [])) (let same : suc a + k ≡ suc (a + k) = omega arith in same) ∙ sym (nothing k)
  where
    nothing : (n : ℕ) → fold f b (take n []) ≡ b
    nothing zero = refl
    nothing (suc n) = refl
fold_split f b (suc a) k (x ∷ xs) = ap (λ n. fold f b (take n (x ∷ xs))) (let same : suc a + k ≡ suc (a + k) = omega arith in same) ∙ fold_split f (f b x) a k xs

all_new : (set : List (List ℕ)) → filter (λ (member : List ℕ). not (has_member [] member)) set ≡ set
all_new [] = refl
all_new (m ∷ ms) = ap (λ (xs : List (List ℕ)). m ∷ xs) (all_new ms)

-- one who holds nothing differs by the whole set
pub from_nothing : (set : List (List ℕ)) → difference_count [] set ≡ length set
from_nothing set = ap (λ (xs : List (List ℕ)). 0 + length xs) (all_new set) ∙ omega arith

pub target_none : (history : History) (list : ListName) (max_update max_database : ℕ)
    → target_version history list None max_update max_database ≡ changes_taken list [] [] history.changes max_update max_database
target_none history list max_update max_database =
    greatest_same (can_reach history list None max_update max_database)
    (λ count. may_take [] max_update max_database (published (entries_after list [] history.changes count))) (version_count history)
    (λ k. sym (ap (λ n. is_within max_update n && is_within max_database (length (prefixes_at history list k))) (from_nothing (prefixes_at history list k))))

pub taken_step : (test : ℕ → Bool) (i old new : ℕ) (b : Bool) → test (i + 1) ≡ b → old ≡ greatest_up_to test i → new ≡ (if b then i + 1 else old) → new ≡ greatest_up_to test (i + 1)
taken_step test i old new b is before now = now ∙ ap (λ k. if b then i + 1 else k) before ∙ sym (greatest_step test i b is)

module _ (history : History) (list : ListName) (held max_update max_database : ℕ) where
  abbrev pub reach : ℕ → Bool
  reach = can_reach history list (Some held) max_update max_database

  abbrev pub later : ℕ → Bool
  later k = may_take (prefixes_at history list held) max_update max_database (prefixes_at history list (held + k))

  held_true : (a b : Bool) → a ≡ true → (a || b) ≡ true
  held_true true b is = refl
  held_true false b is = absurd (cc)

  reach_held : (version : ℕ) → version ≡ held → reach version ≡ true
  reach_held version is = held_true (version == held) _ (eq-eqb version held is)

  later_true : (a b c d : Bool) → a ≡ false → b ≡ true → (a || b && c && d) ≡ (c && d)
  later_true true b c d other at = absurd (cc)
  later_true false true c d other at = refl
  later_true false false c d other at = absurd (cc)

  not_equal : (a b : ℕ) → b < a → (a == b) ≡ false
  not_equal a b less = go (a == b) (eqb-true a b)
    where
      go : (t : Bool) → (t ≡ true → a ≡ b) → t ≡ false
      go true same = let e : a ≡ b = same refl in absurd (omega arith)
      go false same = refl

  reach_later : (k : ℕ) → 0 < k → reach (held + k) ≡ later k
  reach_later k some = later_true (held + k == held) (nat_le held (held + k)) _ _ (not_equal (held + k) held (omega arith)) (le-leb held (held + k) (omega arith))

  greatest_held : (a : ℕ) → a ≡ held → greatest_up_to reach a ≡ a
  greatest_held zero is = refl
  greatest_held (suc a) is = ap (λ (t : Bool). if t then suc a else greatest_up_to reach a) (reach_held (suc a) is)

  -- one who holds the newest version stays there
  pub stays_newest : version_count history ≡ held → target_version history list (Some held) max_update max_database ≡ held
  stays_newest is = greatest_held (version_count history) is ∙ is

  add_if : (t : Bool) (k m n : ℕ) → (if t then held + k else held + m) ≡ held + (if t then k else m)
  add_if true k m n = refl
  add_if false k m n = refl

  pub greatest_from : (n : ℕ) → greatest_up_to reach (held + n) ≡ held + greatest_up_to later n
  greatest_from zero =
      ap (greatest_up_to reach) (let same : held + 0 ≡ held = omega arith in same) ∙ greatest_held held refl ∙ (let same : held ≡ held + 0 = omega arith in same)
  greatest_from (suc n) =
      let next : held + suc n ≡ held + n + 1 = omega arith in
      let back : held + n + 1 ≡ held + suc n = omega arith in
      ap (greatest_up_to reach) next
      ∙ greatest_step reach (held + n) (later (suc n)) (ap reach back ∙ reach_later (suc n) (omega arith))
      ∙ ap (λ k. if later (suc n) then k else greatest_up_to reach (held + n)) back
      ∙ ap (λ k. if later (suc n) then held + suc n else k) (greatest_from n)
      ∙ add_if (later (suc n)) (suc n) (greatest_up_to later n) 0

  pub target_some : held ≤ version_count history
      → target_version history list (Some held) max_update max_database
      ≡ held + changes_taken list (prefixes_at history list held) (entries_after list [] history.changes held) (drop held history.changes) max_update max_database
  target_some within =
      let whole : version_count history ≡ held + (version_count history - held) = omega arith in
      let rest : version_count history - held ≡ length (drop held history.changes) = sym (length-drop held history.changes) in
      ap (greatest_up_to reach) whole ∙ greatest_from (version_count history - held)
      ∙ ap (λ n. held + greatest_up_to later n) rest
      ∙ ap (λ n. held + n) (greatest_same later _ (length (drop held history.changes)) (λ k.
      ap (λ (es : List Added). may_take (prefixes_at history list held) max_update max_database (published es)) (fold_split (after_change list) [] held k history.changes)))

-- ---- the target of one who holds a version, or none

pub target_is : (history : History) (list : ListName) (from : Option ℕ) (max_update max_database first taken : ℕ) (held : List (List ℕ))
    → IfSome from (λ version. version ≤ version_count history) → first ≡ unwrap_or from 0 → held ≡ held_set list from history.changes
    → taken ≡ changes_taken list held (entries_after list [] history.changes first) (drop first history.changes) max_update max_database
    → first + taken ≡ target_version history list from max_update max_database
target_is history list None max_update max_database first taken held within is own walked =
    let start : first + taken ≡ taken = omega (arith, is) in
    start ∙ walked
    ∙ ap (λ n. changes_taken list held (entries_after list [] history.changes n) (drop n history.changes) max_update max_database) is
    ∙ ap (λ (h : List (List ℕ)). changes_taken list h [] history.changes max_update max_database) own
    ∙ sym (target_none history list max_update max_database)
target_is history list (Some version) max_update max_database first taken held within is own walked =
    ap (λ n. n + taken) is
    ∙ ap (λ n. version + n) (walked
    ∙ ap (λ n. changes_taken list held (entries_after list [] history.changes n) (drop n history.changes) max_update max_database) is
    ∙ ap (λ (h : List (List ℕ)). changes_taken list h (entries_after list [] history.changes version) (drop version history.changes) max_update max_database) own)
    ∙ sym (target_some history list version max_update max_database within)

-- the set of a held version, and none where none is held
pub held_is : (list : ListName) (from : Option ℕ) (changes : List Change) (first : ℕ) → first ≡ unwrap_or from 0
    → held_set list from changes ≡ published (entries_after list [] changes first)
held_is list None changes first is = ap (λ (n : ℕ). published (entries_after list [] changes n)) (sym is)
held_is list (Some version) changes first is = ap (λ (n : ℕ). published (entries_after list [] changes n)) (sym is)

pub walk_is : (list : ListName) (held own : List (List ℕ)) (entries : List Added) (changes recorded rest : List Change) (first max_update max_database : ℕ) → recorded ≡ changes
    → held ≡ own → entries ≡ entries_after list [] changes first → rest ≡ drop first changes
    → changes_taken list held entries rest max_update max_database ≡ changes_taken list own (entries_after list [] recorded first) (drop first recorded) max_update max_database
walk_is list held own entries changes recorded rest first max_update max_database same is stand left =
    ap (λ (h : List (List ℕ)). changes_taken list h entries rest max_update max_database) is
    ∙ ap (λ (es : List Added). changes_taken list own es rest max_update max_database) stand
    ∙ ap (λ (r : List Change). changes_taken list own (entries_after list [] changes first) r max_update max_database) left
    ∙ ap (λ (cs : List Change). changes_taken list own (entries_after list [] cs first) (drop first cs) max_update max_database) (sym same)
