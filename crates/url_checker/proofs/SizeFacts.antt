-- Which sizes are marked, one size and one list after the other.
use Rattle.std.proofs.Common.{◌≡◌, ℕ, ◌+◌, ◌<◌, Bool, true, false, List, length, take, get_or, set, refl, sym, ap, subst, ◌∙◌, arith}
use Rattle.std.specs.Prelude.{◌≢◌, nat_eq, All, Contains}
use Rattle.std.specs.List.{list_any}
use Rattle.std.proofs.lemmas.Bool.{eqb-true, false≢true}
use Rattle.std.proofs.lemmas.Bool.Decides.{Decides-eqb}
use Rattle.std.proofs.lemmas.Grind.{get_or-set_at}
use Rattle.std.proofs.lemmas.List.{get_or-set_other, take_more}
use Rattle.std.proofs.lemmas.List.Elements.{All-contains, All-push}
use Rattle.std.proofs.lemmas.List.Folds.{list_any_at}
use Rattle.update_client.specs.Held.{Held}
use Rattle.url_checker.specs.Hits.{Marks, MarksAll}

-- what holds of each of a list's items holds of one
pub item_holds : {X : Type 0} (P : X → Type 0) (xs : List X) (i : ℕ) (x : X) → i < length xs → x ≡ get_or xs i x → All P xs → P x
item_holds {X} P xs i x below at all = subst P (sym at) (all i x below)

-- ---- one size more

-- those of the first sizes that are among a list's own are marked
abbrev pub AreMarked : List Bool → List Bool → ℕ → Type 0
AreMarked own marks count = (size : ℕ) → size < count → get_or own size false ≡ true → get_or marks size false ≡ true

-- what was marked is marked still
abbrev pub AreLeft : List Bool → List Bool → Type 0
AreLeft old new = (size : ℕ) → get_or old size false ≡ true → get_or new size false ≡ true

differ : (n i : ℕ) → nat_eq n i ≡ false → n ≢ i
differ n i other same = false≢true (sym other ∙ (Decides-eqb n i).1 same)

marked_kept : (marks : List Bool) (i n : ℕ) → i < length marks → get_or marks n false ≡ true → get_or (set marks i true) n false ≡ true
marked_kept marks i n within is = go (nat_eq n i) refl
  where
    go : (b : Bool) → nat_eq n i ≡ b → get_or (set marks i true) n false ≡ true
    go true same = get_or-set_at marks i n true false (eqb-true n i same) within
    go false other = get_or-set_other marks i n true false (differ n i other) ∙ is

pub marked_one : (own old new : List Bool) (i : ℕ) → i < length old → new ≡ set old i true → AreMarked own old i → AreMarked own new (i + 1)
marked_one own old new i within is before n below has = subst (λ (marks : List Bool). get_or marks n false ≡ true) (sym is) (go (nat_eq n i) refl)
  where
    go : (b : Bool) → nat_eq n i ≡ b → get_or (set old i true) n false ≡ true
    go true same = get_or-set_at old i n true false (eqb-true n i same) within
    go false other =
        let less : n < i = let apart : n ≢ i = differ n i other in omega (arith, below, apart) in
        marked_kept old i n within (before n less has)

pub marked_none : (own old new : List Bool) (i : ℕ) → get_or own i false ≡ false → new ≡ old → AreMarked own old i → AreMarked own new (i + 1)
marked_none own old new i unset is before n below has = subst (λ (marks : List Bool). get_or marks n false ≡ true) (sym is) (go (nat_eq n i) refl)
  where
    go : (b : Bool) → nat_eq n i ≡ b → get_or old n false ≡ true
    go true same = absurd (false≢true (sym unset ∙ ap (λ k. get_or own k false) (sym (eqb-true n i same)) ∙ has))
    go false other =
        let less : n < i = let apart : n ≢ i = differ n i other in omega (arith, below, apart) in
        before n less has

pub left_one : (first old new : List Bool) (i : ℕ) → i < length old → new ≡ set old i true → AreLeft first old → AreLeft first new
left_one first old new i within is before n has =
    subst (λ (marks : List Bool). get_or marks n false ≡ true) (sym is) (marked_kept old i n within (before n has))

pub left_none : (first old new : List Bool) → new ≡ old → AreLeft first old → AreLeft first new
left_none first old new is before n has = subst (λ (marks : List Bool). get_or marks n false ≡ true) (sym is) (before n has)

-- ---- one list more

any_own : (members : List (List ℕ)) (member : List ℕ) → Contains members member → list_any (λ (m : List ℕ). nat_eq (length m) (length member)) members ≡ true
any_own members member has =
    All-contains (λ (one : List ℕ). list_any (λ (m : List ℕ). nat_eq (length m) (length one)) members ≡ true) members member
    (λ k d small. list_any_at (λ (m : List ℕ). nat_eq (length m) (length (get_or members k d))) members k d small
    ((Decides-eqb (length (get_or members k d)) (length (get_or members k d))).1 refl))
    has

pub marks_own : (members : List (List ℕ)) (held : Held) (own marks : List Bool) → members ≡ held.set
    → ((size : ℕ) → size < 33 → get_or own size false ≡ list_any (λ (m : List ℕ). nat_eq (length m) size) members) → AreMarked own marks 33 → Marks marks held
marks_own members held own marks same occurs marked member has small =
    marked (length member) small
    (occurs (length member) small ∙ any_own members member (subst (λ (all : List (List ℕ)). Contains all member) (sym same) has))

pub marks_more : (lists : List Held) (i : ℕ) (held : Held) (old new : List Bool) → i < length lists → held ≡ get_or lists i held → AreLeft old new → Marks new held
    → MarksAll old (take i lists) → MarksAll new (take (i + 1) lists)
marks_more lists i held old new below at left here before =
    subst (λ (all : List Held). MarksAll new all) (sym (take_more lists i held below))
    (All-push (Marks new) (take i lists) (get_or lists i held)
    (λ k d small member has short. left (length member) (before k d small member has short))
    (subst (λ (one : Held). Marks new one) at here))
