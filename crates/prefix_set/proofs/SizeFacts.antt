-- Members by their sizes.
use Rattle.std.proofs.Common.{◌≡◌, ℕ, zero, suc, ◌+◌, ◌<◌, Bool, true, false, cond, List, [], ◌∷◌, ◌++◌, length, take, get_or, set, replicate, refl, sym, ap, subst, ◌∙◌, arith, append-nil}
use Rattle.std.specs.Prelude.{◌||◌, filter, nat_eq, not, Some}
use Rattle.std.specs.List.{list_any, slice_get}
use Rattle.std.proofs.lemmas.Bool.{eqb-true, false≢true}
use Rattle.std.proofs.lemmas.Bool.Decides.{Decides-eqb}
use Rattle.std.proofs.Math.Bool.{or-false, or-true}
use Rattle.std.proofs.lemmas.Grind.{get_or-set_at}
use Rattle.std.proofs.lemmas.List.{get_or-set_other}
use Rattle.std.proofs.lemmas.List.Concat.{flat_map-append}
use Rattle.std.proofs.lemmas.List.Elements.{filter-append, All-head, All-tail}
use Rattle.std.proofs.lemmas.List.Folds.{list_any_more}
use Rattle.std.proofs.lemmas.Option.{slice_get_within, get_or_from_slice_get}
use Rattle.sb_model.specs.Prefixes.{concatenation}
use Rattle.prefix_set.specs.declared.layout.Layout.{Layout}
use Rattle.prefix_set.specs.declared.layout.Layout.TheVariants.{Even}
use Rattle.prefix_set.specs.Packing.{HaveSize}
use Rattle.prefix_set.proofs.PackedList.{Packs, take_member, even_of, four_each}

-- the members of a size
abbrev pub sized : ℕ → List (List ℕ) → List (List ℕ)
sized size ms = filter (λ (member : List ℕ). nat_eq (length member) size) ms

-- whether some member has a size
abbrev pub any_sized : ℕ → List (List ℕ) → Bool
any_sized size ms = list_any (λ (member : List ℕ). nat_eq (length member) size) ms

-- ---- one member more

sized_more : (size i : ℕ) (ms : List (List ℕ)) (x : List ℕ) → slice_get ms i ≡ Some x
    → sized size (take (i + 1) ms) ≡ sized size (take i ms) ++ cond (nat_eq (length x) size) (x ∷ []) []
sized_more size i ms x is =
    ap (sized size) (take_member i ms x is) ∙ filter-append (λ (member : List ℕ). nat_eq (length member) size) (take i ms) (x ∷ [])

unlike : (m n : ℕ) → (m ≡ n → ⊥) → nat_eq m n ≡ false
unlike m n ne = go (nat_eq m n) refl
  where
    go : (b : Bool) → nat_eq m n ≡ b → nat_eq m n ≡ false
    go true is = absurd (ne (eqb-true m n is))
    go false is = is

alike : (m n : ℕ) → m ≡ n → nat_eq m n ≡ true
alike m n same = (Decides-eqb m n).1 same

pub bytes_same : (size i : ℕ) (ms : List (List ℕ)) (x : List ℕ) → slice_get ms i ≡ Some x → (length x ≡ size → ⊥)
    → concatenation (sized size (take (i + 1) ms)) ≡ concatenation (sized size (take i ms))
bytes_same size i ms x is other =
    ap concatenation (sized_more size i ms x is ∙ ap (λ (b : Bool). sized size (take i ms) ++ cond b (x ∷ []) []) (unlike (length x) size other)
    ∙ append-nil (sized size (take i ms)))

pub bytes_one : (size i : ℕ) (ms : List (List ℕ)) (x : List ℕ) → slice_get ms i ≡ Some x → length x ≡ size
    → concatenation (sized size (take (i + 1) ms)) ≡ concatenation (sized size (take i ms)) ++ x
bytes_one size i ms x is own =
    ap concatenation (sized_more size i ms x is ∙ ap (λ (b : Bool). sized size (take i ms) ++ cond b (x ∷ []) []) (alike (length x) size own))
    ∙ flat_map-append (λ (m : List ℕ). m) (sized size (take i ms)) (x ∷ [])
    ∙ ap (λ (b : List ℕ). concatenation (sized size (take i ms)) ++ b) (append-nil x)

-- ---- members of one size

pub sized_own : (size : ℕ) (ms : List (List ℕ)) → HaveSize size ms → sized size ms ≡ ms
sized_own size [] even = refl
sized_own size (m ∷ ms) even =
    ap (λ (b : Bool). cond b (m ∷ sized size ms) (sized size ms)) (alike (length m) size (All-head (λ (x : List ℕ). length x ≡ size) m ms even))
    ∙ ap (λ (xs : List (List ℕ)). m ∷ xs) (sized_own size ms (All-tail (λ (x : List ℕ). length x ≡ size) m ms even))

pub sized_other : (own size : ℕ) (ms : List (List ℕ)) → HaveSize own ms → (own ≡ size → ⊥) → sized size ms ≡ []
sized_other own size [] even ne = refl
sized_other own size (m ∷ ms) even ne =
    ap (λ (b : Bool). cond b (m ∷ sized size ms) (sized size ms))
    (unlike (length m) size (λ same. ne (sym (All-head (λ (x : List ℕ). length x ≡ own) m ms even) ∙ same)))
    ∙ sized_other own size ms (All-tail (λ (x : List ℕ). length x ≡ own) m ms even) ne

-- members of one size are all of that size, and none of another
pub even_bytes : (ms : List (List ℕ)) (own size : ℕ) (bytes : List ℕ) (layout : Layout) → Packs ms bytes layout → layout ≡ Even own → own ≡ size
    → bytes ≡ concatenation (sized size ms)
even_bytes ms own size bytes layout p is same =
    sym p.joined ∙ ap concatenation (sym (sized_own size ms (subst (λ (n : ℕ). HaveSize n ms) same (even_of ms own bytes layout p is).1)))

pub even_none : (ms : List (List ℕ)) (own size : ℕ) (bytes : List ℕ) (layout : Layout) → Packs ms bytes layout → layout ≡ Even own → (own ≡ size → ⊥)
    → [] ≡ concatenation (sized size ms)
even_none ms own size bytes layout p is ne = ap concatenation (sym (sized_other own size ms (even_of ms own bytes layout p is).1 ne))

any_other : (own size : ℕ) (ms : List (List ℕ)) → HaveSize own ms → (own ≡ size → ⊥) → any_sized size ms ≡ false
any_other own size [] even ne = refl
any_other own size (m ∷ ms) even ne =
    (λ i. unlike (length m) size (λ same. ne (sym (All-head (λ (x : List ℕ). length x ≡ own) m ms even) ∙ same)) i || any_sized size ms)
    ∙ any_other own size ms (All-tail (λ (x : List ℕ). length x ≡ own) m ms even) ne

-- whether there is any member
abbrev pub has_some : List (List ℕ) → Bool
has_some [] = false
has_some (m ∷ ms) = true

pub some_members : (ms : List (List ℕ)) (bytes : List ℕ) (layout : Layout) → Packs ms bytes layout → not (nat_eq (length bytes) 0) ≡ has_some ms
some_members [] bytes layout p = ap not (alike (length bytes) 0 (sym (ap length p.joined)))
some_members (m ∷ ms) bytes layout p = ap not (unlike (length bytes) 0 (λ none. omega (arith, four_each (m ∷ ms) p.sizes, ap length p.joined, none)))

any_own : (size : ℕ) (ms : List (List ℕ)) → HaveSize size ms → any_sized size ms ≡ has_some ms
any_own size [] even = refl
any_own size (m ∷ ms) even =
    ap (λ (b : Bool). b || any_sized size ms) (alike (length m) size (All-head (λ (x : List ℕ). length x ≡ size) m ms even))

-- ---- which sizes occur

pub none_met : (n size : ℕ) → get_or (replicate n false) size false ≡ false
none_met zero size = refl
none_met (suc n) zero = refl
none_met (suc n) (suc size) = none_met n size

-- the one size that all members have
pub sizes_even : (own : ℕ) (ms : List (List ℕ)) (some : Bool) → HaveSize own ms → own < 33 → some ≡ has_some ms
    → (size : ℕ) → get_or (set (replicate 33 false) own some) size false ≡ any_sized size ms
sizes_even own ms some even small is size = go (nat_eq own size) refl
  where
    go : (t : Bool) → nat_eq own size ≡ t → get_or (set (replicate 33 false) own some) size false ≡ any_sized size ms
    go true same =
        let here : own ≡ size = eqb-true own size same in
        get_or-set_at (replicate 33 false) own size some false (sym here) small ∙ is ∙ sym (any_own own ms even) ∙ ap (λ (n : ℕ). any_sized n ms) here
    go false other =
        let ne : own ≡ size → ⊥ = λ e. false≢true (sym other ∙ alike own size e) in
        get_or-set_other (replicate 33 false) own size some false (λ e. ne (sym e)) ∙ none_met 33 size ∙ sym (any_other own size ms even ne)

-- the size of one member more
pub sizes_more : (sizes : List Bool) (ms : List (List ℕ)) (i : ℕ) (x : List ℕ) → slice_get ms i ≡ Some x → length x < length sizes
    → ((size : ℕ) → size < 33 → get_or sizes size false ≡ any_sized size (take i ms))
    → (size : ℕ) → size < 33 → get_or (set sizes (length x) true) size false ≡ any_sized size (take (i + 1) ms)
sizes_more sizes ms i x is within before size small =
    go (nat_eq (length x) size) refl
    ∙ sym (list_any_more (λ (member : List ℕ). nat_eq (length member) size) ms i x (slice_get_within ms i x is)
    ∙ ap (λ (m : List ℕ). any_sized size (take i ms) || nat_eq (length m) size) (get_or_from_slice_get ms i x x is))
  where
    go : (t : Bool) → nat_eq (length x) size ≡ t → get_or (set sizes (length x) true) size false ≡ (any_sized size (take i ms) || nat_eq (length x) size)
    go true same =
        get_or-set_at sizes (length x) size true false (sym (eqb-true (length x) size same)) within
        ∙ sym (ap (λ (t : Bool). any_sized size (take i ms) || t) same ∙ or-true (any_sized size (take i ms)))
    go false other =
        get_or-set_other sizes (length x) size true false (λ e. false≢true (sym other ∙ alike (length x) size (sym e)))
        ∙ before size small
        ∙ sym (ap (λ (t : Bool). any_sized size (take i ms) || t) other ∙ or-false (any_sized size (take i ms)))
