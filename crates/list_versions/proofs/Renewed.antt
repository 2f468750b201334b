-- The newest sets of the lists of a history that grew.
use Rattle.std.proofs.Common.{◌≡◌, ℕ, zero, suc, ◌+◌, ◌<◌, ◌≤◌, List, [], ◌∷◌, ◌++◌, length, take, drop, map, get_or, fold, refl, sym, ap, subst, ◌∙◌, arith, Bool, true, false, nat_lt, not, ◌&&◌, ◌||◌}
use Rattle.std.specs.Prelude.{All}
use Rattle.std.proofs.lemmas.List.{take_more, map-append, take-append-drop, take_all, get_or-take, get_or_default, length-map}
use Rattle.std.proofs.Math.ListN.{get_or-map}
use Rattle.std.proofs.lemmas.Bool.Decides.{nat_tests}
use borrow.Author.Count.{below_more}
use Rattle.sb_model.specs.declared.history.Added.{Added}
use Rattle.sb_model.specs.declared.history.Change.{Change}
use Rattle.sb_model.specs.declared.names.ListName.{ListName}
use Rattle.sb_model.specs.History.{after_change, sizes_at, prefix_of, prefixes_at}
use Rattle.sb_model.specs.Prefixes.{set_of}
use Rattle.sb_model.specs.Names.{same_name}
use Rattle.list_versions.specs.declared.draft.Draft.{Draft}
use Rattle.list_versions.specs.declared.draft.Listed.{Listed}
use Rattle.list_versions.specs.declared.newest.Newest.{Newest}
use Rattle.list_versions.specs.declared.renewing.Before.{Before}
use Rattle.list_versions.specs.Draft.{declared_of, history_of, KeepsFront}
use Rattle.list_versions.specs.Loaded.{IsNewest}
use Rattle.list_versions.specs.Renewing.{WasNewest, concerns, stays}
use Rattle.list_versions.proofs.Keeping.{keeps_longer, length_declared, names_front}

pub names_more : (newest grown : List Newest) (lists : List Listed) (i : ℕ) (next : Newest) → i < length lists → grown ≡ newest ++ next ∷ [] → ((d : Listed) → next.name ≡ (get_or lists i d).name)
    → map (λ (n : Newest). n.name) newest ≡ map (λ (l : Listed). l.name) (take i lists) → map (λ (n : Newest). n.name) grown ≡ map (λ (l : Listed). l.name) (take (i + 1) lists)
names_more newest grown lists i next lt e name names = go (get_or-some lists i lt)
  where
    get_or-some : (ls : List Listed) (k : ℕ) → k < length ls → Listed
    get_or-some [] k h = absurd (omega arith)
    get_or-some (l ∷ ls) k h = l

    go : Listed → map (λ (n : Newest). n.name) grown ≡ map (λ (l : Listed). l.name) (take (i + 1) lists)
    go d = ap (map (λ (n : Newest). n.name)) e ∙ map-append {B = ListName} (λ (n : Newest). n.name) newest (next ∷ [])
        ∙ ap (λ ns. ns ++ next.name ∷ []) names ∙ ap (λ n. map (λ (l : Listed). l.name) (take i lists) ++ n ∷ []) (name d)
        ∙ sym (map-append {B = ListName} (λ (l : Listed). l.name) (take i lists) (get_or lists i d ∷ [])) ∙ ap (map (λ (l : Listed). l.name)) (sym (take_more lists i d lt))

pub renewed_more : (draft : Draft) (before : Before) (newest grown : List Newest) (i : ℕ) (next : Newest) → length newest ≡ i → grown ≡ newest ++ next ∷ []
    → ((k : ℕ) (d : Newest) → k < i → stays draft.changes.items before k (get_or newest k d).name ≡ false → IsNewest (history_of draft) (get_or newest k d))
    → (stays draft.changes.items before i next.name ≡ false → IsNewest (history_of draft) next)
    → (k : ℕ) (d : Newest) → k < i + 1 → stays draft.changes.items before k (get_or grown k d).name ≡ false → IsNewest (history_of draft) (get_or grown k d)
renewed_more draft before newest grown i next long e old new k d h =
    let P : ℕ → Newest → Type 0 = λ j n. stays draft.changes.items before j n.name ≡ false → IsNewest (history_of draft) n in
    below_more (λ (j : ℕ). P j (get_or grown j d)) i
    (λ j l. subst (P j) (sym (ap (λ ns. get_or ns j d) e ∙ at_left newest next j d (omega (arith, l, long)))) (old j d l))
    (subst (P i) (sym (ap (λ ns. get_or ns i d) e ∙ at_end newest next i d long)) new) k h
  where
    at_left : (xs : List Newest) (y : Newest) (j : ℕ) (d : Newest) → j < length xs → get_or (xs ++ y ∷ []) j d ≡ get_or xs j d
    at_left [] y j d h = absurd (omega arith)
    at_left (x ∷ xs) y zero d h = refl
    at_left (x ∷ xs) y (suc j) d h = at_left xs y j d (omega (arith, h))

    at_end : (xs : List Newest) (y : Newest) (j : ℕ) (d : Newest) → length xs ≡ j → get_or (xs ++ y ∷ []) j d ≡ y
    at_end [] y zero d h = refl
    at_end [] y (suc j) d h = absurd (omega arith)
    at_end (x ∷ xs) y zero d h = absurd (omega arith)
    at_end (x ∷ xs) y (suc j) d h = at_end xs y j d (omega (arith, h))

-- ---- the sets that stay

no_change : (name : ListName) (entries : List Added) (change : Change) (b : Bool) → same_name change.list name ≡ b → b ≡ false → after_change name entries change ≡ entries
no_change name entries change true e h = absurd (cc)
no_change name entries change false e h = rw e refl

both_false : (a b : Bool) → (a || b) ≡ false → (a ≡ false) × (b ≡ false)
both_false true b h = absurd (cc)
both_false false b h = (refl, h)

no_concern : (name : ListName) (changes : List Change) (entries : List Added) → concerns changes name ≡ false → fold (after_change name) entries changes ≡ entries
no_concern name [] entries h = refl
no_concern name (change ∷ changes) entries h =
    let parts = both_false (same_name change.list name) (concerns changes name) h in
    ap (λ es. fold (after_change name) es changes) (no_change name entries change (same_name change.list name) refl parts.0) ∙ no_concern name changes entries parts.1

fold_both : (f : List Added → Change → List Added) (a : List Added) (xs ys : List Change) → fold f a (xs ++ ys) ≡ fold f (fold f a xs) ys
fold_both f a [] ys = refl
fold_both f a (x ∷ xs) ys = fold_both f (f a x) xs ys

sizes_unchanged : (old new : Draft) (name : ListName) → KeepsFront old new → concerns (drop (length old.changes.items) new.changes.items) name ≡ false
    → sizes_at (history_of new) name (length new.changes.items) ≡ sizes_at (history_of old) name (length old.changes.items)
sizes_unchanged old new name keeps none =
    let n = length old.changes.items in
    let whole : take (length new.changes.items) new.changes.items ≡ old.changes.items ++ drop n new.changes.items =
    take_all (length new.changes.items) new.changes.items (omega arith) ∙ sym (take-append-drop n new.changes.items) ∙ ap (λ cs. cs ++ drop n new.changes.items) keeps.changes in
    ap (fold (after_change name) []) whole ∙ fold_both (after_change name) [] old.changes.items (drop n new.changes.items)
    ∙ no_concern name (drop n new.changes.items) (fold (after_change name) [] old.changes.items) none
    ∙ ap (fold (after_change name) []) (sym (take_all n old.changes.items (omega arith)))

stays_new : (old new : Draft) (newest : Newest) → KeepsFront old new → concerns (drop (length old.changes.items) new.changes.items) newest.name ≡ false → IsNewest (history_of old) newest → IsNewest (history_of new) newest
stays_new old new newest keeps none h = record {
  set = h.set ∙ ap (λ es. set_of (map prefix_of es)) (sym (sizes_unchanged old new newest.name keeps none));
  digest = h.digest;
  numbers = h.numbers;
}

-- what is known of the sets that are taken from those before
pub record IsTaken (changes : List Change) (at : Before) (newest before taken : List Newest) : Type 0 where
  pub long : length taken ≡ length newest
  pub others : (k : ℕ) (d : Newest) → length before ≤ k → get_or taken k d ≡ get_or newest k d
  pub kept : (k : ℕ) (d : Newest) → k < length before → stays changes at k (get_or before k d).name ≡ true → get_or taken k d ≡ get_or before k d
  pub renewed : (k : ℕ) (d : Newest) → k < length before → stays changes at k (get_or before k d).name ≡ false → get_or taken k d ≡ get_or newest k d

last_true : (a b : Bool) → (a && not b) ≡ true → b ≡ false
last_true true true h = absurd (cc)
last_true true false h = refl
last_true false b h = absurd (cc)

past_none : (k n : ℕ) (b : Bool) → n ≤ k → (nat_lt k n && b) ≡ false
past_none k n b h = let past : nat_lt k n ≡ false = grind (arith, nat_tests) in rw past refl

abbrev pub first_of : Draft → Before
first_of draft = record { lists = length draft.lists.items; changes = length draft.changes.items }

name_get : (newest : List Newest) (k : ℕ) (d : Newest) → get_or (map (λ (n : Newest). n.name) newest) k d.name ≡ (get_or newest k d).name
name_get newest k d = get_or-map (λ (n : Newest). n.name) newest k d

-- the sets of the lists that were there have the names of those before
names_before : (old new : Draft) (newest before : List Newest) → KeepsFront old new → map (λ (n : Newest). n.name) before ≡ map (λ (l : Listed). l.name) old.lists.items
    → map (λ (n : Newest). n.name) newest ≡ map (λ (l : Listed). l.name) new.lists.items → (k : ℕ) (d : Newest) → k < length old.lists.items → (get_or before k d).name ≡ (get_or newest k d).name
names_before old new newest before keeps names_old names_new k d lt =
    sym (name_get before k d) ∙ ap (λ ns. get_or ns k d.name) (names_old ∙ sym (names_front old new keeps) ∙ ap (take (length old.lists.items)) (sym names_new))
    ∙ get_or-take (length old.lists.items) (map (λ (n : Newest). n.name) newest) k d.name lt ∙ name_get newest k d

names_length : (newest : List Newest) (lists : List Listed) → map (λ (n : Newest). n.name) newest ≡ map (λ (l : Listed). l.name) lists → length newest ≡ length lists
names_length newest lists h = omega (arith, ap length h, length-map {B = ListName} newest (λ (n : Newest). n.name), length-map {B = ListName} lists (λ (l : Listed). l.name))

pub newest_longer : (old new : Draft) (newest before : List Newest) → KeepsFront old new → map (λ (n : Newest). n.name) before ≡ map (λ (l : Listed). l.name) old.lists.items
    → map (λ (n : Newest). n.name) newest ≡ map (λ (l : Listed). l.name) new.lists.items → length before ≤ length newest
newest_longer old new newest before keeps names_old names_new = omega (arith, names_length before old.lists.items names_old, names_length newest new.lists.items names_new, keeps_longer old new keeps)

same_names : (xs ys : List Newest) → length xs ≡ length ys → ((k : ℕ) (d : Newest) → k < length xs → (get_or xs k d).name ≡ (get_or ys k d).name) → map (λ (n : Newest). n.name) xs ≡ map (λ (n : Newest). n.name) ys
same_names [] [] e h = refl
same_names [] (y ∷ ys) e h = absurd (omega arith)
same_names (x ∷ xs) [] e h = absurd (omega arith)
same_names (x ∷ xs) (y ∷ ys) e h =
    (λ i. h zero x (omega arith) i ∷ map (λ (n : Newest). n.name) xs) ∙ ap (λ ns. y.name ∷ ns) (same_names xs ys (omega (arith, e)) (λ k d lt. h (suc k) d (omega (arith, lt))))

-- what a place holds
abbrev IsGood : Draft → Newest → Newest → Type 0
IsGood new made found = (found.name ≡ made.name) × IsNewest (history_of new) found

good_at : (old new : Draft) (newest before taken : List Newest) → KeepsFront old new
    → map (λ (n : Newest). n.name) before ≡ map (λ (l : Listed). l.name) old.lists.items
    → map (λ (n : Newest). n.name) newest ≡ map (λ (l : Listed). l.name) new.lists.items
    → All (IsNewest (history_of old)) before
    → ((k : ℕ) (d : Newest) → k < length newest → stays new.changes.items (first_of old) k (get_or newest k d).name ≡ false → IsNewest (history_of new) (get_or newest k d))
    → IsTaken new.changes.items (first_of old) newest before taken
    → (k : ℕ) (d : Newest) → k < length newest → (b c : Bool) → nat_lt k (length before) ≡ b → stays new.changes.items (first_of old) k (get_or before k d).name ≡ c
    → IsGood new (get_or newest k d) (get_or taken k d)
good_at old new newest before taken keeps names_old names_new each made h k d lt false c e f =
    let past : length before ≤ k = grind (arith, nat_tests) in
    let long = names_length before old.lists.items names_old in
    let is = h.others k d past in
    let none = past_none k (length old.lists.items) (not (concerns (drop (length old.changes.items) new.changes.items) (get_or newest k d).name)) (omega arith) in
    (ap (λ (n : Newest). n.name) is, subst (IsNewest (history_of new)) (sym is) (made k d lt none))
good_at old new newest before taken keeps names_old names_new each made h k d lt true true e f =
    let below : k < length before = grind (arith, nat_tests) in
    let long = names_length before old.lists.items names_old in
    let is = h.kept k d below f in
    let none = last_true (nat_lt k (length old.lists.items)) (concerns (drop (length old.changes.items) new.changes.items) (get_or before k d).name) f in (
      ap (λ (n : Newest). n.name) is ∙ names_before old new newest before keeps names_old names_new k d (omega arith),
      subst (IsNewest (history_of new)) (sym is) (stays_new old new (get_or before k d) keeps none (each k d below)),
    )
good_at old new newest before taken keeps names_old names_new each made h k d lt true false e f =
    let below : k < length before = grind (arith, nat_tests) in
    let long = names_length before old.lists.items names_old in
    let is = h.renewed k d below f in
    let name = names_before old new newest before keeps names_old names_new k d (omega arith) in (
      ap (λ (n : Newest). n.name) is,
      subst (IsNewest (history_of new)) (sym is) (made k d lt (ap (stays new.changes.items (first_of old) k) (sym name) ∙ f)),
    )

-- the newest sets of a history that grew
pub record AreNewest (new : Draft) (taken : List Newest) : Type 0 where
  pub names : map (λ (n : Newest). n.name) taken ≡ map (λ (l : Listed). l.name) new.lists.items
  pub each : All (IsNewest (history_of new)) taken

pub are_newest : (old new : Draft) (newest before taken : List Newest) → KeepsFront old new
    → map (λ (n : Newest). n.name) before ≡ map (λ (l : Listed). l.name) old.lists.items
    → map (λ (n : Newest). n.name) newest ≡ map (λ (l : Listed). l.name) new.lists.items
    → All (IsNewest (history_of old)) before
    → ((k : ℕ) (d : Newest) → k < length newest → stays new.changes.items (first_of old) k (get_or newest k d).name ≡ false → IsNewest (history_of new) (get_or newest k d))
    → IsTaken new.changes.items (first_of old) newest before taken → AreNewest new taken
are_newest old new newest before taken keeps names_old names_new each made h =
    let long : length taken ≡ length newest = h.long in
    let good : (k : ℕ) (d : Newest) → k < length newest → IsGood new (get_or newest k d) (get_or taken k d) =
    λ k d lt. good_at old new newest before taken keeps names_old names_new each made h k d lt (nat_lt k (length before)) (stays new.changes.items (first_of old) k (get_or before k d).name) refl refl in
    record {
      names = same_names taken newest long (λ k d lt. (good k d (omega arith)).0) ∙ names_new;
      each = λ k d lt. (good k d (omega arith)).1;
    }

-- the sets that were there are those of the version before
pub was_newest : (old new : Draft) (newest : List Newest) → KeepsFront old new → All (IsNewest (history_of old)) newest → map (λ (n : Newest). n.name) newest ≡ map (λ (l : Listed). l.name) old.lists.items
    → (k : ℕ) (l : Listed) (d : Newest) → k < length newest → WasNewest new (first_of old) (get_or new.lists.items k l) (get_or newest k d)
was_newest old new newest keeps each names k l d lt =
    let lt_old : k < length old.lists.items = omega (arith, lt, names_length newest old.lists.items names) in
    let lt_new : k < length (map (λ (x : Listed). x.name) new.lists.items) = omega (arith, lt_old, keeps_longer old new keeps, length-map {B = ListName} new.lists.items (λ (x : Listed). x.name)) in
    let name : (get_or newest k d).name ≡ (get_or new.lists.items k l).name =
    sym (name_get newest k d) ∙ ap (λ ns. get_or ns k d.name) (names ∙ sym (names_front old new keeps))
    ∙ get_or-take (length old.lists.items) (map (λ (x : Listed). x.name) new.lists.items) k d.name lt_old
    ∙ get_or_default (map (λ (x : Listed). x.name) new.lists.items) k d.name l.name lt_new ∙ get_or-map (λ (x : Listed). x.name) new.lists.items k l in
    let n = length old.changes.items in
    let sizes : sizes_at (history_of old) (get_or newest k d).name n ≡ sizes_at (history_of new) (get_or newest k d).name n =
    ap (fold (after_change (get_or newest k d).name) []) (take_all n old.changes.items (omega arith) ∙ sym keeps.changes) in
    record {
      name = name;
      numbers = (each k d lt).numbers;
      set = (each k d lt).set ∙ ap (λ es. set_of (map prefix_of es)) sizes ∙ ap (λ (nm : ListName). prefixes_at (history_of new) nm n) name;
    }

-- ---- where there were no lists

none_below : (k n : ℕ) → n ≡ 0 → nat_lt k n ≡ false
none_below k n e = grind (arith, nat_tests)

and_none : (a b : Bool) → a ≡ false → (a && b) ≡ false
and_none true b h = absurd (cc)
and_none false b h = refl

pub all_renewed : (old new : Draft) (newest : List Newest) → declared_of old.lists.items ≡ []
    → ((k : ℕ) (d : Newest) → k < length newest → stays new.changes.items (first_of old) k (get_or newest k d).name ≡ false → IsNewest (history_of new) (get_or newest k d)) → All (IsNewest (history_of new)) newest
all_renewed old new newest none h = λ k d lt.
    let long : length old.lists.items ≡ 0 = omega (arith, ap length none, length_declared old.lists.items) in
    h k d lt (and_none (nat_lt k (length old.lists.items)) _ (none_below k (length old.lists.items) long))
