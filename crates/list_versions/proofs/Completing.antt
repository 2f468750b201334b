-- A change that has come whole.
use Rattle.std.proofs.Common.{◌≡◌, ℕ, ◌+◌, ◌<◌, ◌≤◌, nat_lt, nat_le, List, [], ◌∷◌, ◌++◌, Bool, true, false, ◌||◌, if◌then◌else◌, length, take, refl, sym, ap, ◌∙◌, subst, arith, fold, Option, Some, None, Result, Ok, Err, length-append, eq-eqb, ◌⊎◌, inl, inr}
use Rattle.std.specs.Prelude.{All}
use Rattle.std.specs.List.{list_any}
use Rattle.std.proofs.lemmas.Bool.{cases_lt}
use Rattle.std.proofs.lemmas.Bool.Decides.{nat_tests}
use Rattle.std.proofs.lemmas.List.{take-append-le, take_all, length-map}
use Rattle.std.proofs.lemmas.List.Elements.{All-push, All-weaker, All-head, All-tail, All-take}
use Rattle.std.proofs.lemmas.List.Sums.{sum_by-append}
use Rattle.sb_model.specs.declared.history.Added.{Added}
use Rattle.sb_model.specs.declared.history.Change.{Change}
use Rattle.sb_model.specs.declared.names.ListName.{ListName}
use Rattle.sb_model.specs.History.{History, after_change, sizes_at, version_count, declares, IsPrefixSize}
use Rattle.sb_model.specs.Names.{same_name}
use Rattle.list_versions.specs.Lines.{IsAdded}
use Rattle.list_versions.specs.Limits.{KeepsToLimits, WithinLimits, limit_fault_at, is_crowded, prefix_bytes, most_hashes, most_prefix_bytes, hash_lines, most_declared_lists}
use Rattle.list_versions.specs.Journal.{LineReading, settled, is_complete, if_within_limits, with_change, change_of, next_line, lines_begun, after_list}
use Rattle.list_versions.specs.Draft.{declared_of, history_of, kept_of_draft, IsDraft, begun_of}
use Rattle.list_versions.specs.Ends.{adds_if, adds_of}
use Rattle.list_versions.specs.Folding.{after_changes}
use Rattle.list_versions.specs.Live.{Holds, HasPlaced, IsPlaced}
use Rattle.list_versions.proofs.Versions.{ends_nothing}
use Rattle.list_versions.specs.declared.draft.Begin.{Begin}
use Rattle.list_versions.specs.declared.draft.Draft.{Draft}
use Rattle.list_versions.specs.declared.draft.Listed.{Listed}
use Rattle.list_versions.specs.declared.fault.JournalFault.{JournalFault}
use Rattle.list_versions.specs.declared.fault.JournalFault.TheVariants as fault
use Rattle.list_versions.proofs.Applying.{IsApplied}
use Rattle.list_versions.proofs.Crowds.{uncrowded}
use Rattle.list_versions.proofs.NameCodes.{names_same}

-- ---- versions

pub fold_both : (f : List Added → Change → List Added) (a : List Added) (xs ys : List Change) → fold f a (xs ++ ys) ≡ fold f (fold f a xs) ys
fold_both f a [] ys = refl
fold_both f a (x ∷ xs) ys = fold_both f (f a x) xs ys

pub sizes_old : (history : History) (change : Change) (list : ListName) (version : ℕ) → version ≤ length history.changes → sizes_at (with_change change history) list version ≡ sizes_at history list version
sizes_old history change list version h = ap (fold (after_change list) []) (take-append-le version history.changes (change ∷ []) h)

pub sizes_new : (history : History) (change : Change) (list : ListName) (version : ℕ) → version ≡ length history.changes + 1
    → sizes_at (with_change change history) list version ≡ after_change list (sizes_at history list (length history.changes)) change
sizes_new history change list version h =
    ap (fold (after_change list) []) (take_all version (history.changes ++ change ∷ []) (omega (arith, h, length-append history.changes (change ∷ []))))
    ∙ fold_both (after_change list) [] history.changes (change ∷ [])
    ∙ ap (λ xs. after_change list (fold (after_change list) [] xs) change) (sym (take_all (length history.changes) history.changes (omega arith)))

-- ---- limits

none_cases : (a b c : Bool) (x y : JournalFault) → (if a || b then Some x else (if c then Some y else None)) ≡ None → (a ≡ false) × (b ≡ false) × (c ≡ false)
none_cases false false false x y h = (refl, refl, refl)
none_cases true b c x y h = absurd (cc)
none_cases false true c x y h = absurd (cc)
none_cases false false true x y h = absurd (cc)

not_above : (m n : ℕ) → nat_lt m n ≡ false → n ≤ m
not_above m n h = grind (arith, nat_tests)

pub within_limits : (n : ℕ) (entries : List Added) → limit_fault_at n entries ≡ None → KeepsToLimits entries
within_limits n entries h =
    let none = none_cases (nat_lt most_hashes (length entries)) (is_crowded entries) (nat_lt most_prefix_bytes (prefix_bytes entries)) _ _ h in
    record { count = not_above most_hashes (length entries) none.0; uncrowded = uncrowded entries none.1; bytes = not_above most_prefix_bytes (prefix_bytes entries) none.2 }

-- a list after a change, of which the own list is within the limits
within_at : (change : Change) (list : ListName) (before : ListName → List Added) (b : Bool) → same_name change.list list ≡ b → KeepsToLimits (before list) → KeepsToLimits (after_change change.list (before change.list) change)
    → KeepsToLimits (after_change list (before list) change)
within_at change list before true e old own = subst (λ (l : ListName). KeepsToLimits (after_change l (before l) change)) (names_same change.list list e) own
within_at change list before false e old own = rw e old

pub within_new : (history : History) (change : Change) (n : ℕ) → WithinLimits history → limit_fault_at n (after_change change.list (sizes_at history change.list (length history.changes)) change) ≡ None → WithinLimits (with_change change history)
within_new history change n within none list version h =
    let long = length-append history.changes (change ∷ []) in
    within_version (cases_lt version (length history.changes + 1))
  where
    within_version : ((version < length history.changes + 1) ⊎ (length history.changes + 1 ≤ version)) → KeepsToLimits (sizes_at (with_change change history) list version)
    within_version (inl lt) = rw (sizes_old history change list version (omega arith)) (within list version (omega arith))
    within_version (inr ge) =
        let long = length-append history.changes (change ∷ []) in
        rw (sizes_new history change list version (omega (arith, long, h)))
        (within_at change list (λ l. sizes_at history l (length history.changes)) _ refl (within list (length history.changes) (omega arith)) (within_limits n _ none))

-- ---- the draft

pub any_declared : (name : ListName) (lists : List Listed) → list_any (λ (list : Listed). same_name list.name name) lists ≡ list_any (λ (list : ListName × ℕ). same_name list.0 name) (declared_of lists)
any_declared name [] = refl
any_declared name (x ∷ xs) = ap (λ b. same_name x.name name || b) (any_declared name xs)

pub history_completed : (old new : Draft) (change : Change) → new.epoch ≡ old.epoch → declared_of new.lists.items ≡ declared_of old.lists.items → new.changes.items ≡ old.changes.items ++ change ∷ [] → history_of new ≡ with_change change (history_of old)
history_completed old new change e d c = λ i. record { epoch = e i; declared = d i; changes = c i }

pub history_is : (epoch : ℕ) (declared declared' : List (ListName × ℕ)) (changes changes' : List Change) (change : Change) → declared' ≡ declared → changes' ≡ changes ++ change ∷ []
    → let new : History = record { epoch = epoch; declared = declared'; changes = changes' } in new ≡ with_change change (record { epoch = epoch; declared = declared; changes = changes })
history_is epoch declared declared' changes changes' change d c = λ i. record { epoch = epoch; declared = d i; changes = c i }

pub hash_lines_more : (changes : List Change) (change : Change) → hash_lines (changes ++ change ∷ []) ≡ hash_lines changes + (length change.adds + length change.removes)
hash_lines_more changes change = sum_by-append (λ (c : Change). length c.adds + length c.removes) changes (change ∷ []) ∙ ap (λ n. hash_lines changes + n) (one (length change.adds + length change.removes))
  where
    one : (n : ℕ) → 0 + n ≡ n
    one n = omega arith

pub draft_completed : (old new : Draft) (change : Change) (n : ℕ) → IsDraft old → new.epoch ≡ old.epoch → declared_of new.lists.items ≡ declared_of old.lists.items → new.changes.items ≡ old.changes.items ++ change ∷ []
    → new.hashes ≡ old.hashes + (length change.adds + length change.removes)
    → All (IsApplied change (λ name. sizes_at (history_of old) name (length old.changes.items))) new.lists.items
    → limit_fault_at n (after_change change.list (sizes_at (history_of old) change.list (length old.changes.items)) change) ≡ None
    → length old.changes.items < 65536 → old.hashes + (length change.adds + length change.removes) ≤ 2097152 → declares (history_of old) change.list ≡ true
    → All IsAdded change.adds → All (λ (hash : List ℕ). length hash ≡ 32) change.removes → All (λ (list : Listed). HasPlaced list.name (old.changes.items ++ change ∷ []) list.live) new.lists.items → IsDraft new
draft_completed old new change n draft epoch declared changes hashes applied none few count named adds removes placed =
    let history = history_completed old new change epoch declared changes in
    let long = ap length changes ∙ length-append old.changes.items (change ∷ []) in
    record {
      hashes = hashes ∙ ap (λ m. m + (length change.adds + length change.removes)) draft.hashes ∙ sym (hash_lines_more old.changes.items change) ∙ ap hash_lines (sym changes);
      few_lists = omega (arith, ap length declared, draft.few_lists, length-map {B = ListName × ℕ} new.lists.items (λ (l : Listed). (l.name, l.size)), length-map {B = ListName × ℕ} old.lists.items (λ (l : Listed). (l.name, l.size)));
      few_changes = omega (arith, long);
      few_hashes = omega (arith, hashes);
      live = All-weaker (IsApplied change (λ name. sizes_at (history_of old) name (length old.changes.items))) (λ (list : Listed). Holds list.live (sizes_at (history_of new) list.name (length new.changes.items)))
          (λ list h. subst (λ es. Holds list.live es) (sym (ap (λ (v : History). sizes_at v list.name (length new.changes.items)) history ∙ sizes_new (history_of old) change list.name (length new.changes.items) (omega (arith, long)))) h) new.lists.items applied;
      declared = subst (λ cs. All (λ (c : Change). declares (history_of new) c.list ≡ true) cs) (sym changes)
          (All-push (λ (c : Change). declares (history_of new) c.list ≡ true) old.changes.items change
          (All-weaker (λ (c : Change). declares (history_of old) c.list ≡ true) (λ (c : Change). declares (history_of new) c.list ≡ true) (λ c h. ap (λ ds. list_any (λ (list : ListName × ℕ). same_name list.0 c.list) ds) declared ∙ h) old.changes.items draft.declared)
          (ap (λ ds. list_any (λ (list : ListName × ℕ). same_name list.0 change.list) ds) declared ∙ named));
      within = subst WithinLimits (sym history) (within_new (history_of old) change n draft.within none);
      well_formed = record {
        declared = subst (λ ds. All (λ (list : ListName × ℕ). IsPrefixSize list.1) ds) (sym declared) draft.well_formed.declared;
        adds = subst (λ cs. All (λ (c : Change). All (λ (added : Added). (length added.hash ≡ 32) × IsPrefixSize added.size) c.adds) cs) (sym changes)
            (All-push (λ (c : Change). All (λ (added : Added). (length added.hash ≡ 32) × IsPrefixSize added.size) c.adds) old.changes.items change draft.well_formed.adds
            (All-weaker IsAdded (λ (added : Added). (length added.hash ≡ 32) × IsPrefixSize added.size) (λ added h. (h.hash, h.size)) change.adds adds));
        removes = subst (λ cs. All (λ (c : Change). All (λ (hash : List ℕ). length hash ≡ 32) c.removes) cs) (sym changes)
            (All-push (λ (c : Change). All (λ (hash : List ℕ). length hash ≡ 32) c.removes) old.changes.items change draft.well_formed.removes removes);
      };
      placed = subst (λ (cs : List Change). All (λ (list : Listed). HasPlaced list.name cs list.live) new.lists.items) (sym changes) placed;
    }

-- ---- what the last line does

settled_done : (b : Bool) (done waiting : Result LineReading JournalFault) → b ≡ true → (if b then done else waiting) ≡ done
settled_done true done waiting h = refl
settled_done false done waiting h = absurd (cc)

complete_is : (begin : Begin) (adds : List Added) (removes : List (List ℕ)) → length adds ≡ begin.to_add → length removes ≡ begin.to_remove → is_complete (begun_of begin adds removes) ≡ true
complete_is begin adds removes a r = rw (eq-eqb _ _ a, eq-eqb _ _ r) refl

pub at_the_end : (old : Draft) (begin : Begin) (adds : List Added) (removes : List (List ℕ)) (change : Change) (line : ℕ) (answer : Option JournalFault) → length adds ≡ begin.to_add → length removes ≡ begin.to_remove
    → change ≡ change_of (begun_of begin adds removes) → line ≡ next_line (history_of old) + lines_begun (begun_of begin adds removes)
    → answer ≡ limit_fault_at line (after_change change.list (sizes_at (history_of old) change.list (length old.changes.items)) change)
    → (seen : List ℕ) → settled (kept_of_draft old seen) (begun_of begin adds removes) ≡ if_within_limits (record (kept_of_draft old seen) { versions = with_change change (history_of old) }) answer
at_the_end old begin adds removes change line answer a r c l h seen =
    let begun = begun_of begin adds removes in
    let versions = with_change change (history_of old) in
    let long = length-append old.changes.items (change ∷ []) in
    let sizes = sizes_new (history_of old) change change.list (version_count versions) (omega (arith, long)) in
    settled_done (is_complete begun) _ _ (complete_is begin adds removes a r)
    ∙ ap (λ (c' : Change). if_within_limits (record (kept_of_draft old seen) { versions = with_change c' (history_of old) }) (limit_fault_at (next_line (history_of old) + lines_begun begun) (sizes_at (with_change c' (history_of old)) c'.list (version_count (with_change c' (history_of old)))))) (sym c)
    ∙ ap (λ m. if_within_limits (record (kept_of_draft old seen) { versions = versions }) (limit_fault_at m (sizes_at versions change.list (version_count versions)))) (sym l)
    ∙ ap (λ es. if_within_limits (record (kept_of_draft old seen) { versions = versions }) (limit_fault_at line es)) sizes
    ∙ ap (if_within_limits (record (kept_of_draft old seen) { versions = versions })) (sym h)

-- ---- a list that is declared

any_more : (p : ListName × ℕ → Bool) (xs ys : List (ListName × ℕ)) → list_any p xs ≡ true → list_any p (xs ++ ys) ≡ true
any_more p [] ys h = absurd (cc)
any_more p (x ∷ xs) ys h = or_more (p x) (list_any p xs) (list_any p (xs ++ ys)) (any_more p xs ys) h
  where
    or_more : (a b c : Bool) → (b ≡ true → c ≡ true) → (a || b) ≡ true → (a || c) ≡ true
    or_more true b c f h = refl
    or_more false b c f h = f h

pub no_change : (name : ListName) (change : Change) (b : Bool) → same_name change.list name ≡ b → b ≡ false → after_change name [] change ≡ []
no_change name change true e h = absurd (cc)
no_change name change false e h = rw e refl

pub no_changes : (name : ListName) (changes : List Change) → All (λ (c : Change). same_name c.list name ≡ false) changes → fold (after_change name) [] changes ≡ []
no_changes name [] h = refl
no_changes name (change ∷ changes) h =
    ap (λ es. fold (after_change name) es changes) (no_change name change false (All-head (λ (c : Change). same_name c.list name ≡ false) change changes h) refl)
    ∙ no_changes name changes (All-tail (λ (c : Change). same_name c.list name ≡ false) change changes h)

pub other_name : (history : History) (name list : ListName) (b : Bool) → same_name list name ≡ b → declares history name ≡ false → declares history list ≡ true → b ≡ false
other_name history name list true e absent is = let same = ap (λ n. declares history n) (names_same list name e) in absurd (cc)
other_name history name list false e absent is = refl

pub no_sizes : (draft : Draft) (name : ListName) → IsDraft draft → declares (history_of draft) name ≡ false → sizes_at (history_of draft) name (length draft.changes.items) ≡ []
no_sizes draft name h absent =
    ap (fold (after_change name) []) (take_all (length draft.changes.items) draft.changes.items (omega arith))
    ∙ no_changes name draft.changes.items (All-weaker (λ (c : Change). declares (history_of draft) c.list ≡ true) (λ (c : Change). same_name c.list name ≡ false) (λ c k. other_name (history_of draft) name c.list _ refl absent k) draft.changes.items h.declared)

others_of : (draft : Draft) (name : ListName) → IsDraft draft → declares (history_of draft) name ≡ false → All (λ (c : Change). same_name c.list name ≡ false) draft.changes.items
others_of draft name h absent =
    All-weaker (λ (c : Change). declares (history_of draft) c.list ≡ true) (λ (c : Change). same_name c.list name ≡ false) (λ c k. other_name (history_of draft) name c.list _ refl absent k) draft.changes.items h.declared

pub no_sizes_at : (draft : Draft) (name : ListName) → IsDraft draft → declares (history_of draft) name ≡ false → (version : ℕ) → after_changes name (take version draft.changes.items) ≡ []
no_sizes_at draft name h absent version =
    no_changes name (take version draft.changes.items) (All-take (λ (c : Change). same_name c.list name ≡ false) version draft.changes.items (others_of draft name h absent))

no_add : (name : ListName) (change : Change) (b : Bool) → same_name change.list name ≡ b → b ≡ false → adds_if b change.adds ≡ []
no_add name change true e h = absurd (cc)
no_add name change false e h = refl

none_added : (name : ListName) (changes : List Change) → All (λ (c : Change). same_name c.list name ≡ false) changes → adds_of name changes ≡ []
none_added name [] h = refl
none_added name (change ∷ changes) h =
    ap (λ (es : List Added). es ++ adds_of name changes) (no_add name change (same_name change.list name) refl (All-head (λ (c : Change). same_name c.list name ≡ false) change changes h))
    ∙ none_added name changes (All-tail (λ (c : Change). same_name c.list name ≡ false) change changes h)

pub no_adds : (draft : Draft) (name : ListName) → IsDraft draft → declares (history_of draft) name ≡ false → adds_of name draft.changes.items ≡ []
no_adds draft name h absent = none_added name draft.changes.items (others_of draft name h absent)

pub declared_more : (lists : List Listed) (listed : Listed) → declared_of (lists ++ listed ∷ []) ≡ declared_of lists ++ (listed.name, listed.size) ∷ []
declared_more [] listed = refl
declared_more (x ∷ xs) listed = ap (λ ds. (x.name, x.size) ∷ ds) (declared_more xs listed)

pub draft_declared : (old new : Draft) (listed : Listed) → IsDraft old → new.lists.items ≡ old.lists.items ++ listed ∷ [] → new.changes ≡ old.changes → new.hashes ≡ old.hashes
    → length old.lists.items < 8 → declares (history_of old) listed.name ≡ false → IsPrefixSize listed.size → Holds listed.live [] → IsPlaced listed.live [] → IsDraft new
draft_declared old new listed draft lists changes hashes few absent size live placed =
    let items = ap (λ cs. cs.items) changes in
    let declared = ap declared_of lists ∙ declared_more old.lists.items listed in
    let sizes : (name : ListName) → sizes_at (history_of new) name (length new.changes.items) ≡ sizes_at (history_of old) name (length old.changes.items) =
    λ name. ap (λ cs. fold (after_change name) [] (take (length cs) cs)) items in
    record {
      hashes = hashes ∙ draft.hashes ∙ ap hash_lines (sym items);
      few_lists = omega (arith, ap length lists, length-append old.lists.items (listed ∷ []));
      few_changes = omega (arith, ap length items, draft.few_changes);
      few_hashes = omega (arith, hashes, draft.few_hashes);
      live = subst (λ ls. All (λ (list : Listed). Holds list.live (sizes_at (history_of new) list.name (length new.changes.items))) ls) (sym lists)
          (All-push (λ (list : Listed). Holds list.live (sizes_at (history_of new) list.name (length new.changes.items))) old.lists.items listed
          (All-weaker (λ (list : Listed). Holds list.live (sizes_at (history_of old) list.name (length old.changes.items))) (λ (list : Listed). Holds list.live (sizes_at (history_of new) list.name (length new.changes.items))) (λ list h. subst (λ es. Holds list.live es) (sym (sizes list.name)) h) old.lists.items draft.live)
          (subst (λ es. Holds listed.live es) (sym (sizes listed.name ∙ no_sizes old listed.name draft absent)) live));
      declared = subst (λ cs. All (λ (c : Change). declares (history_of new) c.list ≡ true) cs) (sym items)
          (All-weaker (λ (c : Change). declares (history_of old) c.list ≡ true) (λ (c : Change). declares (history_of new) c.list ≡ true)
          (λ c h. ap (λ ds. list_any (λ (list : ListName × ℕ). same_name list.0 c.list) ds) declared ∙ any_more (λ (list : ListName × ℕ). same_name list.0 c.list) (declared_of old.lists.items) ((listed.name, listed.size) ∷ []) h) old.changes.items draft.declared);
      within = λ list version h. rw (ap (λ cs. fold (after_change list) [] (take version cs)) items) (draft.within list version (omega (arith, h, ap length items)));
      well_formed = record {
        declared = subst (λ ds. All (λ (list : ListName × ℕ). IsPrefixSize list.1) ds) (sym declared) (All-push (λ (list : ListName × ℕ). IsPrefixSize list.1) (declared_of old.lists.items) (listed.name, listed.size) draft.well_formed.declared size);
        adds = subst (λ cs. All (λ (c : Change). All (λ (added : Added). (length added.hash ≡ 32) × IsPrefixSize added.size) c.adds) cs) (sym items) draft.well_formed.adds;
        removes = subst (λ cs. All (λ (c : Change). All (λ (hash : List ℕ). length hash ≡ 32) c.removes) cs) (sym items) draft.well_formed.removes;
      };
      placed = subst (λ (ls : List Listed). All (λ (list : Listed). HasPlaced list.name new.changes.items list.live) ls) (sym lists)
          (subst (λ (cs : List Change). All (λ (list : Listed). HasPlaced list.name cs list.live) (old.lists.items ++ listed ∷ [])) (sym items)
          (All-push (λ (list : Listed). HasPlaced list.name old.changes.items list.live) old.lists.items listed draft.placed
          (record { lines = []; are = ends_nothing listed.name old.changes.items (no_adds old listed.name draft absent) (no_sizes_at old listed.name draft absent); placed = placed })));
    }

-- ---- a line that declares a list

list_twice : (b : Bool) (f : JournalFault) (other : Result LineReading JournalFault) → b ≡ true → (if b then Err f else other) ≡ Err f
list_twice true f other h = refl
list_twice false f other h = absurd (cc)

list_once : (b : Bool) (f : JournalFault) (other : Result LineReading JournalFault) → b ≡ false → (if b then Err f else other) ≡ other
list_once true f other h = absurd (cc)
list_once false f other h = refl

pub refused_twice : (draft : Draft) (name : ListName) (size line : ℕ) → declares (history_of draft) name ≡ true → line ≡ next_line (history_of draft) → (kept : List ℕ) → after_list (kept_of_draft draft kept) name size ≡ Err (fault.ListTwice line)
refused_twice draft name size line h e kept = list_twice (declares (history_of draft) name) _ _ h ∙ ap (λ n. Err (fault.ListTwice n)) (sym e)

pub refused_many : (draft : Draft) (name : ListName) (size line : ℕ) → declares (history_of draft) name ≡ false → 8 ≤ length (declared_of draft.lists.items) → line ≡ next_line (history_of draft) → (kept : List ℕ) → after_list (kept_of_draft draft kept) name size ≡ Err (fault.TooMany line)
refused_many draft name size line h many e kept =
    let full : nat_le most_declared_lists (length (declared_of draft.lists.items)) ≡ true = grind (arith, nat_tests) in
    list_once (declares (history_of draft) name) _ _ h ∙ list_twice (nat_le most_declared_lists (length (declared_of draft.lists.items))) _ _ full ∙ ap (λ n. Err (fault.TooMany n)) (sym e)

pub list_taken : (old : Draft) (name : ListName) (size : ℕ) (declared : List (ListName × ℕ)) → declares (history_of old) name ≡ false → length (declared_of old.lists.items) < 8 → declared ≡ declared_of old.lists.items ++ (name, size) ∷ []
    → (kept : List ℕ) → after_list (kept_of_draft old kept) name size ≡ Ok (record { kept = record { sized = old.sized; versions = record { epoch = old.epoch; declared = declared; changes = old.changes.items }; rest = [] }; begun = None })
list_taken old name size declared h few e kept =
    let room : nat_le most_declared_lists (length (declared_of old.lists.items)) ≡ false = grind (arith, nat_tests) in
    list_once (declares (history_of old) name) _ _ h ∙ list_once (nat_le most_declared_lists (length (declared_of old.lists.items))) _ _ room
    ∙ ap (λ ds. Ok (record { kept = record { sized = old.sized; versions = record { epoch = old.epoch; declared = ds; changes = old.changes.items }; rest = [] }; begun = None })) (sym e)
