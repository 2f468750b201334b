-- What a list has that is told anew.
use Rattle.std.proofs.Common.{◌≡◌, ◌∙◌, ◌⊎◌, inl, inr, ℕ, List, [], ◌∷◌, ◌++◌, Bool, true, false, cond, length, map, fold, filter, refl, sym, ap, subst, arith, append_assoc, append-nil}
use Rattle.std.specs.Prelude.{All, not}
use Rattle.std.specs.List.{AllByRecursion, IsDistinct, flat_map, list_any, range_with_len}
use Rattle.std.specs.List.Sorted.{IsStrictlySortedBy}
use Rattle.std.specs.Cmp.Lexicographic.{nat_list_eq_equiv}
use Rattle.std.specs.Ordering.{is_eq}
use Rattle.std.specs.declared.cmp.Ordering.TheVariants.{Less}
use Rattle.std.specs.Str.{bytes_eq}
use Rattle.std.proofs.lemmas.List.{map-append, take_all}
use Rattle.std.proofs.lemmas.List.Elements.{All-head, All-tail}
use Rattle.std.proofs.lemmas.List.Folds.{flat_map-map}
use Rattle.std.proofs.lemmas.List.Sums.{fold-append}
use Rattle.std.proofs.lemmas.Map.Keys.{IsDistinct-push}
use Rattle.std.proofs.lemmas.Map.Text.{is_eq-slice_cmp}
use Rattle.sb_model.specs.declared.history.Added.{Added}
use Rattle.sb_model.specs.declared.history.Change.{Change}
use Rattle.sb_model.specs.declared.names.ListName.{ListName}
use Rattle.sb_model.specs.History.{History, after_change, declares, sizes_at, version_count, with_added, without_hash}
use Rattle.sb_model.specs.Names.{same_name}
use Rattle.sb_model.specs.Prefixes.{bytes_cmp, IsRising, set_of}
use Rattle.sb_journal.specs.declared.hash_line.HashLine.{HashLine}
use Rattle.sb_journal.specs.declared.hash_line.HashLine.TheVariants.{Add, Remove}
use Rattle.sb_journal.specs.Compacted.{all_puts, compacted, by_hash, newest_entries, puts_of}
use Rattle.sb_journal.specs.Records.{adds_in, change_with, lines_at, record_count, records_of, removes_in}
use Rattle.sb_journal.proofs.Ordered.{In, IsOnce, contains_in, has_hash, in_contained, only_one}
use Rattle.sb_journal.proofs.Following.{IsOf, all_pieces, all_removes, bytes_sym, hashes_of, others_leave, own, records_are, records_removes, same_self}
use Rattle.sb_journal.proofs.RisingSets.{SetLaws, set_is}

-- ---- a hash of each member of a set

record HasOne (hash : List ℕ) (xs : List Added) : Type 0 where
  entry : Added
  there : In entry xs
  is : entry.hash ≡ hash

one_of : (hash : List ℕ) (xs : List Added) → In hash (hashes_of xs) → HasOne hash xs
one_of hash [] i = absurd i
one_of hash (x ∷ xs) (inl e) = record { entry = x; there = inl refl; is = e }
one_of hash (x ∷ xs) (inr i) = let more = one_of hash xs i in record { entry = more.entry; there = inr more.there; is = more.is }

-- entries of the hashes of a list, which are all there
ordered_hashes : (xs : List Added) (hashes : List (List ℕ)) → IsOnce xs → ((hash : List ℕ) → In hash hashes → In hash (hashes_of xs))
    → hashes_of (flat_map (λ hash. filter (has_hash hash) xs) hashes) ≡ hashes
ordered_hashes xs [] once there = refl
ordered_hashes xs (hash ∷ hashes) once there =
    let entry = one_of hash xs (there hash (inl refl)) in
    map-append (λ (e : Added). e.hash) (filter (has_hash hash) xs) (flat_map (λ hash. filter (has_hash hash) xs) hashes)
    ∙ ap (λ (es : List Added). hashes_of es ++ hashes_of (flat_map (λ hash. filter (has_hash hash) xs) hashes))
    (ap (λ (h : List ℕ). filter (has_hash h) xs) (sym entry.is) ∙ only_one entry.entry xs once entry.there)
    ∙ ap (λ (h : List ℕ). h ∷ hashes_of (flat_map (λ hash. filter (has_hash hash) xs) hashes)) entry.is
    ∙ ap (λ (hs : List (List ℕ)). hash ∷ hs) (ordered_hashes xs hashes once (λ h i. there h (inr i)))

pub hashes_in_order : SetLaws → (xs : List Added) → IsOnce xs → hashes_of (by_hash xs) ≡ set_of (hashes_of xs)
unfolding by_hash
hashes_in_order laws xs once =
    ordered_hashes xs (set_of (hashes_of xs)) once (λ hash i. in_contained hash (hashes_of xs) ((laws.members (hashes_of xs) hash).0 (contains_in hash (set_of (hashes_of xs)) i)))

apart_below : (y : List ℕ) (ys : List (List ℕ)) → AllByRecursion (λ z. bytes_cmp y z ≡ Less) ys → AllByRecursion (λ z. bytes_eq y z ≡ false) ys
apart_below y [] h = tt
apart_below y (z ∷ zs) h = (sym (is_eq-slice_cmp y z) ∙ ap is_eq h.0, apart_below y zs h.1)

rising_once : (ys : List (List ℕ)) → IsRising ys → IsDistinct bytes_eq ys
unfolding IsDistinct IsStrictlySortedBy
rising_once [] up = tt
rising_once (y ∷ ys) up = (apart_below y ys up.0, rising_once ys up.1)

pub in_order_once : SetLaws → (xs : List Added) → IsOnce xs → IsOnce (by_hash xs)
in_order_once laws xs once = subst (λ (hs : List (List ℕ)). IsDistinct bytes_eq hs) (sym (hashes_in_order laws xs once)) (rising_once (set_of (hashes_of xs)) (laws.rising (hashes_of xs)))

-- ---- the same entries

in_either : (entry : Added) (front back : List Added) → In entry (front ++ back) → In entry front ⊎ In entry back
in_either entry [] back h = inr h
in_either entry (x ∷ front) back (inl e) = inl (inl e)
in_either entry (x ∷ front) back (inr h) = elim (in_either entry front back h) [ inl k ↦ inl (inr k) | inr k ↦ inr k ]

in_kept : (entry : Added) (p : Added → Bool) (y : Added) (ys : List Added) (b : Bool) → In entry (cond b (y ∷ filter p ys) (filter p ys)) → (In entry (filter p ys) → In entry ys) → In entry (y ∷ ys)
in_kept entry p y ys true (inl e) k = inl e
in_kept entry p y ys true (inr h) k = inr (k h)
in_kept entry p y ys false h k = inr (k h)

of_filter : (entry : Added) (p : Added → Bool) (ys : List Added) → In entry (filter p ys) → In entry ys
of_filter entry p [] h = absurd h
of_filter entry p (y ∷ ys) h = in_kept entry p y ys (p y) h (of_filter entry p ys)

flat_in : (xs : List Added) (hashes : List (List ℕ)) (entry : Added) → In entry (flat_map (λ hash. filter (has_hash hash) xs) hashes) → In entry xs
flat_in xs [] entry i = absurd i
flat_in xs (hash ∷ hashes) entry i = elim (in_either entry (filter (has_hash hash) xs) (flat_map (λ hash. filter (has_hash hash) xs) hashes) i) [
  | inl h ↦ of_filter entry (has_hash hash) xs h
  | inr h ↦ flat_in xs hashes entry h
]

in_flat : (xs : List Added) (hashes : List (List ℕ)) (entry : Added) → IsOnce xs → In entry xs → In entry.hash hashes → In entry (flat_map (λ hash. filter (has_hash hash) xs) hashes)
in_flat xs [] entry once i j = absurd j
in_flat xs (hash ∷ hashes) entry once i (inl e) =
    subst (λ (es : List Added). In entry (es ++ flat_map (λ hash. filter (has_hash hash) xs) hashes)) (sym (ap (λ (h : List ℕ). filter (has_hash h) xs) e ∙ only_one entry xs once i)) (inl refl)
in_flat xs (hash ∷ hashes) entry once i (inr j) = right (filter (has_hash hash) xs) (in_flat xs hashes entry once i j)
  where
    right : (front : List Added) → In entry (flat_map (λ hash. filter (has_hash hash) xs) hashes) → In entry (front ++ flat_map (λ hash. filter (has_hash hash) xs) hashes)
    right [] h = h
    right (a ∷ front) h = inr (right front h)

in_mapped : {X : Type 0} (f : Added → X) (entry : Added) (xs : List Added) → In entry xs → In (f entry) (map f xs)
in_mapped f entry [] i = absurd i
in_mapped f entry (x ∷ xs) (inl e) = inl (ap f e)
in_mapped f entry (x ∷ xs) (inr i) = inr (in_mapped f entry xs i)

pub order_has : SetLaws → (xs : List Added) (entry : Added) → IsOnce xs → In entry xs → In entry (by_hash xs)
unfolding by_hash
order_has laws xs entry once i =
    in_flat xs (set_of (hashes_of xs)) entry once i
    (in_contained entry.hash (set_of (hashes_of xs)) ((laws.members (hashes_of xs) entry.hash).1 (contains_in entry.hash (hashes_of xs) (in_mapped (λ (e : Added). e.hash) entry xs i))))

pub order_is_of : (xs : List Added) (entry : Added) → In entry (by_hash xs) → In entry xs
unfolding by_hash
order_is_of xs entry i = flat_in xs (set_of (hashes_of xs)) entry i

map_has : (f : Added → List ℕ) (xs ys : List Added) → ((entry : Added) → In entry xs → In entry ys) → (x : List ℕ) → In x (map f xs) → In x (map f ys)
map_has f [] ys within x i = absurd i
map_has f (a ∷ xs) ys within x (inl e) = subst (λ (y : List ℕ). In y (map f ys)) e (in_mapped f a ys (within a (inl refl)))
map_has f (a ∷ xs) ys within x (inr i) = map_has f xs ys (λ entry j. within entry (inr j)) x i

-- the set of what the entries show
pub same_set_in_order : SetLaws → (f : Added → List ℕ) (xs : List Added) → IsOnce xs → set_of (map f (by_hash xs)) ≡ set_of (map f xs)
same_set_in_order laws f xs once =
    set_is laws (set_of (map f (by_hash xs))) (map f xs) (laws.rising (map f (by_hash xs))) (λ x. (
      λ c. contains_in x (map f xs) (map_has f (by_hash xs) xs (λ entry i. order_is_of xs entry i) x (in_contained x (map f (by_hash xs)) ((laws.members (map f (by_hash xs)) x).0 c))),
      λ c. (laws.members (map f (by_hash xs)) x).1 (contains_in x (map f (by_hash xs)) (map_has f xs (by_hash xs) (λ entry i. order_has laws xs entry once i) x (in_contained x (map f xs) c))),
    ))

-- ---- entries that are put in one after the other

left_alone : (hash : List ℕ) (x : Added) (rest wanted : List Added) (b : Bool) → bytes_eq x.hash hash ≡ b → bytes_eq hash x.hash ≡ false → rest ≡ wanted → cond (not b) (x ∷ rest) rest ≡ x ∷ wanted
left_alone hash x rest wanted true is apart e = absurd (let same = bytes_sym x.hash hash in cc (is, same, apart))
left_alone hash x rest wanted false is apart e = ap (λ (es : List Added). x ∷ es) e

-- a hash that is not there leaves all
lacking_leaves : (hash : List ℕ) (xs : List Added) → AllByRecursion (λ other. bytes_eq hash other ≡ false) (hashes_of xs) → without_hash xs hash ≡ xs
lacking_leaves hash [] h = refl
lacking_leaves hash (x ∷ xs) h = left_alone hash x (without_hash xs hash) xs (bytes_eq x.hash hash) refl h.0 (lacking_leaves hash xs h.1)

own_goes : (x : Added) (xs : List Added) (b : Bool) → bytes_eq x.hash x.hash ≡ b → cond (not b) (x ∷ xs) xs ≡ xs
own_goes x xs true e = refl
own_goes x xs false e = absurd (let same : bytes_eq x.hash x.hash ≡ true = (nat_list_eq_equiv).refl x.hash in cc (same, e))

-- the hash of the first goes alone
first_goes : (x : Added) (xs : List Added) → AllByRecursion (λ other. bytes_eq x.hash other ≡ false) (hashes_of xs) → without_hash (x ∷ xs) x.hash ≡ xs
first_goes x xs h = own_goes x (without_hash xs x.hash) (bytes_eq x.hash x.hash) refl ∙ lacking_leaves x.hash xs h

none_any : (hash : List ℕ) (hashes : List (List ℕ)) → AllByRecursion (λ other. bytes_eq hash other ≡ false) hashes → list_any (bytes_eq hash) hashes ≡ false
none_any hash [] h = refl
none_any hash (other ∷ hashes) h = rw h.0 (none_any hash hashes h.1)

-- the first entry goes to the end
turned_once : (x : Added) (xs : List Added) → IsOnce (x ∷ xs) → IsOnce (xs ++ x ∷ [])
unfolding IsDistinct
turned_once x xs once =
    subst (λ (hs : List (List ℕ)). IsDistinct bytes_eq hs) (sym (map-append (λ (e : Added). e.hash) xs (x ∷ [])))
    (IsDistinct-push nat_list_eq_equiv (hashes_of xs) x.hash once.1 (none_any x.hash (hashes_of xs) once.0))

put_first : (x : Added) (xs : List Added) → IsOnce (x ∷ xs) → with_added (x ∷ xs) x ≡ xs ++ x ∷ []
unfolding IsDistinct
put_first x xs once = ap (λ (es : List Added). es ++ x ∷ []) (first_goes x xs once.0)

-- entries over those that stand already: each goes to the end
put_over : (xs ys : List Added) → IsOnce (xs ++ ys) → fold with_added (xs ++ ys) xs ≡ ys ++ xs
put_over [] ys once = sym (append-nil ys)
put_over (x ∷ xs) ys once =
    let turned : (xs ++ ys) ++ x ∷ [] ≡ xs ++ (ys ++ x ∷ []) = append_assoc xs ys (x ∷ []) in
    ap (λ (es : List Added). fold with_added es xs) (put_first x (xs ++ ys) once ∙ turned)
    ∙ put_over xs (ys ++ x ∷ []) (subst IsOnce turned (turned_once x (xs ++ ys) once))
    ∙ append_assoc ys (x ∷ []) xs

apart_front : (ys : List Added) (x : Added) (xs : List Added) → IsOnce (ys ++ x ∷ xs) → AllByRecursion (λ other. bytes_eq x.hash other ≡ false) (hashes_of ys)
unfolding IsDistinct
apart_front [] x xs once = tt
apart_front (y ∷ ys) x xs once = (bytes_sym x.hash y.hash ∙ last ys once.0, apart_front ys x xs once.1)
  where
    last : (zs : List Added) → AllByRecursion (λ other. bytes_eq y.hash other ≡ false) (hashes_of (zs ++ x ∷ xs)) → bytes_eq y.hash x.hash ≡ false
    last [] h = h.0
    last (z ∷ zs) h = last zs h.1

-- entries behind others
put_onto : (xs ys : List Added) → IsOnce (ys ++ xs) → fold with_added ys xs ≡ ys ++ xs
put_onto [] ys once = sym (append-nil ys)
put_onto (x ∷ xs) ys once =
    let further : ys ++ x ∷ xs ≡ (ys ++ x ∷ []) ++ xs = sym (append_assoc ys (x ∷ []) xs) in
    ap (λ (es : List Added). fold with_added (es ++ x ∷ []) xs) (lacking_leaves x.hash ys (apart_front ys x xs once))
    ∙ put_onto xs (ys ++ x ∷ []) (subst IsOnce further once) ∙ sym further

-- all of a list, into nothing or over themselves
put_all : (rows before : List Added) → IsOnce rows → (before ≡ []) ⊎ (before ≡ rows) → fold with_added before rows ≡ rows
put_all rows before once (inl e) = ap (λ (es : List Added). fold with_added es rows) e ∙ put_onto rows [] once
put_all rows before once (inr e) =
    ap (λ (es : List Added). fold with_added es rows) (e ∙ sym (append-nil rows)) ∙ put_over rows [] (subst IsOnce (sym (append-nil rows)) once)

-- ---- records that put in

abbrev all_adds_of : List Change → List Added
all_adds_of changes = flat_map (λ (change : Change). change.adds) changes

none_left : {A : Type 0} (xs ys : List A) → xs ++ ys ≡ [] → xs ≡ []
none_left [] ys e = refl
none_left (x ∷ xs) ys e = absurd (cc (e))

none_right : {A : Type 0} (xs ys : List A) → xs ++ ys ≡ [] → ys ≡ []
none_right [] ys e = e
none_right (x ∷ xs) ys e = absurd (cc (e))

only_adds : (list : ListName) (changes : List Change) (entries : List Added) → All (IsOf list) changes → all_removes changes ≡ [] → fold (after_change list) entries changes ≡ fold with_added entries (all_adds_of changes)
only_adds list [] entries own_list none = refl
only_adds list (change ∷ changes) entries own_list none =
    let first = none_left change.removes (all_removes changes) none in
    ap (λ (es : List Added). fold (after_change list) es changes)
    (own list entries change (All-head (IsOf list) change changes own_list) ∙ ap (λ (hs : List (List ℕ)). fold with_added (fold without_hash entries hs) change.adds) first)
    ∙ only_adds list changes (fold with_added entries change.adds) (All-tail (IsOf list) change changes own_list) (none_right change.removes (all_removes changes) none)
    ∙ sym (fold-append with_added entries change.adds (all_adds_of changes))

adds_append : (xs ys : List HashLine) → adds_in (xs ++ ys) ≡ adds_in xs ++ adds_in ys
adds_append [] ys = refl
adds_append (Add added ∷ xs) ys = ap (λ (es : List Added). added ∷ es) (adds_append xs ys)
adds_append (Remove hash ∷ xs) ys = adds_append xs ys

put_adds : (entries : List Added) → adds_in (map Add entries) ≡ entries
put_adds [] = refl
put_adds (entry ∷ entries) = ap (λ (es : List Added). entry ∷ es) (put_adds entries)

put_removes : (entries : List Added) → removes_in (map Add entries) ≡ []
put_removes [] = refl
put_removes (entry ∷ entries) = put_removes entries

records_add : (list : ListName) (lines : List HashLine) → all_adds_of (records_of list lines) ≡ adds_in lines
unfolding records_of
records_add list lines =
    flat_map-map (λ (change : Change). change.adds) (λ place. change_with list (lines_at lines place)) (range_with_len 0 (record_count (length lines)))
    ∙ all_pieces adds_in adds_append refl lines

-- the records of a list put all in
puts_fold : (list : ListName) (rows before : List Added) → fold (after_change list) before (puts_of list rows) ≡ fold with_added before rows
puts_fold list rows before =
    only_adds list (puts_of list rows) before (records_are (IsOf list) list (map Add rows) (λ some. same_self list)) (records_removes list (map Add rows) ∙ put_removes rows)
    ∙ ap (fold with_added before) (records_add list (map Add rows) ∙ put_adds rows)

-- ---- a list among others

abbrev pub Codes : Type 0
Codes = (a b : ListName) → same_name a b ≡ true → a ≡ b

abbrev rows_of : History → ListName → List Added
rows_of history list = newest_entries history list

other_puts : (history : History) (list : ListName) (d : ListName × ℕ) (before : List Added) → same_name d.0 list ≡ false → fold (after_change list) before (puts_of d.0 (rows_of history d.0)) ≡ before
other_puts history list d before apart =
    others_leave list (puts_of d.0 (rows_of history d.0)) before (records_are (λ (c : Change). same_name c.list list ≡ false) d.0 (map Add (rows_of history d.0)) (λ some. apart))

own_puts : Codes → (history : History) (list : ListName) (d : ListName × ℕ) (before : List Added) → same_name d.0 list ≡ true → IsOnce (rows_of history list)
    → (before ≡ []) ⊎ (before ≡ rows_of history list) → fold (after_change list) before (puts_of d.0 (rows_of history d.0)) ≡ rows_of history list
own_puts codes history list d before same once from =
    ap (λ (name : ListName). fold (after_change list) before (puts_of name (rows_of history name))) (codes d.0 list same)
    ∙ puts_fold list (rows_of history list) before ∙ put_all (rows_of history list) before once from

-- a list has all it had, or it has nothing yet and is to come
abbrev IsOnTheWay : History → ListName → List (ListName × ℕ) → List Added → Type 0
IsOnTheWay history list ds before =
    (before ≡ rows_of history list) ⊎ ((before ≡ []) × (list_any (λ (d : ListName × ℕ). same_name d.0 list) ds ≡ true))

after_one : Codes → (history : History) (list : ListName) (d : ListName × ℕ) (ds : List (ListName × ℕ)) (before : List Added) (b : Bool) → same_name d.0 list ≡ b → IsOnce (rows_of history list)
    → IsOnTheWay history list (d ∷ ds) before → IsOnTheWay history list ds (fold (after_change list) before (puts_of d.0 (rows_of history d.0)))
after_one codes history list d ds before true is once (inl e) = inl (own_puts codes history list d before is once (inr e))
after_one codes history list d ds before true is once (inr h) = inl (own_puts codes history list d before is once (inl h.0))
after_one codes history list d ds before false is once (inl e) = inl (other_puts history list d before is ∙ e)
after_one codes history list d ds before false is once (inr h) = inr (other_puts history list d before is ∙ h.0, rw is at h.1)

puts_leave : Codes → (history : History) (list : ListName) (ds : List (ListName × ℕ)) (before : List Added) → IsOnce (rows_of history list) → IsOnTheWay history list ds before
    → fold (after_change list) before (all_puts history ds) ≡ rows_of history list
puts_leave codes history list [] before once (inl e) = e
puts_leave codes history list [] before once (inr h) = absurd (cc (h.1))
puts_leave codes history list (d ∷ ds) before once from =
    fold-append (after_change list) before (puts_of d.0 (rows_of history d.0)) (all_puts history ds)
    ∙ puts_leave codes history list ds (fold (after_change list) before (puts_of d.0 (rows_of history d.0))) once (after_one codes history list d ds before (same_name d.0 list) refl once from)

-- What a list has that is told anew: its newest full hashes, rising.
pub told_anew : SetLaws → Codes → (epoch : ℕ) (history : History) (list : ListName) → declares history list ≡ true → IsOnce (sizes_at history list (version_count history))
    → sizes_at (compacted epoch history) list (version_count (compacted epoch history)) ≡ newest_entries history list
told_anew laws codes epoch history list declared once =
    let all = all_puts history history.declared in
    ap (fold (after_change list) []) (take_all (length all) all (omega arith))
    ∙ puts_leave codes history list history.declared [] (in_order_once laws (sizes_at history list (version_count history)) once) (inr (refl, declared))

pub anew_shows : SetLaws → Codes → (f : Added → List ℕ) (epoch : ℕ) (history : History) (list : ListName) → declares history list ≡ true → IsOnce (sizes_at history list (version_count history))
    → set_of (map f (sizes_at (compacted epoch history) list (version_count (compacted epoch history)))) ≡ set_of (map f (sizes_at history list (version_count history)))
anew_shows laws codes f epoch history list declared once =
    ap (λ (es : List Added). set_of (map f es)) (told_anew laws codes epoch history list declared once)
    ∙ same_set_in_order laws f (sizes_at history list (version_count history)) once
