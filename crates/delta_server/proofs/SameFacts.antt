-- Lists of full hashes that have the same members, in whatever order.
use Rattle.std.proofs.Common.{◌≡◌, ◌⊎◌, inl, inr, ℕ, Bool, true, false, not, List, [], ◌∷◌, length, map, take, refl, ap, subst}
use Rattle.std.specs.Prelude.{Contains, fold, All, if◌then◌else◌}
use Rattle.std.specs.List.{IsDistinct, AllByRecursion}
use Rattle.std.specs.Str.{bytes_eq}
use Rattle.std.proofs.lemmas.List.Elements.{All-weaker, All-cons, All-nil, All-head, All-tail, All-push, All-filter, All-take, All-contains}
use Rattle.std.proofs.lemmas.Map.Keys.{IsDistinct-head, IsDistinct-tail}
use Rattle.sb_model.specs.declared.history.Added.{Added}
use Rattle.sb_model.specs.declared.history.Change.{Change}
use Rattle.sb_model.specs.declared.names.ListName.{ListName}
use Rattle.sb_model.specs.Names.{same_name}
use Rattle.sb_model.specs.History.{History, IsPrefixSize, IsWellFormed, prefix_of, without_hash, with_added, after_change}
use Rattle.list_versions.specs.HashSizes.{HashSizes, IsMapOf}
use Rattle.delta_server.specs.Counts.{HaveHashesApart}
use Rattle.delta_server.specs.Walk.{HasSizes, HaveSame, published, entries_after, may_take, changes_taken}
use Rattle.delta_server.proofs.CountFacts.{SetLaws}
use Rattle.delta_server.proofs.EntryFacts.{flip_other}
use Rattle.delta_server.proofs.Membership.{In, contains_in, in_contained, in_left, in_right, in_either, in_map, from_map, in_filter, from_filter}
use Rattle.delta_server.proofs.TargetFacts.{greatest_same}

-- ---- what changes do to them

abbrev Moves : List Added → List Added → Type 0
Moves xs ys = (x : Added) → Contains xs x → Contains ys x

move_without : (xs ys : List Added) (hash : List ℕ) → Moves xs ys → Moves (without_hash xs hash) (without_hash ys hash)
move_without xs ys hash moves x c =
    let keeps : Added → Bool = λ y. not (bytes_eq y.hash hash) in
    let kept = from_filter keeps x xs (in_contained x (without_hash xs hash) c) in
    contains_in x (without_hash ys hash) (in_filter keeps x ys (in_contained x ys (moves x (contains_in x xs kept.0))) kept.1)

same_without : (a b : List Added) (hash : List ℕ) → HaveSame a b → HaveSame (without_hash a hash) (without_hash b hash)
same_without a b hash same x = (move_without a b hash (λ y. (same y).0) x, move_without b a hash (λ y. (same y).1) x)

move_with : (xs ys : List Added) (added : Added) → Moves xs ys → Moves (with_added xs added) (with_added ys added)
move_with xs ys added moves x c = go (in_either x (without_hash xs added.hash) (added ∷ []) (in_contained x (with_added xs added) c))
  where
    go : In x (without_hash xs added.hash) ⊎ In x (added ∷ []) → Contains (with_added ys added) x
    go (inl there) =
        let moved = move_without xs ys added.hash moves x (contains_in x (without_hash xs added.hash) there) in
        contains_in x (with_added ys added) (in_left x (without_hash ys added.hash) (added ∷ []) (in_contained x (without_hash ys added.hash) moved))
    go (inr own) = contains_in x (with_added ys added) (in_right x (without_hash ys added.hash) (added ∷ []) own)

same_with : (a b : List Added) (added : Added) → HaveSame a b → HaveSame (with_added a added) (with_added b added)
same_with a b added same x = (move_with a b added (λ y. (same y).0) x, move_with b a added (λ y. (same y).1) x)

same_removed : (hashes : List (List ℕ)) (a b : List Added) → HaveSame a b → HaveSame (fold without_hash a hashes) (fold without_hash b hashes)
same_removed [] a b same = same
same_removed (hash ∷ hashes) a b same = same_removed hashes (without_hash a hash) (without_hash b hash) (same_without a b hash same)

same_added : (adds a b : List Added) → HaveSame a b → HaveSame (fold with_added a adds) (fold with_added b adds)
same_added [] a b same = same
same_added (added ∷ adds) a b same = same_added adds (with_added a added) (with_added b added) (same_with a b added same)

same_if : (t : Bool) (a b c d : List Added) → HaveSame a b → HaveSame c d → HaveSame (if t then a else c) (if t then b else d)
same_if true a b c d first second = first
same_if false a b c d first second = second

same_changes : (list : ListName) (changes : List Change) (a b : List Added) → HaveSame a b → HaveSame (fold (after_change list) a changes) (fold (after_change list) b changes)
same_changes list [] a b same = same
same_changes list (change ∷ changes) a b same =
    same_changes list changes (after_change list a change) (after_change list b change)
    (same_if (same_name change.list list) _ _ a b
    (same_added change.adds (fold without_hash a change.removes) (fold without_hash b change.removes) (same_removed change.removes a b same)) same)

-- ---- what is published of them

move_published : (xs ys : List Added) → Moves xs ys → (x : List ℕ) → Contains (map prefix_of xs) x → Contains (map prefix_of ys) x
move_published xs ys moves x c =
    let from : (e : Added) × In e xs × (prefix_of e ≡ x) = from_map prefix_of x xs (in_contained x (map prefix_of xs) c) in
    subst (λ (y : List ℕ). Contains (map prefix_of ys) y) from.2
    (contains_in (prefix_of from.0) (map prefix_of ys) (in_map prefix_of from.0 ys (in_contained from.0 ys (moves from.0 (contains_in from.0 xs from.1)))))

pub published_same : SetLaws → (a b : List Added) → HaveSame a b → published a ≡ published b
published_same laws a b same =
    laws.same (map prefix_of a) (map prefix_of b) (λ x. (move_published a b (λ y. (same y).0) x, move_published b a (λ y. (same y).1) x))

-- a walk from the same full hashes takes as many changes
pub taken_same : SetLaws → (list : ListName) (held : List (List ℕ)) (a b : List Added) (changes : List Change) (max_update max_database : ℕ) → HaveSame a b
    → changes_taken list held a changes max_update max_database ≡ changes_taken list held b changes max_update max_database
taken_same laws list held a b changes max_update max_database same =
    greatest_same (λ count. may_take held max_update max_database (published (entries_after list a changes count)))
    (λ count. may_take held max_update max_database (published (entries_after list b changes count))) (length changes)
    (λ k. ap (may_take held max_update max_database) (published_same laws _ _ (same_changes list (take k changes) a b same)))

-- ---- what is folded of a version

-- the full hashes of one map
pub folded_same : (sizes : HashSizes) (a b : List Added) → IsMapOf sizes a → IsMapOf sizes b → HaveSame a b
folded_same sizes a b first second entry = (
  λ c. (second.same entry.hash entry.size).1 ((first.same entry.hash entry.size).0 c),
  λ c. (first.same entry.hash entry.size).1 ((second.same entry.hash entry.size).0 c),
)

abbrev hash_of : Added → List ℕ
hash_of entry = entry.hash

others_apart : (entry : Added) (entries : List Added) → AllByRecursion (λ hash. bytes_eq entry.hash hash ≡ false) (map hash_of entries)
    → AllByRecursion (λ (other : Added). bytes_eq other.hash entry.hash ≡ false) entries
others_apart entry [] h = tt
others_apart entry (other ∷ entries) h = (flip_other entry.hash other.hash h.0, others_apart entry entries h.1)

pub apart_of : (entries : List Added) → IsDistinct bytes_eq (map hash_of entries) → HaveHashesApart entries
apart_of [] h = tt
apart_of (entry ∷ entries) h = (
  others_apart entry entries (IsDistinct-head bytes_eq entry.hash (map hash_of entries) h),
  apart_of entries (IsDistinct-tail bytes_eq entry.hash (map hash_of entries) h),
)

-- ---- their sizes

abbrev IsSized : Added → Type 0
IsSized added = IsPrefixSize added.size

sized_removed : (hashes : List (List ℕ)) (entries : List Added) → All IsSized entries → All IsSized (fold without_hash entries hashes)
sized_removed [] entries h = h
sized_removed (hash ∷ hashes) entries h = sized_removed hashes (without_hash entries hash) (All-filter (λ (entry : Added). not (bytes_eq entry.hash hash)) IsSized entries h)

sized_added : (adds entries : List Added) → All IsSized adds → All IsSized entries → All IsSized (fold with_added entries adds)
sized_added [] entries sizes h = h
sized_added (added ∷ adds) entries sizes h =
    sized_added adds (with_added entries added) (All-tail IsSized added adds sizes)
    (All-push IsSized (without_hash entries added.hash) added (All-filter (λ (entry : Added). not (bytes_eq entry.hash added.hash)) IsSized entries h) (All-head IsSized added adds sizes))

sized_if : (t : Bool) (a b : List Added) → All IsSized a → All IsSized b → All IsSized (if t then a else b)
sized_if true a b h k = h
sized_if false a b h k = k

sized_changes : (list : ListName) (changes : List Change) (entries : List Added) → All HasSizes changes → All IsSized entries → All IsSized (fold (after_change list) entries changes)
sized_changes list [] entries sizes h = h
sized_changes list (change ∷ changes) entries sizes h =
    sized_changes list changes (after_change list entries change) (All-tail HasSizes change changes sizes)
    (sized_if (same_name change.list list) _ entries
    (sized_added change.adds (fold without_hash entries change.removes) (All-head HasSizes change changes sizes) (sized_removed change.removes entries h)) h)

abbrev IsWell : Added → Type 0
IsWell added = (length added.hash ≡ 32) × IsPrefixSize added.size

have_sizes : (versions : History) → IsWellFormed versions → All HasSizes versions.changes
have_sizes versions well =
    All-weaker (λ (change : Change). All IsWell change.adds) HasSizes (λ change h. All-weaker IsWell IsSized (λ added k. k.1) change.adds h) versions.changes well.adds

sized_in : (entries : List Added) → ((entry : Added) → In entry entries → IsSized entry) → All IsSized entries
sized_in [] h = All-nil IsSized
sized_in (entry ∷ entries) h = All-cons IsSized entry entries (h entry (inl refl)) (sized_in entries (λ other there. h other (inr there)))

-- the full hashes of a version, in whatever order, have sizes that prefixes may have
pub sized_alike : (versions : History) (list : ListName) (version : ℕ) (entries : List Added) → IsWellFormed versions
    → HaveSame entries (entries_after list [] versions.changes version) → All IsSized entries
sized_alike versions list version entries well same =
    let all = sized_changes list (take version versions.changes) [] (All-take HasSizes version versions.changes (have_sizes versions well)) (All-nil IsSized) in
    sized_in entries (λ entry there. All-contains IsSized (entries_after list [] versions.changes version) entry all ((same entry).0 (contains_in entry entries there)))
