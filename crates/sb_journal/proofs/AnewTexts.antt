-- The text of a history that is told anew.
use Rattle.std.proofs.Common.{◌≡◌, ◌∙◌, inl, inr, ℕ, ◌<◌, ◌^◌, List, [], ◌∷◌, ◌++◌, Bool, true, false, cond, length, map, fold, take, append_assoc, refl, sym, ap, subst}
use Rattle.std.specs.Prelude.{◌||◌, All, not}
use Rattle.std.specs.List.{list_any}
use Rattle.std.specs.Str.{bytes_eq}
use Rattle.std.proofs.lemmas.List.Elements.{All-append, All-cons, All-filter, All-head, All-nil, All-tail, All-take}
use Rattle.hex.specs.Hex.{IsBytes}
use Rattle.sb_model.specs.declared.history.Added.{Added}
use Rattle.sb_model.specs.declared.history.Change.{Change}
use Rattle.sb_model.specs.declared.names.ListName.{ListName}
use Rattle.sb_model.specs.History.{History, IsPrefixSize, IsWellFormed, after_change, declares, sizes_at, version_count, with_added, without_hash}
use Rattle.sb_model.specs.Names.{same_name}
use Rattle.list_versions.specs.Written.{HasText, MayFollow}
use Rattle.sb_journal.specs.declared.hash_line.HashLine.TheVariants.{Add}
use Rattle.sb_journal.specs.Compacted.{all_puts, compacted, by_hash, newest_entries, puts_of}
use Rattle.sb_journal.specs.Followed.{HasHash, HasPrefixSize}
use Rattle.sb_journal.proofs.Anew.{order_is_of}
use Rattle.sb_journal.proofs.Ordered.{In}
use Rattle.sb_journal.proofs.Followed.{records_follow}
use Rattle.sb_journal.proofs.Following.{same_self}

-- ---- what each full hash of a version keeps to

abbrev IsWell : Added → Type 0
IsWell added = (length added.hash ≡ 32) × IsPrefixSize added.size

well_removed : (removes : List (List ℕ)) (entries : List Added) → All IsWell entries → All IsWell (fold without_hash entries removes)
well_removed [] entries h = h
well_removed (hash ∷ removes) entries h = well_removed removes (without_hash entries hash) (All-filter (λ (entry : Added). not (bytes_eq entry.hash hash)) IsWell entries h)

well_added : (adds entries : List Added) → All IsWell adds → All IsWell entries → All IsWell (fold with_added entries adds)
well_added [] entries wells h = h
well_added (added ∷ adds) entries wells h =
    well_added adds (with_added entries added) (All-tail IsWell added adds wells)
    (All-append IsWell (without_hash entries added.hash) (added ∷ []) (All-filter (λ (entry : Added). not (bytes_eq entry.hash added.hash)) IsWell entries h)
    (All-cons IsWell added [] (All-head IsWell added adds wells) (All-nil IsWell)))

well_cond : (b : Bool) (xs ys : List Added) → All IsWell xs → All IsWell ys → All IsWell (cond b xs ys)
well_cond true xs ys h k = h
well_cond false xs ys h k = k

abbrev HasWell : Change → Type 0
HasWell change = All IsWell change.adds

well_after : (list : ListName) (changes : List Change) (entries : List Added) → All HasWell changes → All IsWell entries → All IsWell (fold (after_change list) entries changes)
well_after list [] entries wells h = h
well_after list (change ∷ changes) entries wells h =
    well_after list changes (after_change list entries change) (All-tail HasWell change changes wells)
    (well_cond (same_name change.list list) (fold with_added (fold without_hash entries change.removes) change.adds) entries
    (well_added change.adds (fold without_hash entries change.removes) (All-head HasWell change changes wells) (well_removed change.removes entries h)) h)

well_at : (history : History) (list : ListName) (version : ℕ) → IsWellFormed history → All IsWell (sizes_at history list version)
well_at history list version formed = well_after list (take version history.changes) [] (All-take HasWell version history.changes formed.adds) (All-nil IsWell)

-- ---- one by one

all_in : (P : Added → Type 0) (entries : List Added) (entry : Added) → All P entries → In entry entries → P entry
all_in P [] entry h i = absurd i
all_in P (x ∷ entries) entry h (inl e) = subst P e (All-head P x entries h)
all_in P (x ∷ entries) entry h (inr i) = all_in P entries entry (All-tail P x entries h) i

from_in : (P : Added → Type 0) (entries : List Added) → ((entry : Added) → In entry entries → P entry) → All P entries
from_in P [] h = All-nil P
from_in P (x ∷ entries) h = All-cons P x entries (h x (inl refl)) (from_in P entries (λ entry i. h entry (inr i)))

well_in_order : (entries : List Added) → All IsWell entries → All IsWell (by_hash entries)
well_in_order entries h = from_in IsWell (by_hash entries) (λ entry i. all_in IsWell entries entry h (order_is_of entries entry i))

put_hashes : (entries : List Added) → All IsWell entries → All (λ (entry : Added). IsBytes entry.hash) entries → All HasHash (map Add entries)
unfolding HasHash
put_hashes [] wells bytes = All-nil HasHash
put_hashes (entry ∷ entries) wells bytes =
    All-cons HasHash (Add entry) (map Add entries)
    (All-head (λ (e : Added). IsBytes e.hash) entry entries bytes, (All-head IsWell entry entries wells).0)
    (put_hashes entries (All-tail IsWell entry entries wells) (All-tail (λ (e : Added). IsBytes e.hash) entry entries bytes))

put_sizes : (entries : List Added) → All IsWell entries → All HasPrefixSize (map Add entries)
put_sizes [] wells = All-nil HasPrefixSize
put_sizes (entry ∷ entries) wells =
    All-cons HasPrefixSize (Add entry) (map Add entries) (All-head IsWell entry entries wells).1 (put_sizes entries (All-tail IsWell entry entries wells))

-- ---- all lists

abbrev HasBytes : History → ListName × ℕ → Type 0
HasBytes history list = All (λ (entry : Added). IsBytes entry.hash) (newest_entries history list.0)

puts_follow : (epoch : ℕ) (history : History) (list : ListName × ℕ) → IsWellFormed history → HasBytes history list → declares history list.0 ≡ true
    → All (MayFollow (compacted epoch history)) (puts_of list.0 (newest_entries history list.0))
puts_follow epoch history list formed bytes declared =
    let wells = well_in_order (sizes_at history list.0 (version_count history)) (well_at history list.0 (version_count history) formed) in
    records_follow (compacted epoch history) list.0 (map Add (newest_entries history list.0)) declared
    (put_hashes (newest_entries history list.0) wells bytes) (put_sizes (newest_entries history list.0) wells)

all_follow : (epoch : ℕ) (history : History) (lists : List (ListName × ℕ)) → IsWellFormed history → All (HasBytes history) lists → All (λ (list : ListName × ℕ). declares history list.0 ≡ true) lists
    → All (MayFollow (compacted epoch history)) (all_puts history lists)
all_follow epoch history [] formed bytes declared = All-nil (MayFollow (compacted epoch history))
all_follow epoch history (list ∷ lists) formed bytes declared =
    All-append (MayFollow (compacted epoch history)) (puts_of list.0 (newest_entries history list.0)) (all_puts history lists)
    (puts_follow epoch history list formed (All-head (HasBytes history) list lists bytes) (All-head (λ (d : ListName × ℕ). declares history d.0 ≡ true) list lists declared))
    (all_follow epoch history lists formed (All-tail (HasBytes history) list lists bytes) (All-tail (λ (d : ListName × ℕ). declares history d.0 ≡ true) list lists declared))

-- each declared list is declared
declared_in : (front lists : List (ListName × ℕ)) (history : History) → history.declared ≡ front ++ lists → All (λ (list : ListName × ℕ). declares history list.0 ≡ true) lists
declared_in front [] history e = All-nil (λ (list : ListName × ℕ). declares history list.0 ≡ true)
declared_in front (list ∷ lists) history e =
    All-cons (λ (d : ListName × ℕ). declares history d.0 ≡ true) list lists
    (ap (λ (ds : List (ListName × ℕ)). list_any (λ (d : ListName × ℕ). same_name d.0 list.0) ds) e ∙ any_there front)
    (declared_in (front ++ list ∷ []) lists history (e ∙ sym (append_assoc front (list ∷ []) lists)))
  where
    or_true : (a b : Bool) → b ≡ true → (a || b) ≡ true
    or_true true b h = refl
    or_true false b h = h

    any_there : (front : List (ListName × ℕ)) → list_any (λ (d : ListName × ℕ). same_name d.0 list.0) (front ++ list ∷ lists) ≡ true
    any_there [] = rw (same_self list.0) refl
    any_there (other ∷ front) = or_true (same_name other.0 list.0) _ (any_there front)

pub anew_text : (epoch : ℕ) (history : History) → epoch < 2 ^ 64 → IsWellFormed history → All (HasBytes history) history.declared → HasText (compacted epoch history)
anew_text epoch history small formed bytes = record {
  epoch = small;
  sizes = formed.declared;
  changes = all_follow epoch history history.declared formed bytes (declared_in [] history.declared history refl);
}
