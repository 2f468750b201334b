-- What records of hash lines keep to.
use Rattle.std.proofs.Common.{◌≡◌, ℕ, zero, suc, ◌+◌, ◌*◌, ◌<◌, ◌≤◌, List, [], ◌∷◌, Bool, true, false, length, drop, map, refl, subst, sym, ap, ◌∙◌, get_or, arith, Option, Some}
use Rattle.std.specs.Prelude.{⊤, All, find, option_map}
use Rattle.std.specs.List.{list_any, range_with_len}
use Rattle.std.proofs.lemmas.List.{length-drop, length-take}
use Rattle.std.proofs.lemmas.List.Elements.{All-append, All-cons, All-drop, All-head, All-nil, All-tail, All-take}
use Rattle.std.proofs.Math.Nat.{div-add-mod', mod-lt}
use Rattle.hex.specs.Hex.{IsBytes}
use Rattle.sb_model.specs.declared.history.Added.{Added}
use Rattle.sb_model.specs.declared.history.Change.{Change}
use Rattle.sb_model.specs.declared.names.ListName.{ListName}
use Rattle.sb_model.specs.Difference.{added_members}
use Rattle.sb_model.specs.History.{History, IsPrefixSize, IsWellFormed, declares}
use Rattle.sb_model.specs.Names.{same_name}
use Rattle.list_versions.specs.Journal.{declared_size_of}
use Rattle.list_versions.specs.Written.{HaveDeclaredSizes, MayFollow}
use Rattle.sb_journal.specs.declared.hash_line.HashLine.{HashLine}
use Rattle.sb_journal.specs.declared.hash_line.HashLine.TheVariants.{Add, Remove}
use Rattle.sb_journal.specs.Changes.{sync_changes}
use Rattle.sb_journal.specs.Followed.{HasHash, HasPrefixSize, HasSize}
use Rattle.sb_journal.specs.Records.{add_of, adds_in, change_with, leading_lines, lines_at, newest_hashes, record_count, records_of, removes_in}

-- ---- the lines of a record

lines_length : (lines : List HashLine) → length (adds_in lines) + length (removes_in lines) ≡ length lines
lines_length [] = refl
lines_length (Add added ∷ lines) = omega (arith, lines_length lines)
lines_length (Remove hash ∷ lines) = omega (arith, lines_length lines)

abbrev IsWhole : HashLine → Type 0
IsWhole line = HasHash line × HasPrefixSize line

abbrev IsWholeAdded : Added → Type 0
IsWholeAdded added = (length added.hash ≡ 32) × IsPrefixSize added.size

adds_whole : (lines : List HashLine) → All IsWhole lines → All IsWholeAdded (adds_in lines)
unfolding HasHash
adds_whole [] h = All-nil IsWholeAdded
adds_whole (Add added ∷ lines) h =
    let first = All-head IsWhole (Add added) lines h in
    All-cons IsWholeAdded added (adds_in lines) (first.0.1, first.1) (adds_whole lines (All-tail IsWhole (Add added) lines h))
adds_whole (Remove hash ∷ lines) h = adds_whole lines (All-tail IsWhole (Remove hash) lines h)

adds_bytes : (lines : List HashLine) → All IsWhole lines → All (λ (added : Added). IsBytes added.hash) (adds_in lines)
unfolding HasHash
adds_bytes [] h = All-nil (λ (added : Added). IsBytes added.hash)
adds_bytes (Add added ∷ lines) h =
    All-cons (λ (other : Added). IsBytes other.hash) added (adds_in lines) (All-head IsWhole (Add added) lines h).0.0 (adds_bytes lines (All-tail IsWhole (Add added) lines h))
adds_bytes (Remove hash ∷ lines) h = adds_bytes lines (All-tail IsWhole (Remove hash) lines h)

removes_whole : (lines : List HashLine) → All IsWhole lines → All (λ (hash : List ℕ). length hash ≡ 32) (removes_in lines)
unfolding HasHash
removes_whole [] h = All-nil (λ (hash : List ℕ). length hash ≡ 32)
removes_whole (Add added ∷ lines) h = removes_whole lines (All-tail IsWhole (Add added) lines h)
removes_whole (Remove hash ∷ lines) h =
    All-cons (λ (other : List ℕ). length other ≡ 32) hash (removes_in lines) (All-head IsWhole (Remove hash) lines h).0.1 (removes_whole lines (All-tail IsWhole (Remove hash) lines h))

removes_bytes : (lines : List HashLine) → All IsWhole lines → All IsBytes (removes_in lines)
unfolding HasHash
removes_bytes [] h = All-nil IsBytes
removes_bytes (Add added ∷ lines) h = removes_bytes lines (All-tail IsWhole (Add added) lines h)
removes_bytes (Remove hash ∷ lines) h =
    All-cons IsBytes hash (removes_in lines) (All-head IsWhole (Remove hash) lines h).0.0 (removes_bytes lines (All-tail IsWhole (Remove hash) lines h))

-- a record that has some lines, and at most 1,024
record_follows : (history : History) (list : ListName) (lines : List HashLine) → declares history list ≡ true → All IsWhole lines → 1 ≤ length lines → length lines ≤ 1024
    → MayFollow history (change_with list lines)
record_follows history list lines declared whole some few = record {
  lines = record {
    declared = declared;
    some = omega (arith, some, lines_length lines);
    few = omega (arith, few, lines_length lines);
    adds = adds_bytes lines whole;
    removes = removes_bytes lines whole;
  };
  adds = adds_whole lines whole;
  removes = removes_whole lines whole;
}

-- ---- records

each_place : {X : Type 0} (P : X → Type 0) (f : ℕ → X) (k n : ℕ) → ((place : ℕ) → place < k + n → P (f place)) → All P (map f (range_with_len k n))
each_place P f k zero h = All-nil P
each_place P f k (suc n) h =
    All-cons P (f k) (map f (range_with_len (k + 1) n)) (h k (omega arith)) (each_place P f (k + 1) n (λ place lt. h place (omega (arith, lt))))

begins_within : (n place : ℕ) → place < record_count n → place * 1024 + 1 ≤ n
begins_within n place lt = let whole = div-add-mod' (n + 1023) 1024 in let less = mod-lt (n + 1023) {m = 1024} (omega arith) in omega (arith, whole, less, lt)

some_lines : (lines : List HashLine) (place : ℕ) → place < record_count (length lines) → 1 ≤ length (lines_at lines place)
some_lines lines place lt =
    omega (arith, begins_within (length lines) place lt, length-take 1024 (drop (place * 1024) lines), length-drop (place * 1024) lines)

few_lines : (lines : List HashLine) (place : ℕ) → length (lines_at lines place) ≤ 1024
few_lines lines place = omega (arith, length-take 1024 (drop (place * 1024) lines))

-- Records of whole hash lines may follow a history that declares their list.
pub records_follow : (history : History) (list : ListName) (lines : List HashLine) → declares history list ≡ true → All HasHash lines → All HasPrefixSize lines
    → All (MayFollow history) (records_of list lines)
unfolding records_of
records_follow history list lines declared hashes sizes =
    let whole : All IsWhole lines = λ k d lt. (hashes k d lt, sizes k d lt) in
    each_place (MayFollow history) (λ place. change_with list (lines_at lines place)) 0 (record_count (length lines)) (λ place lt.
    record_follows history list (lines_at lines place) declared (All-take IsWhole 1024 (drop (place * 1024) lines) (All-drop IsWhole (place * 1024) lines whole))
    (some_lines lines place (omega (arith, lt))) (few_lines lines place))

-- ---- what leads to wanted hashes

removes_have : (P : HashLine → Type 0) (hashes : List (List ℕ)) → ((hash : List ℕ) → P (Remove hash)) → All P (map Remove hashes)
removes_have P [] h = All-nil P
removes_have P (hash ∷ hashes) h = All-cons P (Remove hash) (map Remove hashes) (h hash) (removes_have P hashes h)

adds_have : (P : HashLine → Type 0) (size : ℕ) (hashes : List (List ℕ)) → ((hash : List ℕ) → P (add_of size hash)) → All P (map (add_of size) hashes)
adds_have P size [] h = All-nil P
adds_have P size (hash ∷ hashes) h = All-cons P (add_of size hash) (map (add_of size) hashes) (h hash) (adds_have P size hashes h)

leading_have : (P : HashLine → Type 0) (size : ℕ) (held wanted : List (List ℕ)) → ((hash : List ℕ) → P (Remove hash)) → ((hash : List ℕ) → P (add_of size hash))
    → All P (leading_lines size held wanted)
unfolding leading_lines
leading_have P size held wanted removes adds =
    All-append P (map Remove (added_members wanted held)) (map (add_of size) (added_members held wanted))
    (removes_have P (added_members wanted held) removes) (adds_have P size (added_members held wanted) adds)

-- the declared size of a list is one of a prefix
step : {X : Type 0} (P : ℕ → Type 0) (p : X → Bool) (f : X → ℕ) (x : X) (xs : List X) (y : ℕ) (b : Bool) → p x ≡ b → P (f x) → (option_map f (find p xs) ≡ Some y → P y)
    → option_map f (find p (x ∷ xs)) ≡ Some y → P y
step P p f x xs y true h first next e = subst P (the_same (f x) y (rw h at e)) first
  where
    the_same : (m n : ℕ) → (let some : Option ℕ = Some m in some ≡ Some n) → m ≡ n
    the_same m n e = cc
step P p f x xs y false h first next e = next (rw h at e)

found : {X : Type 0} (P : ℕ → Type 0) (p : X → Bool) (f : X → ℕ) (xs : List X) (y : ℕ) → All (λ (x : X). P (f x)) xs → option_map f (find p xs) ≡ Some y → P y
found P p f [] y h e = absurd (cc)
found {X} P p f (x ∷ xs) y h e = step P p f x xs y (p x) refl (All-head (λ (x : X). P (f x)) x xs h) (found P p f xs y (All-tail (λ (x : X). P (f x)) x xs h)) e

pub size_is : (history : History) (list : ListName) (size : ℕ) → IsWellFormed history → declared_size_of history list ≡ Some size → IsPrefixSize size
size_is history list size h e = found IsPrefixSize (λ (d : ListName × ℕ). same_name d.0 list) (λ (d : ListName × ℕ). d.1) history.declared size h.declared e

found_there : {X : Type 0} (p : X → Bool) (f : X → ℕ) (x : X) (xs : List X) (y : ℕ) (b : Bool) → p x ≡ b → (option_map f (find p xs) ≡ Some y → list_any p xs ≡ true)
    → option_map f (find p (x ∷ xs)) ≡ Some y → list_any p (x ∷ xs) ≡ true
found_there p f x xs y true h next e = rw h refl
found_there p f x xs y false h next e = rw h (next (rw h at e))

list_found : {X : Type 0} (p : X → Bool) (f : X → ℕ) (xs : List X) (y : ℕ) → option_map f (find p xs) ≡ Some y → list_any p xs ≡ true
list_found p f [] y e = absurd (cc)
list_found p f (x ∷ xs) y e = found_there p f x xs y (p x) refl (list_found p f xs y) e

pub declared_is : (history : History) (list : ListName) (size : ℕ) → declared_size_of history list ≡ Some size → declares history list ≡ true
declared_is history list size e = list_found (λ (d : ListName × ℕ). same_name d.0 list) (λ (d : ListName × ℕ). d.1) history.declared size e

-- what is asked of each hash that a line puts in
abbrev PutsIn : (Added → Type 0) → HashLine → Type 0
PutsIn P (Add added) = P added
PutsIn P (Remove hash) = ⊤

adds_have_all : (P : Added → Type 0) (lines : List HashLine) → All (PutsIn P) lines → All P (adds_in lines)
adds_have_all P [] h = All-nil P
adds_have_all P (Add added ∷ lines) h = All-cons P added (adds_in lines) (All-head (PutsIn P) (Add added) lines h) (adds_have_all P lines (All-tail (PutsIn P) (Add added) lines h))
adds_have_all P (Remove hash ∷ lines) h = adds_have_all P lines (All-tail (PutsIn P) (Remove hash) lines h)

line_puts_in : (history : History) (list : ListName) (size : ℕ) → declared_size_of history list ≡ Some size → (line : HashLine) → HasSize size line
    → PutsIn (λ (added : Added). declared_size_of history list ≡ Some added.size) line
line_puts_in history list size e (Add added) is = e ∙ ap Some (sym is)
line_puts_in history list size e (Remove hash) is = tt

-- Records of hash lines that put in with the declared size of their list have declared sizes.
pub records_sizes : (history : History) (list : ListName) (size : ℕ) (lines : List HashLine) → declared_size_of history list ≡ Some size → All (HasSize size) lines
    → HaveDeclaredSizes history (records_of list lines)
unfolding records_of
records_sizes history list size lines e sizes =
    let P : Added → Type 0 = λ added. declared_size_of history list ≡ Some added.size in
    let all : All (PutsIn P) lines = λ k d lt. line_puts_in history list size e (get_or lines k d) (sizes k d lt) in
    each_place (λ (change : Change). All (λ (added : Added). declared_size_of history change.list ≡ Some added.size) change.adds)
    (λ place. change_with list (lines_at lines place)) 0 (record_count (length lines)) (λ place lt.
    adds_have_all P (lines_at lines place) (All-take (PutsIn P) 1024 (drop (place * 1024) lines) (All-drop (PutsIn P) (place * 1024) lines all)))

-- What leads to wanted hashes may follow.
pub synced_follow : (history : History) (list : ListName) (size : ℕ) (wanted : List (List ℕ)) → IsWellFormed history → declared_size_of history list ≡ Some size
    → All HasHash (leading_lines size (newest_hashes history list) wanted) → All (MayFollow history) (sync_changes history list size wanted)
synced_follow history list size wanted formed e hashes =
    records_follow history list (leading_lines size (newest_hashes history list) wanted) (declared_is history list size e) hashes
    (leading_have HasPrefixSize size (newest_hashes history list) wanted (λ hash. tt) (λ hash. size_is history list size formed e))

-- Each hash that it puts in has the declared size.
pub synced_sizes : (history : History) (list : ListName) (size : ℕ) (wanted : List (List ℕ)) → declared_size_of history list ≡ Some size
    → HaveDeclaredSizes history (sync_changes history list size wanted)
synced_sizes history list size wanted e =
    records_sizes history list size (leading_lines size (newest_hashes history list) wanted) e
    (leading_have (HasSize size) size (newest_hashes history list) wanted (λ hash. tt) (λ hash. refl))
