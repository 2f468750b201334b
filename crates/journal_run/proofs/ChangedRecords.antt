-- What `change` prints, behind a journal.
use Rattle.std.proofs.Common.{◌≡◌, ◌∙◌, ℕ, ◌*◌, suc, List, [], ◌∷◌, ◌++◌, Bool, true, false, length, map, take, drop, refl, sym, ap, subst, Option, Some, None}
use Rattle.std.specs.Prelude.{All, IfSome, Ok, codes, decimal, find, is_some, option_map, unwrap_or}
use Rattle.std.specs.List.{flat_map, range_with_len}
use Rattle.std.proofs.lemmas.List.{drop-map, length-map, take-map}
use Rattle.std.proofs.lemmas.List.Elements.{All-head, All-tail}
use Rattle.std.proofs.lemmas.List.Folds.{flat_map-map}
use Rattle.sb_model.specs.declared.history.Change.{Change}
use Rattle.sb_model.specs.declared.names.ListName.{ListName}
use Rattle.sb_model.specs.History.{History, IsPrefixSize, IsWellFormed, declares}
use Rattle.sb_model.specs.Names.{same_name, text_of}
use Rattle.list_versions.specs.Journal.{Kept, declared_size_of, read_on}
use Rattle.list_versions.specs.Written.{HaveDeclaredSizes, MayFollow, add_line, change_text, line_of, remove_line, with_changes}
use Rattle.sb_journal.specs.declared.hash_line.HashLine.{HashLine}
use Rattle.sb_journal.specs.declared.hash_line.HashLine.TheVariants.{Add, Remove}
use Rattle.sb_journal.specs.Changes.{edits_in}
use Rattle.sb_journal.specs.Followed.{HasHash, HasPrefixSize, HasSize}
use Rattle.sb_journal.specs.Records.{adds_in, change_with, last_lines, lines_at, record_count, records_of, removes_in}
use Rattle.sb_journal.specs.Texts.{records_text}
use Rattle.journal_run.proofs.Declared.{declared_is}
use Rattle.journal_run.proofs.Edits.{lasts_have_hashes, lasts_have_prefix_sizes, lasts_have_the_size, lasts_resized, resized}

-- ---- without sizes, the text does not go by the size

adds_text : (size : ℕ) (lines : List HashLine) → flat_map (add_line false) (adds_in (map (resized size) lines)) ≡ flat_map (add_line false) (adds_in lines)
adds_text size [] = refl
adds_text size (Add added ∷ lines) = ap (λ (text : List ℕ). add_line false added ++ text) (adds_text size lines)
adds_text size (Remove hash ∷ lines) = adds_text size lines

adds_count : (size : ℕ) (lines : List HashLine) → length (adds_in (map (resized size) lines)) ≡ length (adds_in lines)
adds_count size [] = refl
adds_count size (Add added ∷ lines) = ap (λ n. suc n) (adds_count size lines)
adds_count size (Remove hash ∷ lines) = adds_count size lines

removes_same : (size : ℕ) (lines : List HashLine) → removes_in (map (resized size) lines) ≡ removes_in lines
removes_same size [] = refl
removes_same size (Add added ∷ lines) = removes_same size lines
removes_same size (Remove hash ∷ lines) = ap (λ (hashes : List (List ℕ)). hash ∷ hashes) (removes_same size lines)

-- the text of a change, by its count of hashes that are put in, their text, and what is taken out
abbrev text_by : ListName → ℕ → List ℕ → List (List ℕ) → List ℕ
text_by list count adds removes =
    line_of (codes "change" ∷ text_of list ∷ decimal count ∷ decimal (length removes) ∷ []) ++ adds ++ flat_map remove_line removes

one_text : (list : ListName) (size : ℕ) (lines : List HashLine) → change_text false (change_with list (map (resized size) lines)) ≡ change_text false (change_with list lines)
unfolding change_text
one_text list size lines =
    ap (λ count. text_by list count (flat_map (add_line false) (adds_in (map (resized size) lines))) (removes_in (map (resized size) lines))) (adds_count size lines)
    ∙ ap (λ adds. text_by list (length (adds_in lines)) adds (removes_in (map (resized size) lines))) (adds_text size lines)
    ∙ ap (λ removes. text_by list (length (adds_in lines)) (flat_map (add_line false) (adds_in lines)) removes) (removes_same size lines)

same_parts : {X Y : Type 0} (f g : X → List Y) → ((x : X) → f x ≡ g x) → (xs : List X) → flat_map f xs ≡ flat_map g xs
same_parts f g e [] = refl
same_parts f g e (x ∷ xs) = ap (λ first. first ++ flat_map f xs) (e x) ∙ ap (λ rest. g x ++ rest) (same_parts f g e xs)

text_at : ListName → List HashLine → ℕ → List ℕ
text_at list lines place = change_text false (change_with list (lines_at lines place))

by_places : (list : ListName) (lines : List HashLine) → records_text false (records_of list lines) ≡ flat_map (text_at list lines) (range_with_len 0 (record_count (length lines)))
unfolding records_of text_at
by_places list lines = flat_map-map (change_text false) (λ place. change_with list (lines_at lines place)) (range_with_len 0 (record_count (length lines)))

at_place : (list : ListName) (size : ℕ) (lines : List HashLine) (place : ℕ) → text_at list (map (resized size) lines) place ≡ text_at list lines place
unfolding text_at
at_place list size lines place =
    ap (λ some. change_text false (change_with list (take 1024 some))) (drop-map (resized size) (place * 1024) lines)
    ∙ ap (λ some. change_text false (change_with list some)) (take-map (resized size) 1024 (drop (place * 1024) lines))
    ∙ one_text list size (lines_at lines place)

plain_text : (list : ListName) (size : ℕ) (lines : List HashLine) → records_text false (records_of list (map (resized size) lines)) ≡ records_text false (records_of list lines)
plain_text list size lines =
    by_places list (map (resized size) lines)
    ∙ ap (λ count. flat_map (text_at list (map (resized size) lines)) (range_with_len 0 (record_count count))) (length-map {B = HashLine} lines (resized size))
    ∙ same_parts (text_at list (map (resized size) lines)) (text_at list lines) (at_place list size lines) (range_with_len 0 (record_count (length lines)))
    ∙ sym (by_places list lines)

-- ---- the declared size of a list is one of a prefix

size_step : {X : Type 0} (P : ℕ → Type 0) (p : X → Bool) (f : X → ℕ) (x : X) (xs : List X) (y : ℕ) (b : Bool) → p x ≡ b → P (f x) → (option_map f (find p xs) ≡ Some y → P y)
    → option_map f (find p (x ∷ xs)) ≡ Some y → P y
size_step P p f x xs y true h first next e = subst P (the_same (f x) y (rw h at e)) first
  where
    the_same : (m n : ℕ) → (let some : Option ℕ = Some m in some ≡ Some n) → m ≡ n
    the_same m n e = cc
size_step P p f x xs y false h first next e = next (rw h at e)

size_found : {X : Type 0} (P : ℕ → Type 0) (p : X → Bool) (f : X → ℕ) (xs : List X) (y : ℕ) → All (λ (x : X). P (f x)) xs → option_map f (find p xs) ≡ Some y → P y
size_found P p f [] y h e = absurd (cc)
size_found {X} P p f (x ∷ xs) y h e =
    size_step P p f x xs y (p x) refl (All-head (λ (x : X). P (f x)) x xs h) (size_found P p f xs y (All-tail (λ (x : X). P (f x)) x xs h)) e

size_is : (history : History) (list : ListName) (size : ℕ) → IsWellFormed history → declared_size_of history list ≡ Some size → IsPrefixSize size
size_is history list size h e = size_found IsPrefixSize (λ (d : ListName × ℕ). same_name d.0 list) (λ (d : ListName × ℕ). d.1) history.declared size h.declared e

-- ---- the records of an input

-- Hash lines may follow, and records are read as their changes.
pub record RecordLaws : Type 0 where
  pub follow : (history : History) (list : ListName) (lines : List HashLine) → declares history list ≡ true → All HasHash lines → All HasPrefixSize lines
      → All (MayFollow history) (records_of list lines)
  pub sizes : (history : History) (list : ListName) (size : ℕ) (lines : List HashLine) → declared_size_of history list ≡ Some size → All (HasSize size) lines
      → HaveDeclaredSizes history (records_of list lines)
  pub sized : (kept after : Kept) (changes : List Change) → kept.rest ≡ [] → kept.sized ≡ true → All (MayFollow kept.versions) changes
      → read_on kept (records_text true changes) ≡ Ok after → after ≡ with_changes changes kept
  pub plain : (kept after : Kept) (changes : List Change) → kept.rest ≡ [] → All (MayFollow kept.versions) changes → HaveDeclaredSizes kept.versions changes
      → read_on kept (records_text false changes) ≡ Ok after → after ≡ with_changes changes kept

abbrev changes_of : ListName → ℕ → List ℕ → List Change
changes_of list size input = records_of list (last_lines (edits_in size input))

-- What is printed with a size, or without one, is read as the changes with that size, or with the declared one.
pub changed_read : (laws : RecordLaws) (kept after : Kept) (list : ListName) (given : Option ℕ) (input : List ℕ) (declared : ℕ) → declared_size_of kept.versions list ≡ Some declared
    → IsWellFormed kept.versions → kept.rest ≡ [] → IfSome given IsPrefixSize → (is_some given ≡ true → kept.sized ≡ true)
    → read_on kept (records_text (is_some given) (changes_of list (unwrap_or given 4) input)) ≡ Ok after → after ≡ with_changes (changes_of list (unwrap_or given declared) input) kept
changed_read laws kept after list None input declared e formed rest size form read =
    laws.plain kept after (changes_of list declared input) rest
    (laws.follow kept.versions list (last_lines (edits_in declared input)) (declared_is kept.versions list declared e) (lasts_have_hashes declared input)
    (lasts_have_prefix_sizes declared input (size_is kept.versions list declared formed e)))
    (laws.sizes kept.versions list declared (last_lines (edits_in declared input)) e (lasts_have_the_size declared input))
    (ap (read_on kept) (ap (λ lines. records_text false (records_of list lines)) (lasts_resized 4 declared input) ∙ plain_text list declared (last_lines (edits_in 4 input))) ∙ read)
changed_read laws kept after list (Some size) input declared e formed rest is form read =
    laws.sized kept after (changes_of list size input) rest (form refl)
    (laws.follow kept.versions list (last_lines (edits_in size input)) (declared_is kept.versions list declared e) (lasts_have_hashes size input) (lasts_have_prefix_sizes size input is))
    read
