-- The history that a seed makes can be told by a journal.
use Rattle.std.proofs.Common.{◌≡◌, ℕ, ◌+◌, ◌-◌, ◌*◌, ◌%◌, ◌^◌, ◌<◌, ◌≤◌, List, [], ◌∷◌, Bool, true, false, length, map, refl, sym, subst, arith, inl, inr, lit<, lit≤}
use Rattle.std.specs.Prelude.{All, Some, ◌==◌, if◌then◌else◌, slice_index, zero, suc}
use Rattle.std.specs.Int.{byte_at, bytes_high_first}
use Rattle.std.specs.List.{range_with_len}
use Rattle.std.proofs.lemmas.Bool.{cases_lt}
use Rattle.std.proofs.lemmas.List.{get_or_past}
use Rattle.std.proofs.lemmas.List.Elements.{All-append, All-cons, All-map, All-nil}
use Rattle.std.proofs.lemmas.List.FromFn.{length-map-range_with_len}
use Rattle.std.proofs.lemmas.List.Sums.{sum_by-le}
use Rattle.std.proofs.lemmas.Nat.{mod_below}
use Rattle.hex.specs.Hex.{IsBytes}
use Rattle.sha2.specs.Sha256.{digest_bytes, sha256}
use Rattle.sha2.proofs.Facts256.{length-sha256}
use Rattle.sb_model.specs.declared.history.Added.{Added}
use Rattle.sb_model.specs.declared.history.Change.{Change}
use Rattle.sb_model.specs.declared.names.ListName.{ListName}
use Rattle.sb_model.specs.History.{IsPrefixSize}
use Rattle.list_versions.specs.Journal.{declared_size_of}
use Rattle.list_versions.specs.Limits.{WithinLimits, hash_lines}
use Rattle.list_versions.specs.Written.{HasDeclaredSizes, HasJournal, HasLines}
use Rattle.generated_load.specs.Generated.{change_at, generated_change, generated, generated_list, hash_at, generated_hash, seed_number_at}

-- ---- the bytes of a digest

abbrev IsByte : ℕ → Type 0
IsByte byte = byte < 256

byte_small : (i n : ℕ) → byte_at i n < 256
byte_small zero n = mod_below n 256 (lit< tt)
byte_small (suc i) n = mod_below _ 256 (lit< tt)

word_bytes : (k n : ℕ) → All IsByte (bytes_high_first k n)
word_bytes zero n = All-nil IsByte
word_bytes (suc k) n = All-cons IsByte (byte_at k n) (bytes_high_first k n) (byte_small k n) (word_bytes k n)

digest_each : (h : List ℕ) (n : ℕ) → All IsByte (digest_bytes h n)
unfolding digest_bytes
digest_each h zero = All-nil IsByte
digest_each h (suc n) = All-append IsByte (digest_bytes h n) (bytes_high_first 4 (slice_index h n)) (digest_each h n) (word_bytes 4 (slice_index h n))

sha_bytes : (text : List ℕ) → All IsByte (sha256 text)
unfolding sha256
sha_bytes text = digest_each _ 8

are_bytes : (bytes : List ℕ) → All IsByte bytes → IsBytes bytes
are_bytes bytes all = λ i.
    elim (cases_lt i (length bytes)) [
      | inl less ↦ all i 0 less
      | inr past ↦ subst IsByte (sym (get_or_past bytes i 0 past)) (lit< tt)
    ]

hash_bytes : (number : ℕ) → IsBytes (generated_hash number)
unfolding generated_hash
hash_bytes number = are_bytes (sha256 _) (sha_bytes _)

hash_long : (number : ℕ) → length (generated_hash number) ≡ 32
unfolding generated_hash
hash_long number = length-sha256 _

-- ---- each change

of_each : {A : Type 0} (P : A → Type 0) (xs : List A) → ((x : A) → P x) → All P xs
of_each P xs h = λ k d within. h _

only : {A : Type 0} (P : A → Type 0) (x : A) → P x → All P (x ∷ [])
only P x h = All-cons P x [] h (All-nil P)

if_removed : (P : List ℕ → Type 0) (removes : Bool) (hash : List ℕ) → P hash → All P (if removes then hash ∷ [] else [])
if_removed P true hash h = only P hash h
if_removed P false hash h = All-nil P

few_removed : (removes : Bool) (hash : List ℕ) → length (if removes then hash ∷ [] else []) ≤ 1
few_removed true hash = lit≤ tt
few_removed false hash = lit≤ tt

four : IsPrefixSize 4
four = record { low = lit≤ tt; high = lit≤ tt }

adds_right : (seed place : ℕ) → All (λ (added : Added). (length added.hash ≡ 32) × IsPrefixSize added.size) (change_at seed place).adds
unfolding generated_change
adds_right seed place =
    only (λ (added : Added). (length added.hash ≡ 32) × IsPrefixSize added.size) (record { hash = hash_at seed place; size = 4 }) (hash_long (seed_number_at seed place), four)

removes_right : (seed place : ℕ) → All (λ (hash : List ℕ). length hash ≡ 32) (change_at seed place).removes
unfolding generated_change
removes_right seed place = if_removed (λ (hash : List ℕ). length hash ≡ 32) (place % 4 == 0) _ (hash_long _)

has_lines : (count seed place : ℕ) → HasLines (generated count seed) (change_at seed place)
unfolding generated generated_change
has_lines count seed place =
    let few = few_removed (place % 4 == 0) (hash_at seed (place - 1)) in
    record {
      declared = refl;
      some = omega (arith, few);
      few = omega (arith, few);
      adds = only (λ (added : Added). IsBytes added.hash) (record { hash = hash_at seed place; size = 4 }) (hash_bytes (seed_number_at seed place));
      removes = if_removed IsBytes (place % 4 == 0) _ (hash_bytes _);
    }

at_places : (P : Change → Type 0) (count seed : ℕ) → ((place : ℕ) → P (change_at seed place)) → All P (map (change_at seed) (range_with_len 1 count))
at_places P count seed each = All-map P (change_at seed) (range_with_len 1 count) (of_each (λ (place : ℕ). P (change_at seed place)) (range_with_len 1 count) each)

two_lines : (seed place : ℕ) → length (change_at seed place).adds + length (change_at seed place).removes ≤ 2
unfolding generated_change
two_lines seed place = let few = few_removed (place % 4 == 0) (hash_at seed (place - 1)) in omega (arith, few)

few_lines : (count seed : ℕ) → hash_lines (map (change_at seed) (range_with_len 1 count)) ≤ count * 2
few_lines count seed =
    let each = at_places (λ (change : Change). length change.adds + length change.removes ≤ 2) count seed (two_lines seed) in
    subst (λ (n : ℕ). hash_lines (map (change_at seed) (range_with_len 1 count)) ≤ n * 2) (length-map-range_with_len (change_at seed) 1 count)
    (sum_by-le (λ (change : Change). length change.adds + length change.removes) 2 (map (change_at seed) (range_with_len 1 count)) each)

-- ---- all in all

abbrev AddsRight : Change → Type 0
AddsRight change = All (λ (added : Added). (length added.hash ≡ 32) × IsPrefixSize added.size) change.adds

abbrev RemovesRight : Change → Type 0
RemovesRight change = All (λ (hash : List ℕ). length hash ≡ 32) change.removes

pub has_journal : (count seed : ℕ) → count ≤ 65536 → seed < 2 ^ 64 → WithinLimits (generated count seed) → HasJournal (generated count seed)
unfolding generated
has_journal count seed few small within = record {
  epoch = small;
  well_formed = record {
    declared = only (λ (list : ListName × ℕ). IsPrefixSize list.1) (generated_list, 4) four;
    adds = at_places AddsRight count seed (adds_right seed);
    removes = at_places RemovesRight count seed (removes_right seed);
  };
  apart = (All-nil _, tt);
  changes = at_places (HasLines (generated count seed)) count seed (has_lines count seed);
  few_lists = lit≤ tt;
  few_changes = omega (arith, few, length-map-range_with_len (change_at seed) 1 count);
  few_hashes = omega (arith, few, few_lines count seed);
  within = within;
}

four_each : (count seed place : ℕ) → All (λ (added : Added). declared_size_of (generated count seed) (change_at seed place).list ≡ Some added.size) (change_at seed place).adds
unfolding generated generated_change
four_each count seed place =
    only (λ (added : Added). declared_size_of (generated count seed) generated_list ≡ Some added.size) (record { hash = hash_at seed place; size = 4 }) refl

-- and by a journal of the first form, since each hash has the size of the list
pub has_sizes : (count seed : ℕ) → HasDeclaredSizes (generated count seed)
unfolding generated
has_sizes count seed =
    at_places (λ (change : Change). All (λ (added : Added). declared_size_of (generated count seed) change.list ≡ Some added.size) change.adds) count seed (four_each count seed)
