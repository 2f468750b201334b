-- Reading so many prefixes, and so many lists, one after the other.
use Rattle.std.proofs.Common.{◌≡◌, ℕ, suc, ◌+◌, ◌-◌, ◌<◌, ◌≤◌, List, [], ◌∷◌, ◌++◌, Option, Result, Ok, Err, refl, sym, ◌∙◌, arith}
use Rattle.update_client.specs.Held.{Held}
use Rattle.client_store.specs.declared.fields.Stop.{Stop}
use Rattle.client_store.specs.declared.fields.Stop.TheVariants as stop
use Rattle.client_store.specs.declared.format.Format.{Format}
use Rattle.client_store.specs.Fields.{StopsAsReading}
use Rattle.client_store.specs.Reading.{prefix_at, more_prefixes_at, list_at, lists_at}

-- ---- prefixes

pub next_prefix : (common : Option ℕ) (count i : ℕ) (set : List (List ℕ)) (bytes prefix after : List ℕ) (all : Result (List (List ℕ) × List ℕ) ℕ) → i < count
    → prefix_at common set bytes ≡ Ok (prefix, after) → more_prefixes_at common (count - i) set bytes ≡ all → more_prefixes_at common (count - (i + 1)) (set ++ prefix ∷ []) after ≡ all
unfolding more_prefixes_at
next_prefix common count i set bytes prefix after all below read so_far =
    let left : count - i ≡ suc (count - (i + 1)) = omega arith in
    let one : more_prefixes_at common (count - i) set bytes ≡ more_prefixes_at common (count - (i + 1)) (set ++ prefix ∷ []) after = rw (left, read) refl in
    sym one ∙ so_far

pub no_next_prefix : (why : Stop) (common : Option ℕ) (count i : ℕ) (set : List (List ℕ)) (bytes : List ℕ) (all : Result (List (List ℕ) × List ℕ) ℕ) → i < count
    → StopsAsReading why (prefix_at common set bytes) → more_prefixes_at common (count - i) set bytes ≡ all → StopsAsReading why all
unfolding more_prefixes_at
no_next_prefix stop.OutOfMemory common count i set bytes all below stopped so_far = tt
no_next_prefix (stop.Broken left) common count i set bytes all below stopped so_far =
    let some : count - i ≡ suc (count - (i + 1)) = omega arith in
    let one : more_prefixes_at common (count - i) set bytes ≡ Err left = rw (some, stopped) refl in
    sym so_far ∙ one

pub all_prefixes : (common : Option ℕ) (count i : ℕ) (set : List (List ℕ)) (bytes : List ℕ) (all : Result (List (List ℕ) × List ℕ) ℕ) → count ≤ i
    → more_prefixes_at common (count - i) set bytes ≡ all → all ≡ Ok (set, bytes)
unfolding more_prefixes_at
all_prefixes common count i set bytes all past so_far =
    let none : count - i ≡ 0 = omega arith in
    let one : more_prefixes_at common (count - i) set bytes ≡ Ok (set, bytes) = rw none refl in
    sym so_far ∙ one

-- ---- lists

pub next_list : (format : Format) (count i : ℕ) (before : List Held) (bytes : List ℕ) (held : Held) (after : List ℕ) (all : Result (List Held × List ℕ) ℕ) → i < count
    → list_at format before bytes ≡ Ok (held, after) → lists_at format (count - i) before bytes ≡ all → lists_at format (count - (i + 1)) (before ++ held ∷ []) after ≡ all
unfolding lists_at
next_list format count i before bytes held after all below read so_far =
    let left : count - i ≡ suc (count - (i + 1)) = omega arith in
    let one : lists_at format (count - i) before bytes ≡ lists_at format (count - (i + 1)) (before ++ held ∷ []) after = rw (left, read) refl in
    sym one ∙ so_far

pub no_next_list : (why : Stop) (format : Format) (count i : ℕ) (before : List Held) (bytes : List ℕ) (all : Result (List Held × List ℕ) ℕ) → i < count
    → StopsAsReading why (list_at format before bytes) → lists_at format (count - i) before bytes ≡ all → StopsAsReading why all
unfolding lists_at
no_next_list stop.OutOfMemory format count i before bytes all below stopped so_far = tt
no_next_list (stop.Broken left) format count i before bytes all below stopped so_far =
    let some : count - i ≡ suc (count - (i + 1)) = omega arith in
    let one : lists_at format (count - i) before bytes ≡ Err left = rw (some, stopped) refl in
    sym so_far ∙ one

pub all_lists : (format : Format) (count i : ℕ) (before : List Held) (bytes : List ℕ) (all : Result (List Held × List ℕ) ℕ) → count ≤ i
    → lists_at format (count - i) before bytes ≡ all → all ≡ Ok (before, bytes)
unfolding lists_at
all_lists format count i before bytes all past so_far =
    let none : count - i ≡ 0 = omega arith in
    let one : lists_at format (count - i) before bytes ≡ Ok (before, bytes) = rw none refl in
    sym so_far ∙ one
