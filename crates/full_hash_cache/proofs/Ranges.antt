-- The full hashes that begin with a prefix are those from the least to the greatest of them.
use Rattle.std.proofs.Common.{rules, cond, get_or, ◌≡◌, ℕ, zero, suc, ◌+◌, ◌-◌, ◌<◌, ◌≤◌, ◌&&◌, Bool, true, false, not, nat_eq, List, [], ◌∷◌, ◌++◌, length, take, replicate, refl, sym, ◌∙◌, arith}
use Rattle.std.specs.declared.cmp.Ordering.{Ordering}
use Rattle.std.specs.declared.cmp.Ordering.TheVariants.{Less, Equal, Greater}
use Rattle.std.specs.Ordering.{nat_cmp, ordering_then, is_le, is_lt, is_gt}
use Rattle.std.specs.List.{AllByRecursion}
use Rattle.std.specs.Str.{bytes_eq}
use Rattle.std.proofs.lemmas.Bool.Decides.{nat_tests}
use Rattle.std.specs.Ordering.{match_ordering}
use Rattle.std.specs.BTreeMap.{insert_entry}
use Rattle.std.specs.BTreeMap.Range.{entries_between}
use Rattle.std.specs.declared.ops.Bound.TheVariants.{Included}
use Rattle.sb_model.specs.Prefixes.{bytes_cmp}
use Rattle.sb_model.specs.declared.time.Moment.{Moment}
use Rattle.hash_prefixes.specs.declared.hashes.FullHash.{FullHash}
use Rattle.hash_prefixes.specs.contracts.hashes.FullHashOrd.TheImpl.{cmp-value}
use Rattle.full_hash_cache.specs.Cache.{Matches, hash_cmp, with_match, beginning_with}
use Rattle.full_hash_cache.specs.Keys.{IsFullHash, HasFullHashes}

below_not_same : (x y : ℕ) → nat_cmp x y ≡ Less → nat_eq y x ≡ false
below_not_same x y h = grind (arith, nat_tests)

above_not_same : (x y : ℕ) → nat_cmp x y ≡ Greater → nat_eq y x ≡ false
above_not_same x y h = grind (arith, nat_tests)

equal_same : (x y : ℕ) → nat_cmp x y ≡ Equal → nat_eq y x ≡ true
equal_same x y h = grind (arith, nat_tests)

zero_least : (y : ℕ) (o : Ordering) → is_le o ≡ true → is_le (ordering_then (nat_cmp 0 y) o) ≡ true
zero_least y o h = go (nat_cmp 0 y) refl
  where
    go : (p : Ordering) → nat_cmp 0 y ≡ p → is_le (ordering_then p o) ≡ true
    go Less is = refl
    go Equal is = h
    go Greater is = let no : y < 0 = grind (arith, nat_tests) in absurd (omega arith)

top_greatest : (y : ℕ) (o : Ordering) → y < 256 → is_lt o ≡ false → is_lt (ordering_then (nat_cmp 255 y) o) ≡ false
top_greatest y o small h = go (nat_cmp 255 y) refl
  where
    go : (p : Ordering) → nat_cmp 255 y ≡ p → is_lt (ordering_then p o) ≡ false
    go Less is = let no : 255 < y = grind (arith, nat_tests) in absurd (omega arith)
    go Equal is = h
    go Greater is = refl

-- zeros come before every string of their length, and greatest bytes after it
zeros_least : (k : ℕ) (hash : List ℕ) → k ≡ length hash → is_le (bytes_cmp (replicate k 0) hash) ≡ true
zeros_least zero [] h = refl
zeros_least zero (y ∷ ys) h = absurd (omega arith)
zeros_least (suc k) [] h = absurd (omega arith)
zeros_least (suc k) (y ∷ ys) h = zero_least y (bytes_cmp (replicate k 0) ys) (zeros_least k ys (omega arith))

abbrev Bytes : List ℕ → Type 0
Bytes bytes = AllByRecursion (λ byte. byte < 256) bytes

tops_greatest : (k : ℕ) (hash : List ℕ) → k ≡ length hash → Bytes hash → is_lt (bytes_cmp (replicate k 255) hash) ≡ false
tops_greatest zero [] h small = refl
tops_greatest zero (y ∷ ys) h small = absurd (omega arith)
tops_greatest (suc k) [] h small = absurd (omega arith)
tops_greatest (suc k) (y ∷ ys) h small = top_greatest y (bytes_cmp (replicate k 255) ys) small.0 (tops_greatest k ys (omega arith) small.1)

abbrev is_between : List ℕ → List ℕ → List ℕ → Bool
is_between low high hash = is_le (bytes_cmp low hash) && not (is_lt (bytes_cmp high hash))

pub between : (prefix : List ℕ) (k : ℕ) (hash : List ℕ) → length prefix + k ≡ length hash → Bytes hash
    → is_between (prefix ++ replicate k 0) (prefix ++ replicate k 255) hash ≡ bytes_eq (take (length prefix) hash) prefix
between [] k hash h small = rw (zeros_least k hash (omega arith), tops_greatest k hash (omega arith) small) refl
between (x ∷ xs) k [] h small = absurd (omega arith)
between (x ∷ xs) k (y ∷ ys) h small = go (nat_cmp x y) refl (between xs k ys (omega arith) small.1)
  where
    go : (o : Ordering) → nat_cmp x y ≡ o
        → is_between (xs ++ replicate k 0) (xs ++ replicate k 255) ys ≡ bytes_eq (take (length xs) ys) xs
        → is_le (ordering_then (nat_cmp x y) (bytes_cmp (xs ++ replicate k 0) ys)) && not (is_lt (ordering_then (nat_cmp x y) (bytes_cmp (xs ++ replicate k 255) ys)))
        ≡ nat_eq y x && bytes_eq (take (length xs) ys) xs
    go Less is more = rw (is, below_not_same x y is) refl
    go Equal is more = rw (is, equal_same x y is) more
    go Greater is more = rw (is, above_not_same x y is) refl

pub same_number : (x : ℕ) → nat_cmp x x ≡ Equal
same_number x = grind (arith, nat_tests)

all_by_index : (xs : List ℕ) → ((k : ℕ) → get_or xs k 0 < 256) → Bytes xs
all_by_index [] h = tt
all_by_index (x ∷ xs) h = (h 0, all_by_index xs (λ k. h (suc k)))

-- the least does not come after the greatest
pub in_order : (prefix : List ℕ) (k : ℕ) → is_gt (bytes_cmp (prefix ++ replicate k 0) (prefix ++ replicate k 255)) ≡ false
in_order [] zero = refl
in_order [] (suc k) = refl
in_order (x ∷ xs) k = go (nat_cmp x x) (same_number x) (in_order xs k)
  where
    go : (o : Ordering) → o ≡ Equal → is_gt (bytes_cmp (xs ++ replicate k 0) (xs ++ replicate k 255)) ≡ false
        → is_gt (ordering_then o (bytes_cmp (xs ++ replicate k 0) (xs ++ replicate k 255))) ≡ false
    go o is more = rw is more

by_bytes : (a b : FullHash) → cmp-value.it a b ≡ hash_cmp a b
by_bytes a b = search rules

pub hash_order : cmp-value.it ≡ hash_cmp
hash_order = λ i a b. by_bytes a b i

pub within : (prefix : List ℕ) (low high : FullHash) → length prefix ≤ 32
    → low.bytes ≡ prefix ++ replicate (32 - length prefix) 0 → high.bytes ≡ prefix ++ replicate (32 - length prefix) 255
    → (es : Matches) → HasFullHashes es → entries_between hash_cmp (Included low) (Included high) es ≡ beginning_with prefix es
within prefix low high short l h [] full = refl
within prefix low high short l h (e ∷ es) full =
    let is : (length prefix + (32 - length prefix)) ≡ length e.0.bytes = (omega arith) ∙ sym full.0.size in
    let same : is_between low.bytes high.bytes e.0.bytes ≡ bytes_eq (take (length prefix) e.0.bytes) prefix
    = (λ i. is_between (l i) (h i) e.0.bytes) ∙ between prefix (32 - length prefix) e.0.bytes is (all_by_index e.0.bytes full.0.bytes) in
    let rest = within prefix low high short l h es full.1 in
    λ i. cond (same i) (e ∷ rest i) (rest i)

-- one match more keeps that each hash has 32 bytes
all_insert : (es : Matches) (hash : FullHash) (end : Moment) → HasFullHashes es → IsFullHash hash → HasFullHashes (insert_entry hash_cmp es hash end)
all_insert [] hash end all is = (is, tt)
all_insert (e ∷ es) hash end all is = go (hash_cmp hash e.0) (all_insert es hash end all.1 is)
  where
    go : (o : Ordering) → HasFullHashes (insert_entry hash_cmp es hash end)
        → HasFullHashes (match_ordering o ((hash, end) ∷ e ∷ es) ((e.0, end) ∷ es) (e ∷ insert_entry hash_cmp es hash end))
    go Less more = (is, all)
    go Equal more = (all.0, all.1)
    go Greater more = (all.0, more)

pub full_with : (es : Matches) (found : FullHash × Moment) → HasFullHashes es → IsFullHash found.0 → HasFullHashes (with_match es found)
full_with es found all is = all_insert es found.0 _ all is
