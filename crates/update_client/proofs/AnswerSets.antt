-- What the sets of an update say: their members are those that the server put in.
use Rattle.std.proofs.Common.{◌≡◌, ℕ, zero, suc, ◌+◌, ◌*◌, ◌/◌, ◌^◌, ◌<◌, ◌≤◌, inl, inr, Bool, true, false, cond, List, [], ◌∷◌, ◌++◌, length, drop, map, get_or, refl, sym, ap, subst, ◌∙◌, arith, append-nil, length-append, Ok}
use Rattle.std.specs.Prelude.{◌==◌, ◌&&◌, ◌||◌, filter, Contains, Result}
use Rattle.std.specs.Int.{w32, to_le_bytes, from_le_bytes}
use Rattle.std.specs.List.{AllByRecursion, flat_map, list_any, range_with_len}
use Rattle.std.specs.List.Sorted.{IsStrictlyIncreasing}
use Rattle.std.proofs.lemmas.Bool.{eqb-true, eq-eqb}
use Rattle.std.proofs.lemmas.List.{take_at, drop_at}
use Rattle.std.proofs.lemmas.List.Folds.{list_any-from_Any}
use Rattle.std.proofs.lemmas.Nat.{le_bytes_4}
use Rattle.std.proofs.Math.Nat.{mul-div_cancel}
use Rattle.sb_model.specs.Prefixes.{concatenation}
use Rattle.rice_coding.specs.declared.fault.RiceFault.{RiceFault}
use Rattle.rice_coding.specs.Decoding.{decoding_of}
use Rattle.rice_coding.specs.Encoding.{encoding_of}
use Rattle.rice_coding.specs.Rice.{AreInRange}
use Rattle.prefix_set.specs.Pieces.{pieces, pieces_of}
use Rattle.update_messages.specs.declared.sets.Additions.TheVariants as added
use Rattle.update_messages.specs.declared.sets.Removals.TheVariants as removed
use Rattle.update_messages.specs.Answer.{numbers_of, has_size, sizes_of, addition_set, addition_sets, removal_sets}
use Rattle.update_messages.specs.Rising.{SentNumbersRise}
use Rattle.update_client.specs.Step.{◌>>=◌, most_rice_values, prefixes_of, places_of, joined}
use Rattle.update_client.proofs.Membership.{In, contains_in, in_contained, in_map, from_map, in_left, in_right, in_either, in_filter, from_filter, in_flat_map, from_flat_map, of_each, each_in, in_range, from_range}
use Rattle.update_client.proofs.HistoryPrefixes.{IsPrefix}

-- the record of rising numbers is decoded to them
abbrev pub DecodesEncoded : Type 0
DecodesEncoded = (values : List ℕ) (limit : ℕ) → IsStrictlyIncreasing values → AreInRange values → 0 < length values → length values ≤ limit
    → decoding_of (encoding_of values) limit ≡ Ok values

-- a set is read without a fault, and has the members of a list
pub record ReadsAs (read : Result (List (List ℕ)) RiceFault) (members : List (List ℕ)) : Type 0 where
  pub found : List (List ℕ)
  pub is : read ≡ Ok found
  pub has : (x : List ℕ) → In x members → In x found
  pub only : (x : List ℕ) → In x found → In x members

-- ---- pieces

pieces_back : (size : ℕ) (members : List (List ℕ)) → AllByRecursion (λ member. length member ≡ size) members → pieces (length members) size (concatenation members) ≡ members
pieces_back size [] all = refl
pieces_back size (m ∷ ms) all =
    ap (λ (piece : List ℕ). piece ∷ pieces (length ms) size (drop size (m ++ concatenation ms))) (take_at m (concatenation ms) size all.0)
    ∙ ap (λ (rest : List ℕ). m ∷ pieces (length ms) size rest) (drop_at m (concatenation ms) size all.0)
    ∙ ap (λ (rest : List (List ℕ)). m ∷ rest) (pieces_back size ms all.1)

length_of_same : (size : ℕ) (members : List (List ℕ)) → AllByRecursion (λ member. length member ≡ size) members → length (concatenation members) ≡ length members * size
length_of_same size [] all = omega arith
length_of_same size (m ∷ ms) all = omega (arith, length-append m (concatenation ms), all.0, length_of_same size ms all.1)

quotient : (a b n : ℕ) → 0 < b → n ≡ a * b → n / b ≡ a
quotient a b n some e = ap (λ k. k / b) e ∙ mul-div_cancel a some

pieces_of_back : (size : ℕ) (members : List (List ℕ)) → 0 < size → AllByRecursion (λ member. length member ≡ size) members → pieces_of size (concatenation members) ≡ members
pieces_of_back size members some all =
    ap (λ n. pieces n size (concatenation members)) (quotient (length members) size (length (concatenation members)) some (length_of_same size members all))
    ∙ pieces_back size members all

-- ---- numbers of four bytes

bytes_at : (bytes : List ℕ) → AllByRecursion (λ byte. byte < 256) bytes → (i : ℕ) → get_or bytes i 0 < 256
bytes_at [] all i = omega arith
bytes_at (b ∷ bs) all zero = all.0
bytes_at (b ∷ bs) all (suc i) = bytes_at bs all.1 i

four_back : (m : List ℕ) → IsPrefix m → length m ≡ 4 → to_le_bytes w32 (from_le_bytes w32 m) ≡ m
four_back m prefix four = le_bytes_4 m (from_le_bytes w32 m) four (bytes_at m prefix.bytes) refl

four_below : (m : List ℕ) → IsPrefix m → from_le_bytes w32 m < 2 ^ 32
four_below m prefix =
    let a = bytes_at m prefix.bytes 0 in
    let b = bytes_at m prefix.bytes 1 in
    let c = bytes_at m prefix.bytes 2 in
    let d = bytes_at m prefix.bytes 3 in
    omega (arith, a, b, c, d)

-- the numbers of these members, and no others
in_numbers : SentNumbersRise → (m : List ℕ) (ms : List (List ℕ)) → In m ms → In (from_le_bytes w32 m) (numbers_of ms)
in_numbers rise m ms h =
    let n : ℕ = from_le_bytes w32 m in
    in_contained n (numbers_of ms) (((rise.numbers ms).same n).1 (contains_in n (map (from_le_bytes w32) ms) (in_map (from_le_bytes w32) m ms h)))

from_numbers : SentNumbersRise → (n : ℕ) (ms : List (List ℕ)) → In n (numbers_of ms) → (m : List ℕ) × In m ms × (from_le_bytes w32 m ≡ n)
from_numbers rise n ms h =
    from_map (from_le_bytes w32) n ms (in_contained n (map (from_le_bytes w32) ms) (((rise.numbers ms).same n).0 (contains_in n (numbers_of ms) h)))

-- ---- one set

-- where the first of two tests that both have to pass is of a size, a set of it is Rice coded
module _ (decodes : DecodesEncoded) (rise : SentNumbersRise) (ms : List (List ℕ)) (some : 0 < length ms) (few : length ms ≤ most_rice_values)
    (prefixes : AllByRecursion IsPrefix ms) (four : AllByRecursion (λ m. length m ≡ 4) ms) where
  some_numbers : 0 < length (numbers_of ms)
  some_numbers = go ms some refl
    where
      longer : (n : ℕ) (ns : List ℕ) → In n ns → 0 < length ns
      longer n [] h = absurd h
      longer n (m ∷ ns) h = omega arith

      go : (xs : List (List ℕ)) → 0 < length xs → ms ≡ xs → 0 < length (numbers_of ms)
      go [] none e = absurd (omega arith)
      go (x ∷ xs) one e = longer (from_le_bytes w32 x) (numbers_of ms) (in_numbers rise x ms (subst (In x) (sym e) (inl refl)))

  numbers_decoded : decoding_of (encoding_of (numbers_of ms)) most_rice_values ≡ Ok (numbers_of ms)
  numbers_decoded =
      decodes (numbers_of ms) most_rice_values (rise.numbers ms).rising
      (each_in (λ n. n < 2 ^ 32) (numbers_of ms) (λ n h.
      let from = from_numbers rise n ms h in
      subst (λ k. k < 2 ^ 32) from.2 (four_below from.0 (of_each IsPrefix from.0 ms prefixes from.1))))
      some_numbers (omega (arith, (rise.numbers ms).few, few))

  rice_reads : ReadsAs (prefixes_of (added.Rice (encoding_of (numbers_of ms)))) ms
  rice_reads = record {
    found = map (to_le_bytes w32) (numbers_of ms);
    is = ap (λ (r : Result (List ℕ) RiceFault). r >>= λ numbers. Ok (map (to_le_bytes w32) numbers)) numbers_decoded;
    has = λ x h. subst (λ (y : List ℕ). In y (map (to_le_bytes w32) (numbers_of ms)))
        (four_back x (of_each IsPrefix x ms prefixes h) (of_each (λ (m : List ℕ). length m ≡ 4) x ms four h))
        (in_map (to_le_bytes w32) (from_le_bytes w32 x) (numbers_of ms) (in_numbers rise x ms h));
    only = λ x h.
        let n = from_map (to_le_bytes w32) x (numbers_of ms) h in
        let m = from_numbers rise n.0 ms n.1 in
        subst (λ (y : List ℕ). In y ms)
        (sym (four_back m.0 (of_each IsPrefix m.0 ms prefixes m.1) (of_each (λ (k : List ℕ). length k ≡ 4) m.0 ms four m.1)) ∙ ap (to_le_bytes w32) m.2 ∙ n.2) m.1;
  }

raw_reads : (size : ℕ) (ms : List (List ℕ)) → 0 < size → AllByRecursion (λ m. length m ≡ size) ms → ReadsAs (prefixes_of (added.Raw size (concatenation ms))) ms
raw_reads size ms some all = record {
  found = ms;
  is = ap Ok (pieces_of_back size ms some all);
  has = λ x h. h;
  only = λ x h. h;
}

both : (first more : Result (List (List ℕ)) RiceFault) (a b : List (List ℕ)) → ReadsAs first a → ReadsAs more b
    → ReadsAs (first >>= λ members. more >>= λ rest. Ok (members ++ rest)) (a ++ b)
both first more a b f m = record {
  found = f.found ++ m.found;
  is = ap (λ (r : Result (List (List ℕ)) RiceFault). r >>= λ members. more >>= λ rest. Ok (members ++ rest)) f.is
      ∙ ap (λ (r : Result (List (List ℕ)) RiceFault). r >>= λ rest. Ok (f.found ++ rest)) m.is;
  has = λ x h. elim (in_either x a b h) [ inl k ↦ in_left x f.found m.found (f.has x k) | inr k ↦ in_right x f.found m.found (m.has x k) ];
  only = λ x h. elim (in_either x f.found m.found h) [ inl k ↦ in_left x a b (f.only x k) | inr k ↦ in_right x a b (m.only x k) ];
}

-- ---- what a test keeps

pub few_kept : (p : List ℕ → Bool) (ms : List (List ℕ)) → length (filter p ms) ≤ length ms
few_kept p [] = omega arith
few_kept p (m ∷ ms) = go (p m) (few_kept p ms)
  where
    go : (b : Bool) → length (filter p ms) ≤ length ms → length (cond b (m ∷ filter p ms) (filter p ms)) ≤ suc (length ms)
    go true more = omega (arith, more)
    go false more = omega (arith, more)

some_kept : (p : List ℕ → Bool) (ms : List (List ℕ)) → list_any p ms ≡ true → 0 < length (filter p ms)
some_kept p [] h = absurd (cc)
some_kept p (m ∷ ms) h = go (p m) h (some_kept p ms)
  where
    go : (b : Bool) → (b || list_any p ms) ≡ true → (list_any p ms ≡ true → 0 < length (filter p ms)) → 0 < length (cond b (m ∷ filter p ms) (filter p ms))
    go true k more = omega arith
    go false k more = more k

-- ---- all sets

-- the set of one size that stands among the members
module _ (decodes : DecodesEncoded) (rise : SentNumbersRise) (rice : Bool) (members : List (List ℕ)) (few : length members ≤ most_rice_values) (prefixes : AllByRecursion IsPrefix members) where
  abbrev with_size : ℕ → List (List ℕ)
  with_size size = filter (has_size size) members

  size_reads : (size : ℕ) → 0 < size → list_any (has_size size) members ≡ true → ReadsAs (prefixes_of (addition_set rice members size)) (with_size size)
  size_reads size some there = go (size == 4) rice refl
    where
      own : AllByRecursion (λ m. length m ≡ size) (with_size size)
      own = each_in (λ m. length m ≡ size) (with_size size) (λ m h. eqb-true (length m) size (from_filter (has_size size) m members h).1)

      good : AllByRecursion IsPrefix (with_size size)
      good = each_in IsPrefix (with_size size) (λ m h. of_each IsPrefix m members prefixes (from_filter (has_size size) m members h).0)

      go : (four takes : Bool) → (size == 4) ≡ four
          → ReadsAs (prefixes_of (cond (four && takes) (added.Rice (encoding_of (numbers_of (with_size size)))) (added.Raw size (concatenation (with_size size))))) (with_size size)
      go true true e = rice_reads decodes rise (with_size size) (some_kept (has_size size) members there) (omega (arith, few_kept (has_size size) members, few)) good (subst (λ n. AllByRecursion (λ (m : List ℕ). length m ≡ n) (with_size size)) (eqb-true size 4 e) own)
      go true false e = raw_reads size (with_size size) some own
      go false takes e = raw_reads size (with_size size) some own

  sizes_read : (sizes : List ℕ) → AllByRecursion (λ size. (0 < size) × (list_any (has_size size) members ≡ true)) sizes
      → ReadsAs (joined prefixes_of (map (addition_set rice members) sizes)) (flat_map with_size sizes)
  sizes_read [] all = record { found = []; is = refl; has = λ x h. h; only = λ x h. h }
  sizes_read (size ∷ sizes) all =
      both (prefixes_of (addition_set rice members size)) (joined prefixes_of (map (addition_set rice members) sizes)) (with_size size) (flat_map with_size sizes)
      (size_reads size all.0.0 all.0.1) (sizes_read sizes all.1)

  every_size : AllByRecursion (λ size. (0 < size) × (list_any (has_size size) members ≡ true)) (sizes_of members)
  every_size = each_in (λ size. (0 < size) × (list_any (has_size size) members ≡ true)) (sizes_of members) (λ size h.
      let at : In size (range_with_len 4 29) × (list_any (has_size size) members ≡ true) = from_filter (λ s. list_any (has_size s) members) size (range_with_len 4 29) h in
      let in_bounds : (4 ≤ size) × (size < 4 + 29) = from_range size 4 29 at.0 in
      (omega (arith, in_bounds.0), at.1))

  size_stands : (x : List ℕ) → In x members → In (length x) (sizes_of members)
  size_stands x h =
      let prefix : IsPrefix x = of_each IsPrefix x members prefixes h in
      let c : Contains members x = contains_in x members h in
      in_filter (λ s. list_any (has_size s) members) (length x) (range_with_len 4 29)
      (in_range (length x) 4 29 prefix.low (omega (arith, prefix.high)))
      (list_any-from_Any (has_size (length x)) members (c.0, x, c.1, c.2, eq-eqb (length x) (length x) refl))

  pub additions_read : ReadsAs (joined prefixes_of (addition_sets rice members)) members
  additions_read =
      let read : ReadsAs (joined prefixes_of (addition_sets rice members)) (flat_map with_size (sizes_of members)) = sizes_read (sizes_of members) every_size in
      record {
        found = read.found;
        is = read.is;
        has = λ x h. read.has x (in_flat_map with_size x (length x) (sizes_of members) (size_stands x h) (in_filter (has_size (length x)) x members h (eq-eqb (length x) (length x) refl)));
        only = λ x h.
            let at : (size : ℕ) × In size (sizes_of members) × In x (with_size size) = from_flat_map with_size x (sizes_of members) (read.only x h) in
            (from_filter (has_size at.0) x members at.2).0;
      }

-- the places of the one set of removals
pub removals_read : DecodesEncoded → (rice : Bool) (size : ℕ) (places : List ℕ) → IsStrictlyIncreasing places → AllByRecursion (λ place. place < 2 ^ 32) places
    → length places ≤ most_rice_values → joined places_of (removal_sets rice size places) ≡ Ok places
removals_read decodes rice size [] up below few = refl
removals_read decodes rice size (p ∷ ps) up below few = go (size == 4 && rice)
  where
    go : (b : Bool) → joined places_of (cond b (removed.Rice (encoding_of (p ∷ ps))) (removed.Raw (p ∷ ps)) ∷ []) ≡ Ok (p ∷ ps)
    go true =
        ap (λ (r : Result (List ℕ) RiceFault). r >>= λ places. Ok (places ++ [])) (decodes (p ∷ ps) most_rice_values up below (omega arith) few)
        ∙ ap Ok (append-nil (p ∷ ps))
    go false = ap Ok (append-nil (p ∷ ps))
