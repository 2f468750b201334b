-- Strings of four bytes are sorted by their numbers.
use Rattle.std.proofs.Common.{◌≡◌, ℕ, ◌+◌, ◌*◌, ◌<◌, ◌≤◌, ◌^◌, List, [], ◌∷◌, length, map, get_or, nat_eq, inl, inr, refl, sym, ap, subst, ◌∙◌, arith, take, drop, zero, suc, ◌/◌, ◌%◌, length-drop}
use Rattle.std.specs.declared.cmp.Ordering.TheVariants.{Less}
use Rattle.std.specs.Int.{w32, from_be_bytes, to_be_bytes}
use Rattle.std.specs.List.{All, Contains, dedup}
use Rattle.std.specs.List.Retain.{IsFiltered, DiffersFromLast}
use Rattle.std.specs.List.Sorted.{IsPermutation, IsSorted, IsStrictlyIncreasing}
use Rattle.std.specs.Ordering.{nat_cmp}
use Rattle.std.proofs.lemmas.Bool.{cases_lt}
use Rattle.std.proofs.lemmas.Bool.Decides.{nat_tests}
use Rattle.std.proofs.lemmas.Cmp.{nat_list_cmp_total}
use Rattle.std.proofs.lemmas.List.{get_or-map, get_or_past, length-map, length-take-le}
use Rattle.std.proofs.lemmas.List.Elements.{All-nil, All-cons, All-map, All-take, All-drop, All-contains, Contains-get_or}
use Rattle.std.proofs.lemmas.List.Filters.{dedup_is}
use Rattle.std.proofs.lemmas.List.Kept.{Contains-dedup_nat, Contains-from_dedup}
use Rattle.std.proofs.lemmas.List.Sorted.{All-permutation, Contains-permutation, IsPermutation-sym}
use Rattle.std.proofs.lemmas.Map.Keys.{sorted_from_all_adjacent, IsStrictlyIncreasing-dedup}
use Rattle.std.proofs.lemmas.Nat.{be_bytes_4, from_be_bytes-to_be_bytes_4}
use Rattle.std.specs.Simd.{first_chunks}
use Rattle.prefix_set.specs.Pieces.{pieces, pieces_of}
use Rattle.sb_model.specs.Prefixes.{bytes_cmp, IsRising, set_of}
use Rattle.prefix_set.proofs.SetFacts.{rising_unique, rising-set_of, members-set_of}
use Rattle.prefix_set.proofs.SortFacts.{quads_compare}

-- four bytes
pub record IsQuad (xs : List ℕ) : Type 0 where
  pub long : length xs ≡ 4
  pub bytes : All (λ byte. byte < 256) xs

-- ---- members of a `map`

contains_map : {X Y : Type 0} (f : X → Y) (xs : List X) (x : X) → Contains xs x → Contains (map f xs) (f x)
contains_map f xs x h = (h.0, omega (arith, h.1, length-map xs f), get_or-map f xs h.0 x (f x) h.1 ∙ ap f h.2)

contains_from_map : {X Y : Type 0} (f : X → Y) (d : X) (xs : List X) (y : Y) → Contains (map f xs) y → (x : X) × Contains xs x × (f x ≡ y)
contains_from_map f d xs y h =
    let below : h.0 < length xs = omega (arith, h.1, length-map xs f) in
    (get_or xs h.0 d, Contains-get_or xs h.0 d below, sym (get_or-map f xs h.0 d y below) ∙ h.2)

-- ---- a number and its bytes

four_bytes : (a b c d : ℕ) → a < 256 → b < 256 → c < 256 → d < 256 → All (λ byte. byte < 256) (a ∷ b ∷ c ∷ d ∷ [])
four_bytes a b c d ha hb hc hd =
    All-cons (λ byte. byte < 256) a (b ∷ c ∷ d ∷ []) ha (All-cons (λ byte. byte < 256) b (c ∷ d ∷ []) hb
    (All-cons (λ byte. byte < 256) c (d ∷ []) hc (All-cons (λ byte. byte < 256) d [] hd (All-nil (λ byte. byte < 256)))))

quad_of : (n : ℕ) → n < 2 ^ 32 → IsQuad (to_be_bytes w32 n)
quad_of n below = record {
  long = refl;
  bytes = four_bytes (n / 16777216 % 256) (n / 65536 % 256) (n / 256 % 256) (n % 256) (omega arith) (omega arith) (omega arith) (omega arith);
}

everywhere : (xs : List ℕ) → All (λ byte. byte < 256) xs → (i : ℕ) → get_or xs i 0 < 256
everywhere xs bytes i = elim (cases_lt i (length xs)) [
  | inl below ↦ bytes i 0 below
  | inr past ↦ omega (arith, get_or_past xs i 0 past)
]

back : (xs : List ℕ) → IsQuad xs → to_be_bytes w32 (from_be_bytes w32 xs) ≡ xs
back xs quad = be_bytes_4 xs (from_be_bytes w32 xs) quad.long (everywhere xs quad.bytes) refl

small : (xs : List ℕ) → IsQuad xs → from_be_bytes w32 xs < 2 ^ 32
small xs quad =
    omega (arith, everywhere xs quad.bytes 0, everywhere xs quad.bytes 1, everywhere xs quad.bytes 2, everywhere xs quad.bytes 3)

less_from_lt : (m n : ℕ) → m < n → nat_cmp m n ≡ Less
less_from_lt m n h = grind (arith, nat_tests)

before : (m n : ℕ) → m < n → n < 2 ^ 32 → bytes_cmp (to_be_bytes w32 m) (to_be_bytes w32 n) ≡ Less
before m n lt below =
    let quad_m : IsQuad (to_be_bytes w32 m) = quad_of m (omega arith) in
    let quad_n : IsQuad (to_be_bytes w32 n) = quad_of n below in
    sym (quads_compare (to_be_bytes w32 m) (to_be_bytes w32 n) quad_m.long quad_n.long quad_m.bytes quad_n.bytes)
    ∙ (λ i. nat_cmp (from_be_bytes-to_be_bytes_4 m (omega arith) i) (from_be_bytes-to_be_bytes_4 n below i)) ∙ less_from_lt m n lt

-- ---- the numbers, sorted and without repeats

kept_small : (quads : List (List ℕ)) (sorted : List ℕ) → All IsQuad quads → IsPermutation (map (from_be_bytes w32) quads) sorted → All (λ n. n < 2 ^ 32) (dedup nat_eq sorted)
kept_small quads sorted each moved k d below =
    All-contains (λ n. n < 2 ^ 32) sorted (get_or (dedup nat_eq sorted) k d)
    (All-permutation (λ n. n < 2 ^ 32) (map (from_be_bytes w32) quads) sorted moved
    (All-map (λ n. n < 2 ^ 32) (from_be_bytes w32) quads (λ i e within. small (get_or quads i e) (each i e within))))
    (Contains-from_dedup nat_eq sorted (get_or (dedup nat_eq sorted) k d) (Contains-get_or (dedup nat_eq sorted) k d below))

rising_kept : (kept : List ℕ) → IsStrictlyIncreasing kept → All (λ n. n < 2 ^ 32) kept → IsRising (map (to_be_bytes w32) kept)
rising_kept kept up each =
    sorted_from_all_adjacent nat_list_cmp_total (map (to_be_bytes w32) kept) [] (λ k within.
    let here : k + 1 < length kept = omega (arith, within, length-map kept (to_be_bytes w32)) in
    rw (get_or-map (to_be_bytes w32) kept k 0 [] (omega arith), get_or-map (to_be_bytes w32) kept (k + 1) 0 [] here)
    (before (get_or kept k 0) (get_or kept (k + 1) 0) (up k here) (each (k + 1) 0 here)))

kept_from : (quads : List (List ℕ)) (sorted : List ℕ) → All IsQuad quads → IsPermutation (map (from_be_bytes w32) quads) sorted
    → (z : List ℕ) → Contains (map (to_be_bytes w32) (dedup nat_eq sorted)) z → Contains quads z
kept_from quads sorted each moved z h =
    let n : (n : ℕ) × Contains (dedup nat_eq sorted) n × (to_be_bytes w32 n ≡ z) = contains_from_map (to_be_bytes w32) 0 (dedup nat_eq sorted) z h in
    let q : (q : List ℕ) × Contains quads q × (from_be_bytes w32 q ≡ n.0)
    = contains_from_map (from_be_bytes w32) [] quads n.0
    (Contains-permutation sorted (map (from_be_bytes w32) quads) n.0 (IsPermutation-sym (map (from_be_bytes w32) quads) sorted moved) (Contains-from_dedup nat_eq sorted n.0 n.1)) in
    subst (Contains quads) (sym (back q.0 (All-contains IsQuad quads q.0 each q.1)) ∙ ap (to_be_bytes w32) q.2 ∙ n.2) q.1

kept_all : (quads : List (List ℕ)) (sorted : List ℕ) → All IsQuad quads → IsPermutation (map (from_be_bytes w32) quads) sorted
    → (z : List ℕ) → Contains quads z → Contains (map (to_be_bytes w32) (dedup nat_eq sorted)) z
kept_all quads sorted each moved z h =
    subst (Contains (map (to_be_bytes w32) (dedup nat_eq sorted))) (back z (All-contains IsQuad quads z each h))
    (contains_map (to_be_bytes w32) (dedup nat_eq sorted) (from_be_bytes w32 z)
    (Contains-dedup_nat sorted (from_be_bytes w32 z) (Contains-permutation (map (from_be_bytes w32) quads) sorted (from_be_bytes w32 z) moved (contains_map (from_be_bytes w32) quads z h))))

-- the numbers sorted and rid of repeats are those of the rising list of the strings
pub sorted_quads : (quads : List (List ℕ)) (sorted kept : List ℕ) → All IsQuad quads → IsPermutation (map (from_be_bytes w32) quads) sorted → IsSorted nat_cmp sorted
    → IsFiltered (DiffersFromLast nat_eq) [] sorted kept → map (to_be_bytes w32) kept ≡ set_of quads
sorted_quads quads sorted kept each moved up filtered =
    ap (map (to_be_bytes w32)) (dedup_is nat_eq sorted kept filtered)
    ∙ rising_unique (map (to_be_bytes w32) (dedup nat_eq sorted)) (set_of quads)
    (rising_kept (dedup nat_eq sorted) (IsStrictlyIncreasing-dedup sorted up) (kept_small quads sorted each moved)) (rising-set_of quads)
    (λ z h. (members-set_of quads z).1 (kept_from quads sorted each moved z h))
    (λ z h. kept_all quads sorted each moved z ((members-set_of quads z).0 h))

-- ---- strings of four bytes in one string

pub chunks_are : (size count : ℕ) (bytes : List ℕ) → first_chunks size count bytes ≡ pieces count size bytes
chunks_are size zero bytes = refl
chunks_are size (suc count) bytes = ap (λ (rest : List (List ℕ)). take size bytes ∷ rest) (chunks_are size count (drop size bytes))

length-pieces : (size count : ℕ) (bytes : List ℕ) → length (pieces count size bytes) ≡ count
length-pieces size zero bytes = refl
length-pieces size (suc count) bytes = ap suc (length-pieces size count (drop size bytes))

quad_pieces : (count : ℕ) (bytes : List ℕ) → count * 4 ≤ length bytes → All (λ byte. byte < 256) bytes → All IsQuad (pieces count 4 bytes)
quad_pieces zero bytes within each = All-nil IsQuad
quad_pieces (suc count) bytes within each =
    All-cons IsQuad (take 4 bytes) (pieces count 4 (drop 4 bytes)) (record { long = length-take-le 4 bytes (omega arith); bytes = All-take (λ byte. byte < 256) 4 bytes each })
    (quad_pieces count (drop 4 bytes) (omega (arith, length-drop 4 bytes)) (All-drop (λ byte. byte < 256) 4 bytes each))

pub quad_pieces_of : (bytes : List ℕ) → All (λ byte. byte < 256) bytes → All IsQuad (pieces_of 4 bytes)
quad_pieces_of bytes each = quad_pieces (length bytes / 4) bytes (omega arith) each

-- no more numbers come out than the string has places for
pub kept_fits : (bytes numbers : List ℕ) (quads : List (List ℕ)) (kept : ℕ) → quads ≡ pieces_of 4 bytes → numbers ≡ map (from_be_bytes w32) quads → kept ≤ length numbers
    → 4 * kept ≤ length bytes
kept_fits bytes numbers quads kept cut is fewer =
    omega (arith, ap length is, length-map quads (from_be_bytes w32), ap length cut, length-pieces 4 (length bytes / 4) bytes)
