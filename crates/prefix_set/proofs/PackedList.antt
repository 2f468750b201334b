-- Members, the string that they make and its layout, and what becomes of them.
use Rattle.std.proofs.Common.{◌≡◌, ℕ, zero, suc, ◌+◌, ◌-◌, ◌*◌, ◌/◌, ◌%◌, ◌<◌, ◌≤◌, ◌^◌, List, [], ◌∷◌, ◌++◌, length, take, drop, get_or, refl, sym, ap, subst, ◌∙◌, arith, append-nil, length-append, Some, Vec, Global, Result, Ok, Err}
use Rattle.std.specs.List.{All, slice_get}
use Rattle.std.specs.Result.{OnErr}
use Rattle.std.proofs.lemmas.List.{take_more, drop_more, take-take}
use Rattle.std.proofs.lemmas.List.Concat.{flat_map-append}
use Rattle.std.proofs.lemmas.List.Elements.{All-head, All-tail, All-append, All-take, All-drop, All-nil, All-cons, All-weaker}
use Rattle.std.proofs.lemmas.Nat.{mod-mul-add}
use Rattle.std.proofs.lemmas.Option.{slice_get-get_or, slice_get_within, get_or_from_slice_get}
use Rattle.sb_model.specs.Prefixes.{concatenation}
use Rattle.sb_model.specs.History.{IsPrefixSize}
use Rattle.prefix_set.specs.declared.layout.Layout.{Layout}
use Rattle.prefix_set.specs.declared.layout.Layout.TheVariants.{Even, Mixed}
use Rattle.prefix_set.specs.Packing.{ends_from, cut_from, members_of, HaveSize, LaysOut, IsPacked}
use Rattle.prefix_set.specs.Pieces.{pieces_of}
use Rattle.prefix_set.proofs.PackedFacts.{members_unique, packed_by, count_even, length-ends_from, start_within, start_even, start_mixed, range_is, joined_pieces_of, sizes_even, HaveSize-pieces_of, cut_unique, pieces_of_even, length_even}

-- these members make this string, and the layout tells them apart
pub record Packs (ms : List (List ℕ)) (bytes : List ℕ) (layout : Layout) : Type 0 where
  pub joined : concatenation ms ≡ bytes
  pub sizes : All (λ member. IsPrefixSize (length member)) ms
  pub laid_out : LaysOut layout ms
  pub limit : length bytes < 2 ^ 32

pub packs : (ms : List (List ℕ)) (bytes : List ℕ) (layout : Layout) → IsPacked bytes layout → members_of bytes layout ≡ ms → Packs ms bytes layout
packs ms bytes layout packed is = record {
  joined = ap concatenation (sym is) ∙ packed.joined;
  sizes = subst (All (λ member. IsPrefixSize (length member))) is packed.sizes;
  laid_out = subst (LaysOut layout) is packed.laid_out;
  limit = packed.limit;
}

pub packed_from : (ms : List (List ℕ)) (bytes : List ℕ) (layout : Layout) → Packs ms bytes layout → IsPacked bytes layout
packed_from ms bytes layout p = packed_by ms bytes layout p.joined p.sizes p.laid_out p.limit

pub members_from : (ms : List (List ℕ)) (bytes : List ℕ) (layout : Layout) → Packs ms bytes layout → members_of bytes layout ≡ ms
members_from ms bytes layout p = members_unique ms bytes layout p.joined p.laid_out

-- the same members under another layout
pub relaid : (ms : List (List ℕ)) (bytes after : List ℕ) (layout next : Layout) → Packs ms bytes layout → after ≡ bytes → (LaysOut layout ms → LaysOut next ms) → Packs ms after next
relaid ms bytes after layout next p same lays = record {
  joined = p.joined ∙ sym same;
  sizes = p.sizes;
  laid_out = lays p.laid_out;
  limit = omega (arith, p.limit, ap length same);
}

-- more members behind them
pub extended : (ms more : List (List ℕ)) (bytes added after : List ℕ) (layout next : Layout) → Packs ms bytes layout → concatenation more ≡ added
    → All (λ member. IsPrefixSize (length member)) more → LaysOut next (ms ++ more) → after ≡ bytes ++ added → length bytes + length added < 2 ^ 32 → Packs (ms ++ more) after next
extended ms more bytes added after layout next p joined sizes lays is limit = record {
  joined = flat_map-append (λ m. m) ms more ∙ (λ i. p.joined i ++ joined i) ∙ sym is;
  sizes = All-append (λ member. IsPrefixSize (length member)) ms more p.sizes sizes;
  laid_out = lays;
  limit = omega (arith, limit, ap length is, length-append bytes added);
}

-- each member has four bytes at least
pub four_each : (ms : List (List ℕ)) → All (λ member. IsPrefixSize (length member)) ms → 4 * length ms ≤ length (concatenation ms)
four_each [] sizes = omega arith
four_each (m ∷ ms) sizes =
    let first : 4 ≤ length m = (All-head (λ (member : List ℕ). IsPrefixSize (length member)) m ms sizes).low in
    omega (arith, first, length-append m (concatenation ms), four_each ms (All-tail (λ (member : List ℕ). IsPrefixSize (length member)) m ms sizes))

pub count_below : (ms : List (List ℕ)) (bytes : List ℕ) (layout : Layout) → Packs ms bytes layout → 4 * length ms < 2 ^ 32
count_below ms bytes layout p = omega (arith, four_each ms p.sizes, ap length p.joined, p.limit)

-- no bytes, no members
pub none_from_bytes : (ms : List (List ℕ)) (bytes : List ℕ) (layout : Layout) → Packs ms bytes layout → length bytes ≡ 0 → ms ≡ []
none_from_bytes [] bytes layout p none = refl
none_from_bytes (m ∷ ms) bytes layout p none = absurd (omega (arith, four_each (m ∷ ms) p.sizes, ap length p.joined))

pub even_of : (ms : List (List ℕ)) (size : ℕ) (bytes : List ℕ) (layout : Layout) → Packs ms bytes layout → layout ≡ Even size → IsPrefixSize size × HaveSize size ms
even_of ms size bytes layout p is = subst (λ (l : Layout). LaysOut l ms) is p.laid_out

-- ---- how many there are, and where they stand

pub len_even : (ms : List (List ℕ)) (size n : ℕ) (bytes : List ℕ) (layout : Layout) → Packs ms bytes layout → layout ≡ Even size → n ≡ length bytes → n / size ≡ length ms
len_even ms size n bytes layout p is long =
    let laid : IsPrefixSize size × HaveSize size ms = even_of ms size bytes layout p is in
    count_even size n ms (omega (arith, laid.0.low)) laid.1 (ap length p.joined ∙ sym long)

pub len_mixed : (ms : List (List ℕ)) (ends : Vec ℕ Global) (bytes : List ℕ) (layout : Layout) → Packs ms bytes layout → layout ≡ Mixed ends → length ends.items ≡ length ms
len_mixed ms ends bytes layout p is =
    ap length (subst (λ (l : Layout). LaysOut l ms) is p.laid_out) ∙ length-ends_from 0 ms

-- the bytes in front of a place
pub start_fits : (ms : List (List ℕ)) (i : ℕ) (bytes : List ℕ) (layout : Layout) → Packs ms bytes layout → length (concatenation (take i ms)) < 2 ^ 32
start_fits ms i bytes layout p = omega (arith, start_within i ms, ap length p.joined, p.limit)

pub start_by_size : (ms : List (List ℕ)) (i size : ℕ) (bytes : List ℕ) (layout : Layout) → Packs ms bytes layout → layout ≡ Even size → i ≤ length ms
    → i * size ≡ length (concatenation (take i ms))
start_by_size ms i size bytes layout p is within = start_even size i ms (even_of ms size bytes layout p is).1 within

pub start_by_ends : (ms : List (List ℕ)) (i d : ℕ) (ends : Vec ℕ Global) (bytes : List ℕ) (layout : Layout) → Packs ms bytes layout → layout ≡ Mixed ends
    → (i ≡ 0 → ⊥) → i ≤ length ms → get_or ends.items (i - 1) d ≡ length (concatenation (take i ms))
start_by_ends ms i d ends bytes layout p is some within =
    start_mixed ends.items i d ms (subst (λ (l : Layout). LaysOut l ms) is p.laid_out) (omega arith) within

pub start_order : (from count : ℕ) (ms : List (List ℕ)) → length (concatenation (take from ms)) ≤ length (concatenation (take (from + count) ms))
start_order from count ms =
    omega (arith, start_within from (take (from + count) ms), ap (λ (xs : List (List ℕ)). length (concatenation xs)) (take-take from (from + count) ms (omega arith)))

-- a run of the string
pub part_is : (ms : List (List ℕ)) (from count start end : ℕ) (bytes all : List ℕ) (layout : Layout) → Packs ms bytes layout → all ≡ bytes → start ≡ length (concatenation (take from ms))
    → end ≡ length (concatenation (take (from + count) ms)) → take (end - start) (drop start all) ≡ concatenation (take count (drop from ms))
part_is ms from count start end bytes all layout p same start_is end_is =
    (λ i. take (end_is i - start_is i) (drop (start_is i) ((same ∙ sym p.joined) i))) ∙ range_is from count ms

-- one member
pub member_is : (i : ℕ) (ms : List (List ℕ)) (bytes : List ℕ) → i < length ms → bytes ≡ concatenation (take 1 (drop i ms)) → slice_get ms i ≡ Some bytes
member_is i ms bytes below is =
    slice_get-get_or ms i [] below ∙ ap Some (sym (is ∙ ap (λ (xs : List (List ℕ)). concatenation (take 1 xs)) (drop_more ms i [] below) ∙ append-nil (get_or ms i [])))

pub member_size : (i : ℕ) (ms : List (List ℕ)) (bytes : List ℕ) → All (λ member. IsPrefixSize (length member)) ms → i < length ms → bytes ≡ concatenation (take 1 (drop i ms)) → IsPrefixSize (length bytes)
member_size i ms bytes sizes below is =
    subst (λ (x : List ℕ). IsPrefixSize (length x)) (sym (is ∙ ap (λ (xs : List (List ℕ)). concatenation (take 1 xs)) (drop_more ms i [] below) ∙ append-nil (get_or ms i []))) (sizes i [] below)

-- ---- more members of one size

pub extended_even : (ms : List (List ℕ)) (size : ℕ) (bytes added after : List ℕ) (layout next : Layout) → Packs ms bytes layout → IsPrefixSize size → length added % size ≡ 0
    → LaysOut next (ms ++ pieces_of size added) → after ≡ bytes ++ added → length bytes + length added < 2 ^ 32 → Packs (ms ++ pieces_of size added) after next
extended_even ms size bytes added after layout next p four whole lays is limit =
    extended ms (pieces_of size added) bytes added after layout next p (joined_pieces_of size added whole)
    (sizes_even size (pieces_of size added) four (HaveSize-pieces_of size added whole)) lays is limit

pub OnErr-always : {T E P : Type 0} (r : Result T E) → P → OnErr r P
OnErr-always (Ok x) p = tt
OnErr-always (Err e) p = p

pub start_reaches : (ms : List (List ℕ)) (i : ℕ) (bytes : List ℕ) (layout : Layout) → Packs ms bytes layout → length (concatenation (take i ms)) ≤ length bytes
start_reaches ms i bytes layout p = omega (arith, start_within i ms, ap length p.joined)

-- ---- members that were cut out of another string

ends_after : (low start : ℕ) (ms : List (List ℕ)) → low ≤ start → All (λ end. low ≤ end) (ends_from start ms)
ends_after low start [] above = All-nil (λ end. low ≤ end)
ends_after low start (m ∷ ms) above =
    All-cons (λ end. low ≤ end) (start + length m) (ends_from (start + length m) ms) (omega arith) (ends_after low (start + length m) ms (omega arith))

ends_upto : (high start : ℕ) (ms : List (List ℕ)) → start + length (concatenation ms) ≤ high → All (λ end. end ≤ high) (ends_from start ms)
ends_upto high start [] below = All-nil (λ end. end ≤ high)
ends_upto high start (m ∷ ms) below =
    let behind : start + length m + length (concatenation ms) ≤ high = omega (arith, length-append m (concatenation ms)) in
    All-cons (λ end. end ≤ high) (start + length m) (ends_from (start + length m) ms) (omega arith) (ends_upto high (start + length m) ms behind)

pub cuts_after : (from : ℕ) (cuts : List ℕ) (more : List (List ℕ)) → cuts ≡ ends_from from more → All (λ cut. from ≤ cut) cuts
cuts_after from cuts more is = subst (All (λ cut. from ≤ cut)) (sym is) (ends_after from from more (omega arith))

pub cuts_fit : (from held : ℕ) (cuts bytes : List ℕ) (more : List (List ℕ)) → cuts ≡ ends_from from more → concatenation more ≡ bytes → held + length bytes < 2 ^ 32
    → All (λ cut. cut - from + held < 2 ^ 32) cuts
cuts_fit from held cuts bytes more is joined limit =
    All-weaker (λ cut. cut ≤ from + length (concatenation more)) (λ cut. cut - from + held < 2 ^ 32) (λ cut below. omega (arith, ap length joined)) cuts
    (subst (All (λ cut. cut ≤ from + length (concatenation more))) (sym is) (ends_upto (from + length (concatenation more)) from more (omega arith)))

ends_from-take : (k start : ℕ) (ms : List (List ℕ)) → take k (ends_from start ms) ≡ ends_from start (take k ms)
ends_from-take zero start ms = refl
ends_from-take (suc k) start [] = refl
ends_from-take (suc k) start (m ∷ ms) = ap (λ (es : List ℕ). (start + length m) ∷ es) (ends_from-take k (start + length m) ms)

ends_from-drop : (k start : ℕ) (ms : List (List ℕ)) → drop k (ends_from start ms) ≡ ends_from (start + length (concatenation (take k ms))) (drop k ms)
ends_from-drop zero start ms = ap (λ (n : ℕ). ends_from n ms) (omega arith)
ends_from-drop (suc k) start [] = refl
ends_from-drop (suc k) start (m ∷ ms) =
    ends_from-drop k (start + length m) ms ∙ ap (λ (n : ℕ). ends_from n (drop k ms)) (omega (arith, length-append m (concatenation (take k ms))))

-- the ends of a run of members
pub cuts_are : (ms : List (List ℕ)) (from count start : ℕ) (all : List ℕ) (ends : Vec ℕ Global) (bytes : List ℕ) (layout : Layout) → Packs ms bytes layout → layout ≡ Mixed ends
    → all ≡ ends.items → start ≡ length (concatenation (take from ms)) → take count (drop from all) ≡ ends_from start (take count (drop from ms))
cuts_are ms from count start all ends bytes layout p is same start_is =
    ap (λ (es : List ℕ). take count (drop from es)) (same ∙ subst (λ (l : Layout). LaysOut l ms) is p.laid_out)
    ∙ ap (take count) (ends_from-drop from 0 ms ∙ ap (λ (n : ℕ). ends_from n (drop from ms)) (omega arith)) ∙ ends_from-take count start (drop from ms)

-- where a string is cut at the ends of its members, these come out
pub cut_is : (start : ℕ) (cuts bytes : List ℕ) (more : List (List ℕ)) → cuts ≡ ends_from start more → bytes ≡ concatenation more → cut_from start cuts bytes ≡ more
cut_is start cuts bytes more is joined = (λ i. cut_from start (is i) (joined i)) ∙ cut_unique start more

-- a run of members of one size
pub run_even : (ms : List (List ℕ)) (from count size : ℕ) (run bytes : List ℕ) (layout : Layout) → Packs ms bytes layout → layout ≡ Even size → run ≡ concatenation (take count (drop from ms))
    → pieces_of size run ≡ take count (drop from ms)
run_even ms from count size run bytes layout p is joined =
    let laid : IsPrefixSize size × HaveSize size ms = even_of ms size bytes layout p is in
    pieces_of_even size run (take count (drop from ms)) (omega (arith, laid.0.low)) (All-take (λ (x : List ℕ). length x ≡ size) count (drop from ms) (All-drop (λ (x : List ℕ). length x ≡ size) from ms laid.1)) (sym joined)

pub run_whole : (ms : List (List ℕ)) (from count size : ℕ) (run bytes : List ℕ) (layout : Layout) → Packs ms bytes layout → layout ≡ Even size → run ≡ concatenation (take count (drop from ms))
    → length run % size ≡ 0
run_whole ms from count size run bytes layout p is joined =
    let laid : IsPrefixSize size × HaveSize size ms = even_of ms size bytes layout p is in
    let long : length run ≡ length (take count (drop from ms)) * size + 0
    = omega (arith, ap length joined, length_even size (take count (drop from ms)) (All-take (λ (x : List ℕ). length x ≡ size) count (drop from ms) (All-drop (λ (x : List ℕ). length x ≡ size) from ms laid.1))) in
    ap (λ (n : ℕ). n % size) long ∙ mod-mul-add (length (take count (drop from ms))) size 0 (omega (arith, laid.0.low))

-- a run of members, cut out of the string
pub run_cut : (ms : List (List ℕ)) (from count start : ℕ) (all run : List ℕ) (ends : Vec ℕ Global) (bytes : List ℕ) (layout : Layout) → Packs ms bytes layout → layout ≡ Mixed ends
    → all ≡ ends.items → start ≡ length (concatenation (take from ms)) → run ≡ concatenation (take count (drop from ms))
    → cut_from start (take count (drop from all)) run ≡ take count (drop from ms)
run_cut ms from count start all run ends bytes layout p is same start_is joined =
    cut_is start (take count (drop from all)) run (take count (drop from ms)) (cuts_are ms from count start all ends bytes layout p is same start_is) joined

-- one member more of a list
pub take_member : (i : ℕ) (ms : List (List ℕ)) (x : List ℕ) → slice_get ms i ≡ Some x → take (i + 1) ms ≡ take i ms ++ x ∷ []
take_member i ms x is =
    take_more ms i x (slice_get_within ms i x is) ∙ ap (λ (m : List ℕ). take i ms ++ m ∷ []) (get_or_from_slice_get ms i x x is)
