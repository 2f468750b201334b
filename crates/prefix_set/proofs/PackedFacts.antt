-- Members that stand one after the other, and what a layout says of them.
use Rattle.std.proofs.Common.{◌≡◌, ℕ, zero, suc, ◌+◌, ◌-◌, ◌*◌, ◌/◌, ◌%◌, ◌<◌, ◌≤◌, ◌^◌, ◌⊎◌, inl, inr, List, [], ◌∷◌, ◌++◌, length, take, drop, map, get_or, refl, sym, ap, subst, ◌∙◌, arith, append-nil, length-append, length-drop, add-one}
use Rattle.std.specs.List.{All}
use Rattle.std.proofs.lemmas.List.{take_at, drop_at, take-append-drop, take-take, drop-take, length-take-le, nil_from_length}
use Rattle.std.proofs.lemmas.List.Concat.{flat_map-append}
use Rattle.std.proofs.lemmas.List.Elements.{All-head, All-tail, All-append, All-nil, All-cons, All-take}
use Rattle.std.proofs.lemmas.Nat.{div-mul-add, div-add-mod'}
use Rattle.sb_model.specs.Prefixes.{concatenation}
use Rattle.sb_model.specs.History.{IsPrefixSize}
use Rattle.prefix_set.specs.Pieces.{pieces, pieces_of}
use Rattle.prefix_set.specs.declared.layout.Layout.{Layout}
use Rattle.prefix_set.specs.declared.layout.Layout.TheVariants.{Even, Mixed}
use Rattle.prefix_set.specs.Packing.{ends_from, even_ends, cut_from, members_of, HaveSize, LaysOut, IsPacked}

-- ---- where members of one size end

pub even_ends_suc : (start size count : ℕ) → even_ends start size (suc count) ≡ even_ends start size count ++ (start + suc count * size) ∷ []
even_ends_suc start size zero = ap (λ (n : ℕ). n ∷ []) (omega arith)
even_ends_suc start size (suc count) =
    ap (λ (ns : List ℕ). (start + size) ∷ ns)
    (even_ends_suc (start + size) size count ∙ ap (λ (n : ℕ). even_ends (start + size) size count ++ n ∷ []) (omega arith))

pub even_ends_more : (start size count end : ℕ) → end ≡ start + count * size + size → even_ends start size (count + 1) ≡ even_ends start size count ++ end ∷ []
even_ends_more start size count end is =
    rw add-one (even_ends_suc start size count ∙ ap (λ (n : ℕ). even_ends start size count ++ n ∷ []) (omega arith))

pub ends_from_even : (start size : ℕ) (ms : List (List ℕ)) → HaveSize size ms → ends_from start ms ≡ even_ends start size (length ms)
ends_from_even start size [] even = refl
ends_from_even start size (m ∷ ms) even =
    let head : length m ≡ size = All-head (λ (x : List ℕ). length x ≡ size) m ms even in
    ap (λ (n : ℕ). (start + n) ∷ ends_from (start + n) ms) head
    ∙ ap (λ (ns : List ℕ). (start + size) ∷ ns) (ends_from_even (start + size) size ms (All-tail (λ (x : List ℕ). length x ≡ size) m ms even))

-- how many bytes members of one size have
pub length_even : (size : ℕ) (ms : List (List ℕ)) → HaveSize size ms → length (concatenation ms) ≡ length ms * size
length_even size [] even = omega arith
length_even size (m ∷ ms) even =
    omega (
      arith,
      length-append m (concatenation ms),
      All-head (λ (x : List ℕ). length x ≡ size) m ms even,
      length_even size ms (All-tail (λ (x : List ℕ). length x ≡ size) m ms even),
    )

no_members : (size : ℕ) (ms : List (List ℕ)) → IsPrefixSize size → HaveSize size ms → length (concatenation ms) ≡ 0 → ms ≡ []
no_members size [] four even none = refl
no_members size (m ∷ ms) four even none =
    absurd (omega (arith, four.low, length-append m (concatenation ms), All-head (λ (x : List ℕ). length x ≡ size) m ms even))

-- how many members of one size there are
pub count_even : (size added : ℕ) (ms : List (List ℕ)) → 0 < size → HaveSize size ms → length (concatenation ms) ≡ added → added / size ≡ length ms
count_even size added ms some even is =
    let sum : added ≡ length ms * size + 0 = omega (arith, length_even size ms even) in
    ap (λ (n : ℕ). n / size) sum ∙ div-mul-add (length ms) size 0 some

ends_from-append : (start : ℕ) (ms more : List (List ℕ)) → ends_from start (ms ++ more) ≡ ends_from start ms ++ ends_from (start + length (concatenation ms)) more
ends_from-append start [] more = ap (λ (n : ℕ). ends_from n more) (omega arith)
ends_from-append start (m ∷ ms) more =
    ap (λ (ns : List ℕ). (start + length m) ∷ ns)
    (ends_from-append (start + length m) ms more
    ∙ ap (λ (n : ℕ). ends_from (start + length m) ms ++ ends_from n more) (omega (arith, length-append m (concatenation ms))))

-- the ends of the members in front of others, moved
moved_ends : (from to ahead : ℕ) (ms : List (List ℕ)) → map (λ (cut : ℕ). cut - from + to) (ends_from (from + ahead) ms) ≡ ends_from (to + ahead) ms
moved_ends from to ahead [] = refl
moved_ends from to ahead (m ∷ ms) =
    let end : from + ahead + length m - from + to ≡ to + ahead + length m = omega arith in
    let rest : map (λ (cut : ℕ). cut - from + to) (ends_from (from + ahead + length m) ms) ≡ ends_from (to + ahead + length m) ms
    = ap (λ (n : ℕ). map (λ (cut : ℕ). cut - from + to) (ends_from n ms)) (omega arith) ∙ moved_ends from to (ahead + length m) ms ∙ ap (λ (n : ℕ). ends_from n ms) (omega arith) in
    λ i. end i ∷ rest i

-- ---- more members behind those of a layout

-- behind members of the same size, or where no more come
pub lay_even_more : (own size added : ℕ) (ms more : List (List ℕ)) → (own ≡ size) ⊎ (added ≡ 0) → IsPrefixSize size → IsPrefixSize own × HaveSize own ms
    → HaveSize size more → length (concatenation more) ≡ added → IsPrefixSize own × HaveSize own (ms ++ more)
lay_even_more own size added ms more (inl same) four laid even is =
    (laid.0, All-append (λ (x : List ℕ). length x ≡ own) ms more laid.1 (subst (λ (n : ℕ). HaveSize n more) (sym same) even))
lay_even_more own size added ms more (inr none) four laid even is =
    (laid.0, subst (HaveSize own) (sym (ap (λ (xs : List (List ℕ)). ms ++ xs) (no_members size more four even (is ∙ none)) ∙ append-nil ms)) laid.1)

-- where nothing stood before
pub lay_even_first : (own size held : ℕ) (ms more : List (List ℕ)) → held ≡ 0 → IsPrefixSize size → IsPrefixSize own × HaveSize own ms → length (concatenation ms) ≡ held
    → HaveSize size more → IsPrefixSize size × HaveSize size (ms ++ more)
lay_even_first own size held ms more none four laid holds even =
    (four, subst (λ (xs : List (List ℕ)). HaveSize size (xs ++ more)) (sym (no_members own ms laid.0 laid.1 (holds ∙ none))) even)

-- the ends of members of one size
pub lay_mixed : (own held : ℕ) (ends : List ℕ) (ms : List (List ℕ)) → ends ≡ even_ends 0 own (held / own) → IsPrefixSize own × HaveSize own ms
    → length (concatenation ms) ≡ held → ends ≡ ends_from 0 ms
lay_mixed own held ends ms is laid holds =
    is ∙ ap (even_ends 0 own) (count_even own held ms (omega (arith, laid.0.low)) laid.1 holds) ∙ sym (ends_from_even 0 own ms laid.1)

-- more members of one size
pub lay_mixed_even : (held size added : ℕ) (ends after : List ℕ) (ms more : List (List ℕ)) → after ≡ ends ++ even_ends held size (added / size) → IsPrefixSize size
    → ends ≡ ends_from 0 ms → length (concatenation ms) ≡ held → HaveSize size more → length (concatenation more) ≡ added → after ≡ ends_from 0 (ms ++ more)
lay_mixed_even held size added ends after ms more is four laid holds even adds =
    let next : even_ends held size (added / size) ≡ ends_from (0 + length (concatenation ms)) more
    = ap (even_ends held size) (count_even size added more (omega (arith, four.low)) even adds) ∙ sym (ends_from_even held size more even)
    ∙ ap (λ (n : ℕ). ends_from n more) (omega arith) in
    is ∙ (λ i. laid i ++ next i) ∙ sym (ends_from-append 0 ms more)

-- more members, cut out of another string
pub lay_mixed_cut : (held from : ℕ) (ends after cuts : List ℕ) (ms more : List (List ℕ)) → after ≡ ends ++ map (λ (cut : ℕ). cut - from + held) cuts
    → ends ≡ ends_from 0 ms → length (concatenation ms) ≡ held → cuts ≡ ends_from from more → after ≡ ends_from 0 (ms ++ more)
lay_mixed_cut held from ends after cuts ms more is laid holds cut =
    let next : map (λ (cut : ℕ). cut - from + held) cuts ≡ ends_from (0 + length (concatenation ms)) more
    = ap (map (λ (cut : ℕ). cut - from + held)) (cut ∙ ap (λ (n : ℕ). ends_from n more) (omega arith)) ∙ moved_ends from held 0 more
    ∙ ap (λ (n : ℕ). ends_from n more) (omega arith) in
    is ∙ (λ i. laid i ++ next i) ∙ sym (ends_from-append 0 ms more)

-- ---- the members of a string are determined by its layout

pieces_unique : (size : ℕ) (ms : List (List ℕ)) → HaveSize size ms → pieces (length ms) size (concatenation ms) ≡ ms
pieces_unique size [] even = refl
pieces_unique size (m ∷ ms) even =
    let long : length m ≡ size = All-head (λ (x : List ℕ). length x ≡ size) m ms even in
    let first : take size (m ++ concatenation ms) ≡ m = take_at m (concatenation ms) size long in
    let rest : pieces (length ms) size (drop size (m ++ concatenation ms)) ≡ ms
    = ap (pieces (length ms) size) (drop_at m (concatenation ms) size long) ∙ pieces_unique size ms (All-tail (λ (x : List ℕ). length x ≡ size) m ms even) in
    λ i. first i ∷ rest i

pub cut_unique : (start : ℕ) (ms : List (List ℕ)) → cut_from start (ends_from start ms) (concatenation ms) ≡ ms
cut_unique start [] = refl
cut_unique start (m ∷ ms) =
    let long : length m ≡ start + length m - start = omega arith in
    let first : take (start + length m - start) (m ++ concatenation ms) ≡ m = take_at m (concatenation ms) (start + length m - start) long in
    let rest : cut_from (start + length m) (ends_from (start + length m) ms) (drop (start + length m - start) (m ++ concatenation ms)) ≡ ms
    = ap (cut_from (start + length m) (ends_from (start + length m) ms)) (drop_at m (concatenation ms) (start + length m - start) long) ∙ cut_unique (start + length m) ms in
    λ i. first i ∷ rest i

pub pieces_of_even : (size : ℕ) (bytes : List ℕ) (ms : List (List ℕ)) → 0 < size → HaveSize size ms → concatenation ms ≡ bytes → pieces_of size bytes ≡ ms
pieces_of_even size bytes ms some even joined =
    ap (λ (n : ℕ). pieces n size bytes) (count_even size (length bytes) ms some even (ap length joined))
    ∙ ap (pieces (length ms) size) (sym joined) ∙ pieces_unique size ms even

pub members_unique : (ms : List (List ℕ)) (bytes : List ℕ) (layout : Layout) → concatenation ms ≡ bytes → LaysOut layout ms → members_of bytes layout ≡ ms
members_unique ms bytes (Even size) joined laid = pieces_of_even size bytes ms (omega (arith, laid.0.low)) laid.1 joined
members_unique ms bytes (Mixed ends) joined laid = (λ i. cut_from 0 (laid i) (sym joined i)) ∙ cut_unique 0 ms

pub packed_by : (ms : List (List ℕ)) (bytes : List ℕ) (layout : Layout) → concatenation ms ≡ bytes → All (λ member. IsPrefixSize (length member)) ms
    → LaysOut layout ms → length bytes < 2 ^ 32 → IsPacked bytes layout
packed_by ms bytes layout joined sizes laid limit =
    let is : ms ≡ members_of bytes layout = sym (members_unique ms bytes layout joined laid) in
    record {
      joined = ap concatenation (sym is) ∙ joined;
      sizes = subst (All (λ member. IsPrefixSize (length member))) is sizes;
      laid_out = subst (LaysOut layout) is laid;
      limit = limit;
    }

-- ---- the pieces of a string

even_pieces : (count size : ℕ) (bytes : List ℕ) → count * size ≤ length bytes → HaveSize size (pieces count size bytes)
even_pieces zero size bytes within = All-nil (λ (x : List ℕ). length x ≡ size)
even_pieces (suc count) size bytes within =
    All-cons (λ (x : List ℕ). length x ≡ size) (take size bytes) (pieces count size (drop size bytes)) (length-take-le size bytes (omega arith))
    (even_pieces count size (drop size bytes) (omega (arith, length-drop size bytes)))

joined_pieces : (count size : ℕ) (bytes : List ℕ) → count * size ≡ length bytes → concatenation (pieces count size bytes) ≡ bytes
joined_pieces zero size bytes whole = sym (nil_from_length bytes (sym whole ∙ omega arith))
joined_pieces (suc count) size bytes whole =
    ap (λ (rest : List ℕ). take size bytes ++ rest) (joined_pieces count size (drop size bytes) (omega (arith, length-drop size bytes)))
    ∙ take-append-drop size bytes

whole_times : (size : ℕ) (bytes : List ℕ) → length bytes % size ≡ 0 → length bytes / size * size ≡ length bytes
whole_times size bytes whole = omega (arith, div-add-mod' (length bytes) size)

pub HaveSize-pieces_of : (size : ℕ) (bytes : List ℕ) → length bytes % size ≡ 0 → HaveSize size (pieces_of size bytes)
HaveSize-pieces_of size bytes whole = even_pieces (length bytes / size) size bytes (omega (arith, whole_times size bytes whole))

pub joined_pieces_of : (size : ℕ) (bytes : List ℕ) → length bytes % size ≡ 0 → concatenation (pieces_of size bytes) ≡ bytes
joined_pieces_of size bytes whole = joined_pieces (length bytes / size) size bytes (whole_times size bytes whole)

pub sizes_even : (size : ℕ) (ms : List (List ℕ)) → IsPrefixSize size → HaveSize size ms → All (λ member. IsPrefixSize (length member)) ms
sizes_even size ms four even k d below = subst IsPrefixSize (sym (even k d below)) four

-- a prefix is its own only piece
pub pieces_of-itself : (prefix : List ℕ) → 0 < length prefix → pieces_of (length prefix) prefix ≡ prefix ∷ []
pieces_of-itself prefix some =
    pieces_of_even (length prefix) prefix (prefix ∷ []) some
    (All-cons (λ (x : List ℕ). length x ≡ length prefix) prefix [] refl (All-nil (λ (x : List ℕ). length x ≡ length prefix))) (append-nil prefix)

-- ---- where members stand

pub length-ends_from : (start : ℕ) (ms : List (List ℕ)) → length (ends_from start ms) ≡ length ms
length-ends_from start [] = refl
length-ends_from start (m ∷ ms) = ap suc (length-ends_from (start + length m) ms)

ends_at : (start k d : ℕ) (ms : List (List ℕ)) → k < length ms → get_or (ends_from start ms) k d ≡ start + length (concatenation (take (suc k) ms))
ends_at start k d [] below = absurd (omega (arith, below))
ends_at start zero d (m ∷ ms) below = omega (arith, length-append m [])
ends_at start (suc k) d (m ∷ ms) below =
    ends_at (start + length m) k d ms (omega arith) ∙ omega (arith, length-append m (concatenation (take (suc k) ms)))

split_at : (i : ℕ) (ms : List (List ℕ)) → concatenation ms ≡ concatenation (take i ms) ++ concatenation (drop i ms)
split_at i ms = ap concatenation (sym (take-append-drop i ms)) ∙ flat_map-append (λ m. m) (take i ms) (drop i ms)

-- the bytes in front of a place are no more than all
pub start_within : (i : ℕ) (ms : List (List ℕ)) → length (concatenation (take i ms)) ≤ length (concatenation ms)
start_within i ms = omega (arith, ap length (split_at i ms), length-append (concatenation (take i ms)) (concatenation (drop i ms)))

-- a run of members stands between the starts of its ends
pub range_is : (from count : ℕ) (ms : List (List ℕ))
    → take (length (concatenation (take (from + count) ms)) - length (concatenation (take from ms))) (drop (length (concatenation (take from ms))) (concatenation ms))
    ≡ concatenation (take count (drop from ms))
range_is from count ms =
    let behind : drop (length (concatenation (take from ms))) (concatenation ms) ≡ concatenation (drop from ms)
    = ap (drop (length (concatenation (take from ms)))) (split_at from ms) ∙ drop_at (concatenation (take from ms)) (concatenation (drop from ms)) _ refl in
    let front : take (from + count) ms ≡ take from ms ++ take count (drop from ms)
    = sym (take-append-drop from (take (from + count) ms)) ∙ (λ i. take-take from (from + count) ms (omega arith) i ++ drop-take from count ms i) in
    let long : length (concatenation (take (from + count) ms)) ≡ length (concatenation (take from ms)) + length (concatenation (take count (drop from ms)))
    = ap (λ (xs : List (List ℕ)). length (concatenation xs)) front ∙ ap length (flat_map-append (λ m. m) (take from ms) (take count (drop from ms)))
    ∙ length-append (concatenation (take from ms)) (concatenation (take count (drop from ms))) in
    let size : length (concatenation (take (from + count) ms)) - length (concatenation (take from ms)) ≡ length (concatenation (take count (drop from ms))) = omega arith in
    (λ i. take (size i) (behind i))
    ∙ ap (take (length (concatenation (take count (drop from ms))))) (split_at count (drop from ms))
    ∙ take_at (concatenation (take count (drop from ms))) (concatenation (drop count (drop from ms))) _ refl

-- where the member at a place begins
pub start_even : (size i : ℕ) (ms : List (List ℕ)) → HaveSize size ms → i ≤ length ms → i * size ≡ length (concatenation (take i ms))
start_even size i ms even within =
    omega (arith, length_even size (take i ms) (All-take (λ (x : List ℕ). length x ≡ size) i ms even), ap (λ (n : ℕ). n * size) (length-take-le i ms within))

pub start_mixed : (ends : List ℕ) (i d : ℕ) (ms : List (List ℕ)) → ends ≡ ends_from 0 ms → 0 < i → i ≤ length ms → get_or ends (i - 1) d ≡ length (concatenation (take i ms))
start_mixed ends i d ms is some within =
    let next : suc (i - 1) ≡ i = omega arith in
    ap (λ (es : List ℕ). get_or es (i - 1) d) is ∙ ends_at 0 (i - 1) d ms (omega arith) ∙ omega (arith, ap (λ (n : ℕ). length (concatenation (take n ms))) next)
