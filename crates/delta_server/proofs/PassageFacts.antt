-- What stretches show, part by part, and what a pass through them notes.
use Rattle.std.proofs.Common.{◌≡◌, ℕ, Some, None, suc, ◌+◌, ◌-◌, ◌^◌, ◌<◌, ◌≤◌, ◌⊎◌, inl, inr, Bool, true, false, cond, not, List, [], ◌∷◌, ◌++◌, length, take, drop, map, get_or, refl, sym, ap, subst, ◌∙◌, arith, append-nil, append_assoc, length-append}
use Rattle.std.specs.Prelude.{◌||◌, min, slice_get, filter, All, if◌then◌else◌}
use Rattle.std.specs.declared.cmp.Ordering.{Ordering}
use Rattle.std.specs.declared.cmp.Ordering.TheVariants.{Less, Equal, Greater}
use Rattle.std.specs.Ordering.{match_ordering}
use Rattle.std.specs.Int.{w32, to_be_bytes}
use Rattle.std.specs.List.{list_any, enumerate_from}
use Rattle.std.proofs.lemmas.Bool.{cases_lt}
use Rattle.std.proofs.lemmas.Cmp.{tied_itself, nat_list_cmp_total}
use Rattle.std.proofs.lemmas.List.{map-append, take-append-drop}
use Rattle.std.proofs.Math.Seq.{drop-cons}
use Rattle.std.proofs.lemmas.List.Concat.{flat_map-append}
use Rattle.std.proofs.lemmas.List.Elements.{filter-append}
use Rattle.std.proofs.lemmas.List.Folds.{list_any-append}
use Rattle.sb_model.specs.Difference.{has_member, removed_places, added_members}
use Rattle.sb_model.specs.Prefixes.{bytes_cmp, with_member, set_of, concatenation}
use Rattle.list_versions.specs.declared.stretch.Stretch.{Stretch}
use Rattle.delta_server.specs.declared.passages.Passage.{Passage}
use Rattle.list_versions.specs.Stretches.{prefix_in, ComesBefore, AreInOrder}
use Rattle.delta_server.specs.Passages.{HasPassed, Passes, StandsBetween}
use Rattle.delta_server.specs.Sweeping.{NameFourBytes, has_version, shown_at}
use Rattle.delta_server.proofs.Membership.{In, in_either, from_map, from_filter, in_right}
use Rattle.delta_server.proofs.QuadFacts.{quads_rise}
use Rattle.delta_server.proofs.SetCounts.{same_bytes, has_not}
use Rattle.delta_server.proofs.ShownFacts.{of_all, all_of}

-- ---- sets one after the other

in_with : (z x : List ℕ) (set : List (List ℕ)) → In z (with_member x set) → (x ≡ z) ⊎ In z set
in_with z x [] h = h
in_with z x (y ∷ ys) h = go (bytes_cmp x y) h (in_with z x ys)
  where
    go : (o : Ordering) → In z (match_ordering o (x ∷ y ∷ ys) (y ∷ ys) (y ∷ with_member x ys)) → (In z (with_member x ys) → (x ≡ z) ⊎ In z ys) → (x ≡ z) ⊎ ((y ≡ z) ⊎ In z ys)
    go Less h more = h
    go Equal h more = inr h
    go Greater (inl e) more = inr (inl e)
    go Greater (inr h) more = elim (more h) [ inl e ↦ inl e | inr k ↦ inr (inr k) ]

in_set : (z : List ℕ) (xs : List (List ℕ)) → In z (set_of xs) → In z xs
in_set z [] h = h
in_set z (x ∷ xs) h = elim (in_with z x (set_of xs) h) [ inl e ↦ inl e | inr k ↦ inr (in_set z xs k) ]

with_front : (x : List ℕ) (xs ys : List (List ℕ)) → ((y : List ℕ) → In y ys → bytes_cmp x y ≡ Less) → with_member x (xs ++ ys) ≡ with_member x xs ++ ys
with_front x [] [] below = refl
with_front x [] (y ∷ ys) below = ap (λ (o : Ordering). match_ordering o (x ∷ y ∷ ys) (y ∷ ys) (y ∷ with_member x ys)) (below y (inl refl))
with_front x (z ∷ zs) ys below = go (bytes_cmp x z) (with_front x zs ys below)
  where
    go : (o : Ordering) → with_member x (zs ++ ys) ≡ with_member x zs ++ ys
        → match_ordering o (x ∷ z ∷ (zs ++ ys)) (z ∷ (zs ++ ys)) (z ∷ with_member x (zs ++ ys)) ≡ match_ordering o (x ∷ z ∷ zs) (z ∷ zs) (z ∷ with_member x zs) ++ ys
    go Less more = refl
    go Equal more = refl
    go Greater more = ap (λ (ms : List (List ℕ)). z ∷ ms) more

set_parts : (xs ys : List (List ℕ)) → ((x y : List ℕ) → In x xs → In y ys → bytes_cmp x y ≡ Less) → set_of (xs ++ ys) ≡ set_of xs ++ set_of ys
set_parts [] ys below = refl
set_parts (x ∷ xs) ys below =
    ap (with_member x) (set_parts xs ys (λ z y h k. below z y (inr h) k))
    ∙ with_front x (set_of xs) (set_of ys) (λ y k. below x y (inl refl) (in_set y ys k))

-- ---- what stretches show

abbrev shown_in : List Stretch → ℕ → List (List ℕ)
shown_in stretches version = map prefix_in (filter (has_version version) stretches)

shown_by : (stretches : List Stretch) (version : ℕ) (x : List ℕ) → In x (shown_in stretches version) → (t : Stretch) × In t stretches × (prefix_in t ≡ x)
shown_by stretches version x h =
    let from = from_map prefix_in x (filter (has_version version) stretches) h in
    let kept = from_filter (has_version version) from.0 stretches from.1 in
    (from.0, kept.0, from.2)

-- lists of stretches whose prefixes are below those of the other
abbrev Apart : List Stretch → List Stretch → Type 0
Apart xs ys = (s t : Stretch) → In s xs → In t ys → (s.head < t.head) × (t.head < 2 ^ 32)

below_is : (xs ys : List Stretch) (version : ℕ) → Apart xs ys → (x y : List ℕ) → In x (shown_in xs version) → In y (shown_in ys version) → bytes_cmp x y ≡ Less
below_is xs ys version apart x y h k =
    let s = shown_by xs version x h in
    let t = shown_by ys version y k in
    let less = apart s.0 t.0 s.1 t.1 in
    subst (λ (z : List ℕ). bytes_cmp z y ≡ Less) s.2 (subst (λ (z : List ℕ). bytes_cmp (prefix_in s.0) z ≡ Less) t.2 (quads_rise s.0.head t.0.head less.0 less.1))

pub shown_parts : (xs ys : List Stretch) (version : ℕ) → Apart xs ys → shown_at (xs ++ ys) version ≡ shown_at xs version ++ shown_at ys version
shown_parts xs ys version apart =
    ap set_of (ap (map prefix_in) (filter-append (has_version version) xs ys)
    ∙ map-append prefix_in (filter (has_version version) xs) (filter (has_version version) ys))
    ∙ set_parts (shown_in xs version) (shown_in ys version) (below_is xs ys version apart)

-- each prefix has four bytes
pub quads_shown : (stretches : List Stretch) (version : ℕ) (x : List ℕ) → In x (shown_at stretches version) → length x ≡ 4
quads_shown stretches version x h =
    let found = shown_by stretches version x (in_set x (shown_in stretches version) h) in
    ap length (sym found.2)

-- stretches of one prefix
shown_one : (run : List Stretch) (head version : ℕ) → ((s : Stretch) → In s run → s.head ≡ head)
    → shown_at run version ≡ cond (list_any (has_version version) run) (to_be_bytes w32 head ∷ []) []
shown_one [] head version own = refl
shown_one (s ∷ ss) head version own = go (has_version version s) (list_any (has_version version) ss) (shown_one ss head version (λ t h. own t (inr h)))
  where
    name : prefix_in s ≡ to_be_bytes w32 head
    name = ap (to_be_bytes w32) (own s (inl refl))

    last : (b : Bool) → with_member (to_be_bytes w32 head) (cond b (to_be_bytes w32 head ∷ []) []) ≡ to_be_bytes w32 head ∷ []
    last true = ap (λ (o : Ordering). match_ordering o (to_be_bytes w32 head ∷ to_be_bytes w32 head ∷ []) (to_be_bytes w32 head ∷ []) (to_be_bytes w32 head ∷ to_be_bytes w32 head ∷ []))
        (tied_itself nat_list_cmp_total (to_be_bytes w32 head))
    last false = refl

    go : (a b : Bool) → shown_at ss version ≡ cond b (to_be_bytes w32 head ∷ []) []
        → set_of (map prefix_in (cond a (s ∷ filter (has_version version) ss) (filter (has_version version) ss))) ≡ cond (a || b) (to_be_bytes w32 head ∷ []) []
    go true b more = ap (λ (x : List ℕ). with_member x (shown_at ss version)) name ∙ ap (with_member (to_be_bytes w32 head)) more ∙ last b
    go false b more = more

-- ---- members

has_parts : (xs ys : List (List ℕ)) (x : List ℕ) → has_member (xs ++ ys) x ≡ (has_member xs x || has_member ys x)
has_parts xs ys x = list_any-append _ xs ys

bytes_apart : (x y : List ℕ) → bytes_cmp x y ≡ Less → x ≡ y → ⊥
bytes_apart x y less same =
    let before : bytes_cmp y y ≡ Less = subst (λ (z : List ℕ). bytes_cmp z y ≡ Less) same less in
    let tied : bytes_cmp y y ≡ Equal = tied_itself nat_list_cmp_total y in
    absurd (cc)

module _ (done run later : List Stretch) (head : ℕ) (stands : StandsBetween done run later head) where
  abbrev prefix : List ℕ
  prefix = to_be_bytes w32 head

  own_head : (s : Stretch) → In s run → s.head ≡ head
  own_head s h = of_all (λ (t : Stretch). t.head ≡ head) run stands.own s h

  lower : (s : Stretch) → In s done → s.head < head
  lower s h = of_all (λ (t : Stretch). t.head < head) done stands.before s h

  higher : (s : Stretch) → In s later → (head < s.head) × (s.head < 2 ^ 32)
  higher s h = (of_all (λ (t : Stretch). head < t.head) later stands.after s h, of_all (λ (t : Stretch). t.head < 2 ^ 32) later stands.heads s h)

  not_done : (version : ℕ) → has_member (shown_at done version) prefix ≡ false
  not_done version = has_not (shown_at done version) prefix (λ h.
      let found = shown_by done version prefix (in_set prefix (shown_in done version) h) in
      bytes_apart (prefix_in found.0) prefix (quads_rise found.0.head head (lower found.0 found.1) stands.fits) found.2)

  not_later : (version : ℕ) → has_member (shown_at later version) prefix ≡ false
  not_later version = has_not (shown_at later version) prefix (λ h.
      let found = shown_by later version prefix (in_set prefix (shown_in later version) h) in
      let after = higher found.0 found.1 in
      bytes_apart prefix (prefix_in found.0) (quads_rise head found.0.head after.0 after.1) (sym found.2))

  first_apart : Apart done run
  first_apart s t h k = let same = own_head t k in (
    omega (arith, lower s h, same),
    subst (λ n. n < 2 ^ 32) (sym same) stands.fits,
  )

  last_apart : Apart (done ++ run) later
  last_apart s t h k = let after = higher t k in (
    elim (in_either s done run h) [ inl a ↦ omega (arith, lower s a, after.0) | inr b ↦ omega (arith, own_head s b, after.0) ],
    after.1,
  )

  pub shown_run : (version : ℕ) → shown_at (done ++ run) version ≡ shown_at done version ++ cond (list_any (has_version version) run) (prefix ∷ []) []
  shown_run version = shown_parts done run version first_apart ∙ ap (λ (set : List (List ℕ)). shown_at done version ++ set) (shown_one run head version own_head)

  pub shown_whole : (version : ℕ) → shown_at ((done ++ run) ++ later) version ≡ shown_at (done ++ run) version ++ shown_at later version
  shown_whole version = shown_parts (done ++ run) later version last_apart

  own_has : (b : Bool) → has_member (cond b (prefix ∷ []) []) prefix ≡ b
  own_has true = ap (λ (t : Bool). t || false) (same_bytes prefix prefix refl)
  own_has false = refl

  or_false : (a : Bool) → (a || false) ≡ a
  or_false true = refl
  or_false false = refl

  -- a set has the prefix if one of its stretches has the version
  pub has_run : (version : ℕ) → has_member (shown_at ((done ++ run) ++ later) version) prefix ≡ list_any (has_version version) run
  has_run version =
      ap (λ (set : List (List ℕ)). has_member set prefix) (shown_whole version)
      ∙ has_parts (shown_at (done ++ run) version) (shown_at later version) prefix
      ∙ ap (λ (t : Bool). has_member (shown_at (done ++ run) version) prefix || t) (not_later version)
      ∙ or_false (has_member (shown_at (done ++ run) version) prefix)
      ∙ ap (λ (set : List (List ℕ)). has_member set prefix) (shown_run version)
      ∙ has_parts (shown_at done version) (cond (list_any (has_version version) run) (prefix ∷ []) []) prefix
      ∙ ap (λ (t : Bool). t || has_member (cond (list_any (has_version version) run) (prefix ∷ []) []) prefix) (not_done version)
      ∙ own_has (list_any (has_version version) run)

-- ---- what is noted

abbrev noted : List (List ℕ) → ℕ → List (List ℕ) → List ℕ
noted newer n members = map (λ (member : ℕ × List ℕ). member.0) (filter (λ (member : ℕ × List ℕ). not (has_member newer member.1)) (enumerate_from n members))

noted_more : (newer : List (List ℕ)) (n : ℕ) (xs : List (List ℕ)) (x : List ℕ)
    → noted newer n (xs ++ x ∷ []) ≡ noted newer n xs ++ cond (not (has_member newer x)) ((n + length xs) ∷ []) []
noted_more newer n [] x = go (not (has_member newer x))
  where
    go : (b : Bool) → map (λ (member : ℕ × List ℕ). member.0) (cond b ((n, x) ∷ []) []) ≡ cond b ((n + 0) ∷ []) []
    go true = ap (λ k. k ∷ []) (let same : n ≡ n + 0 = omega arith in same)
    go false = refl
noted_more newer n (y ∷ ys) x = go (not (has_member newer y)) (noted_more newer (n + 1) ys x
    ∙ ap (λ k. noted newer (n + 1) ys ++ cond (not (has_member newer x)) (k ∷ []) []) (let same : n + 1 + length ys ≡ n + suc (length ys) = omega arith in same))
  where
    go : (b : Bool) → noted newer (n + 1) (ys ++ x ∷ []) ≡ noted newer (n + 1) ys ++ cond (not (has_member newer x)) ((n + suc (length ys)) ∷ []) []
        → map (λ (member : ℕ × List ℕ). member.0) (cond b ((n, y) ∷ filter (λ (member : ℕ × List ℕ). not (has_member newer member.1)) (enumerate_from (n + 1) (ys ++ x ∷ []))) (filter (λ (member : ℕ × List ℕ). not (has_member newer member.1)) (enumerate_from (n + 1) (ys ++ x ∷ []))))
        ≡ map (λ (member : ℕ × List ℕ). member.0) (cond b ((n, y) ∷ filter (λ (member : ℕ × List ℕ). not (has_member newer member.1)) (enumerate_from (n + 1) ys)) (filter (λ (member : ℕ × List ℕ). not (has_member newer member.1)) (enumerate_from (n + 1) ys)))
        ++ cond (not (has_member newer x)) ((n + suc (length ys)) ∷ []) []
    go true more = ap (λ (ns : List ℕ). n ∷ ns) more
    go false more = more

added_more : (old xs : List (List ℕ)) (x : List ℕ) → added_members old (xs ++ x ∷ []) ≡ added_members old xs ++ cond (not (has_member old x)) (x ∷ []) []
added_more old xs x = filter-append (λ member. not (has_member old member)) xs (x ∷ [])

bytes_more : (xs : List (List ℕ)) (x : List ℕ) → concatenation (xs ++ x ∷ []) ≡ concatenation xs ++ x
bytes_more xs x = flat_map-append (λ (m : List ℕ). m) xs (x ∷ []) ∙ ap (λ (b : List ℕ). concatenation xs ++ b) (append-nil x)

module _ (before after : Passage) (old newer : List (List ℕ)) (prefix : List ℕ) where
  removed_next : (stood stays : Bool) (xs ys : List (List ℕ)) → Passes before after prefix stood stays → has_member newer prefix ≡ stays → before.rank ≡ length xs
      → before.removals ≡ removed_places xs newer → ys ≡ xs ++ cond stood (prefix ∷ []) [] → after.removals ≡ removed_places ys newer
  removed_next false stays xs ys passes is rank was next =
      passes.removals ∙ append-nil before.removals ∙ was ∙ ap (λ (zs : List (List ℕ)). removed_places zs newer) (sym (append-nil xs) ∙ sym next)
  removed_next true stays xs ys passes is rank was next =
      passes.removals ∙ ap (λ (ns : List ℕ). ns ++ (if not stays then before.rank ∷ [] else [])) was
      ∙ ap (λ k. removed_places xs newer ++ (if not stays then k ∷ [] else [])) (rank ∙ let same : length xs ≡ 0 + length xs = omega arith in same)
      ∙ ap (λ (t : Bool). removed_places xs newer ++ cond (not t) ((0 + length xs) ∷ []) []) (sym is)
      ∙ sym (noted_more newer 0 xs prefix) ∙ ap (λ (zs : List (List ℕ)). removed_places zs newer) (sym next)

  added_next : (stood stays : Bool) (xs ys : List (List ℕ)) → Passes before after prefix stood stays → has_member old prefix ≡ stood
      → before.additions ≡ added_members old xs → ys ≡ xs ++ cond stays (prefix ∷ []) [] → after.additions ≡ added_members old ys
  added_next stood false xs ys passes is was next =
      passes.additions ∙ append-nil before.additions ∙ was ∙ ap (added_members old) (sym (append-nil xs) ∙ sym next)
  added_next stood true xs ys passes is was next =
      passes.additions ∙ ap (λ (ms : List (List ℕ)). ms ++ (if not stood then prefix ∷ [] else [])) was
      ∙ ap (λ (t : Bool). added_members old xs ++ cond (not t) (prefix ∷ []) []) (sym is)
      ∙ sym (added_more old xs prefix) ∙ ap (added_members old) (sym next)

  bytes_next : (stood stays : Bool) (xs ys : List (List ℕ)) → Passes before after prefix stood stays
      → before.bytes ≡ concatenation xs → ys ≡ xs ++ cond stays (prefix ∷ []) [] → after.bytes ≡ concatenation ys
  bytes_next stood false xs ys passes was next = passes.bytes ∙ append-nil before.bytes ∙ was ∙ ap concatenation (sym (append-nil xs) ∙ sym next)
  bytes_next stood true xs ys passes was next =
      passes.bytes ∙ ap (λ (b : List ℕ). b ++ prefix) was ∙ sym (bytes_more xs prefix) ∙ ap concatenation (sym next)

  rank_next : (stood stays : Bool) (xs ys : List (List ℕ)) → Passes before after prefix stood stays → before.rank ≡ length xs → length ys < 2 ^ 32
      → ys ≡ xs ++ cond stood (prefix ∷ []) [] → after.rank ≡ length ys
  rank_next false stays xs ys passes was few next = passes.rank ∙ was ∙ ap length (sym (append-nil xs) ∙ sym next)
  rank_next true stays xs ys passes was few next =
      let long : length ys ≡ length xs + 1 = ap length next ∙ length-append xs (prefix ∷ []) in
      let is : after.rank ≡ min (before.rank + 1) (2 ^ 32 - 1) = passes.rank in
      omega (arith, is, long, was, few)

-- the stretches of one prefix were passed
pub passed_more : (before after : Passage) (held version head : ℕ) (done run later : List Stretch) → StandsBetween done run later head
    → length (shown_at ((done ++ run) ++ later) held) < 2 ^ 32
    → Passes before after (to_be_bytes w32 head) (list_any (has_version held) run) (list_any (has_version version) run)
    → HasPassed before (shown_at ((done ++ run) ++ later) held) (shown_at ((done ++ run) ++ later) version) held version done
    → HasPassed after (shown_at ((done ++ run) ++ later) held) (shown_at ((done ++ run) ++ later) version) held version (done ++ run)
passed_more before after held version head done run later stands few passes passed =
    let old : List (List ℕ) = shown_at ((done ++ run) ++ later) held in
    let newer : List (List ℕ) = shown_at ((done ++ run) ++ later) version in
    let prefix : List ℕ = to_be_bytes w32 head in
    let stood : Bool = list_any (has_version held) run in
    let stays : Bool = list_any (has_version version) run in
    let long = ap length (shown_whole done run later head stands held) ∙ length-append (shown_at (done ++ run) held) (shown_at later held) in
    record {
      rank = rank_next before after old newer prefix stood stays (shown_at done held) (shown_at (done ++ run) held) passes passed.rank (omega (arith, long, few)) (shown_run done run later head stands held);
      removals = removed_next before after old newer prefix stood stays (shown_at done held) (shown_at (done ++ run) held) passes (has_run done run later head stands version) passed.rank passed.removals (shown_run done run later head stands held);
      additions = added_next before after old newer prefix stood stays (shown_at done version) (shown_at (done ++ run) version) passes (has_run done run later head stands held) passed.additions (shown_run done run later head stands version);
      bytes = bytes_next before after old newer prefix stood stays (shown_at done version) (shown_at (done ++ run) version) passes passed.bytes (shown_run done run later head stands version);
    }

-- ---- the order of stretches

pub order_later : (xs ys : List Stretch) → AreInOrder (xs ++ ys) → AreInOrder ys
order_later [] ys order = order
order_later (x ∷ xs) ys order = order_later xs ys order.1

no_lower : (s t : Stretch) → ComesBefore s t → s.head ≤ t.head
no_lower s t (inl less) = omega arith
no_lower s t (inr both) = let same = both.0 in omega arith

-- those from the first of another prefix on are above
pub all_above : (head : ℕ) (s : Stretch) (ts : List Stretch) → AreInOrder (s ∷ ts) → head < s.head → (t : Stretch) → In t (s ∷ ts) → head < t.head
all_above head s ts order less t (inl e) = subst (λ (u : Stretch). head < u.head) e less
all_above head s ts order less t (inr h) = let up = no_lower s t (of_all (ComesBefore s) ts order.0 t h) in omega arith

pub later_from : (xs : List Stretch) (i : ℕ) (d first : Stretch) (rest : List Stretch) (head : ℕ) → i < length xs → AreInOrder xs → xs ≡ first ∷ rest → first.head ≡ head
    → ((get_or xs i d).head ≡ head → ⊥) → All (λ (t : Stretch). head < t.head) (drop i xs)
later_from xs i d first rest head below order is own other =
    let cut : drop i xs ≡ get_or xs i d ∷ drop (suc i) xs = drop-cons xs i d below in
    let behind : AreInOrder (get_or xs i d ∷ drop (suc i) xs) = subst AreInOrder cut (order_later (take i xs) (drop i xs) (subst AreInOrder (sym (take-append-drop i xs)) order)) in
    let there : In (get_or xs i d) xs = subst (λ (ys : List Stretch). In (get_or xs i d) ys) (take-append-drop i xs)
    (in_right (get_or xs i d) (take i xs) (drop i xs) (subst (λ (ys : List Stretch). In (get_or xs i d) ys) (sym cut) (inl refl))) in
    let placed : (first ≡ get_or xs i d) ⊎ In (get_or xs i d) rest = subst (λ (ys : List Stretch). In (get_or xs i d) ys) is there in
    let up : head < (get_or xs i d).head = elim placed [
      | inl e ↦ absurd (other (sym (ap (λ (s : Stretch). s.head) e) ∙ own))
      | inr h ↦ above head (get_or xs i d).head (subst (λ n. n ≤ (get_or xs i d).head) own (no_lower first (get_or xs i d) (of_all (ComesBefore first) rest (subst AreInOrder is order).0 (get_or xs i d) h))) other
    ] in
    subst (All (λ (t : Stretch). head < t.head)) (sym cut)
    (all_of (λ (t : Stretch). head < t.head) (get_or xs i d ∷ drop (suc i) xs) (all_above head (get_or xs i d) (drop (suc i) xs) behind up))
  where
    above : (m n : ℕ) → m ≤ n → (n ≡ m → ⊥) → m < n
    above m n less apart = elim (cases_lt m n) [ inl lt ↦ lt | inr ge ↦ absurd (apart (omega arith)) ]

-- ---- a pass

-- what one step of a pass says
abbrev pub Takes : Passage → Passage → List Stretch → ℕ → ℕ → ℕ → Type 0
Takes before after run head held version = (done later : List Stretch) → StandsBetween done run later head
    → length (shown_at ((done ++ run) ++ later) held) < 2 ^ 32
    → HasPassed before (shown_at ((done ++ run) ++ later) held) (shown_at ((done ++ run) ++ later) version) held version done
    → HasPassed after (shown_at ((done ++ run) ++ later) held) (shown_at ((done ++ run) ++ later) version) held version (done ++ run)

module _ (stretches done rest run later : List Stretch) (first : Stretch) (whole : stretches ≡ done ++ rest) (split : rest ≡ run ++ later)
    (below : (s t : Stretch) → In s done → In t rest → s.head < t.head) (heads : NameFourBytes stretches) (there : In first rest)
    (own : All (λ (s : Stretch). s.head ≡ first.head) run) (after : All (λ (s : Stretch). first.head < s.head) later) where
  pub whole_next : stretches ≡ (done ++ run) ++ later
  whole_next = whole ∙ ap (λ (xs : List Stretch). done ++ xs) split ∙ sym (append_assoc done run later)

  each_head : (s : Stretch) → In s rest → s.head < 2 ^ 32
  each_head s h = of_all (λ (t : Stretch). t.head < 2 ^ 32) stretches heads s (subst (λ (xs : List Stretch). In s xs) (sym whole) (in_right s done rest h))

  in_later : (s : Stretch) → In s later → In s rest
  in_later s h = subst (λ (xs : List Stretch). In s xs) (sym split) (in_right s run later h)

  pub stands_next : StandsBetween done run later first.head
  stands_next = record {
    own = own;
    before = all_of (λ (s : Stretch). s.head < first.head) done (λ s h. below s first h there);
    after = after;
    fits = each_head first there;
    heads = all_of (λ (s : Stretch). s.head < 2 ^ 32) later (λ s h. each_head s (in_later s h));
  }

  pub below_next : (s t : Stretch) → In s (done ++ run) → In t later → s.head < t.head
  below_next s t h k = elim (in_either s done run h) [
    | inl a ↦ below s t a (in_later t k)
    | inr b ↦ let same = of_all (λ (u : Stretch). u.head ≡ first.head) run own s b in let up = of_all (λ (u : Stretch). first.head < u.head) later after t k in omega arith
  ]

  pub passed_next : (passage next : Passage) (held version : ℕ) → Takes passage next run first.head held version → length (shown_at stretches held) < 2 ^ 32
      → HasPassed passage (shown_at stretches held) (shown_at stretches version) held version done
      → HasPassed next (shown_at stretches held) (shown_at stretches version) held version (done ++ run)
  passed_next passage next held version takes =
      subst (λ (xs : List Stretch). length (shown_at xs held) < 2 ^ 32 → HasPassed passage (shown_at xs held) (shown_at xs version) held version done
      → HasPassed next (shown_at xs held) (shown_at xs version) held version (done ++ run)) (sym whole_next) (takes done later stands_next)

pub first_in : (xs : List Stretch) (x : Stretch) → slice_get xs 0 ≡ Some x → In x xs
first_in [] x is = absurd (cc)
first_in (y ∷ ys) x is = inl (let same : Some y ≡ Some x = is in cc)

pub first_is : (xs : List Stretch) (x : Stretch) → slice_get xs 0 ≡ Some x → (ys : List Stretch) × (xs ≡ x ∷ ys)
first_is [] x is = absurd (cc)
first_is (y ∷ ys) x is = (ys, let same : Some y ≡ Some x = is in ap (λ (z : Stretch). z ∷ ys) (let inside : y ≡ x = cc in inside))

pub none_left : (xs : List Stretch) → slice_get xs 0 ≡ None → xs ≡ []
none_left [] is = refl
none_left (y ∷ ys) is = absurd (cc)

pub takes_from : (before after : Passage) (run : List Stretch) (head held version : ℕ) (stood stays : Bool) → stood ≡ list_any (has_version held) run
    → stays ≡ list_any (has_version version) run → Passes before after (to_be_bytes w32 head) stood stays → Takes before after run head held version
takes_from before after run head held version stood stays first second passes = λ done later stands few passed.
    passed_more before after held version head done run later stands few
    (subst (λ (b : Bool). Passes before after (to_be_bytes w32 head) (list_any (has_version held) run) b) second
    (subst (λ (b : Bool). Passes before after (to_be_bytes w32 head) b stays) first passes)) passed

-- nothing is left
pub all_passed : (stretches done rest : List Stretch) → stretches ≡ done ++ rest → slice_get rest 0 ≡ None → done ≡ stretches
all_passed stretches done rest whole none = sym (append-nil done) ∙ ap (λ (xs : List Stretch). done ++ xs) (sym (none_left rest none)) ∙ sym whole
