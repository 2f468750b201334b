-- The full hashes that are kept, and the prefixes that are published of them.
use Rattle.std.proofs.Common.{◌≡◌, ℕ, ◌<◌, ◌≤◌, min, max, List, [], ◌∷◌, length, take, map, refl, sym, ap, subst, ◌∙◌, arith, Bool, true, false, Option, Some, None, nat_lt}
use Rattle.std.specs.Prelude.{All, Contains, filter, slice_get, ◌↔◌}
use Rattle.std.specs.Cmp.Lexicographic.{nat_list_eq_equiv}
use Rattle.std.specs.List.{IsDistinct}
use Rattle.std.specs.Str.{bytes_eq}
use Rattle.std.specs.Map.{keys_of, values_of}
use Rattle.std.specs.Option.{unwrap_or}
use Rattle.std.proofs.lemmas.Bool.Decides.{nat_tests}
use Rattle.std.proofs.lemmas.List.{take_all, length-take}
use Rattle.std.proofs.lemmas.List.Elements.{All-contains, All-head, All-tail}
use Rattle.std.proofs.lemmas.Map.Entries.{place_from_lookup, lookup_from_place}
use Rattle.sb_model.specs.declared.history.Added.{Added}
use Rattle.sb_model.specs.History.{prefix_of}
use Rattle.list_versions.specs.Limits.{has_head}
use Rattle.list_versions.specs.Buckets.{added_of}
use Rattle.list_versions.specs.Live.{Buckets, found_in, lines_in, IsPublishable, Holds, shown, in_buckets}
use Rattle.list_versions.specs.declared.bucket.Standing.{Standing}
use Rattle.list_versions.specs.declared.live.Live.{Live}
use Rattle.list_versions.proofs.Finding.{bytes_are_same}
use Rattle.list_versions.proofs.Membership.{In, contains_in, in_contained, place_of, in_place, in_flat_map, from_flat_map, in_map, from_map, in_filter, from_filter}

shown_at : (entry : Added) → IsPublishable entry → (b : Bool) → nat_lt 32 entry.size ≡ b → take (min (max entry.size 4) 32) entry.hash ≡ take entry.size entry.hash
shown_at entry h true e =
    let size : 32 < entry.size = grind (arith, nat_tests) in
    let long : length (take entry.size entry.hash) ≤ 32 = h.short in
    let whole : length entry.hash ≤ 32 = omega (arith, length-take entry.size entry.hash) in
    let m : 32 ≤ min (max entry.size 4) 32 = omega arith in
    take_all (min (max entry.size 4) 32) entry.hash (omega arith) ∙ sym (take_all entry.size entry.hash (omega arith))
shown_at entry h false e =
    let size : entry.size ≤ 32 = grind (arith, nat_tests) in
    let low : 4 ≤ entry.size = h.low in
    let is : min (max entry.size 4) 32 ≡ entry.size = omega arith in
    ap (λ n. take n entry.hash) is

pub shown_is : (entry : Added) → IsPublishable entry → shown entry ≡ prefix_of entry
shown_is entry h = shown_at entry h (nat_lt 32 entry.size) refl

pub all_shown : (entries : List Added) → All IsPublishable entries → map shown entries ≡ map prefix_of entries
all_shown [] h = refl
all_shown (entry ∷ entries) h =
    ap (λ (p : List ℕ). p ∷ map shown entries) (shown_is entry (All-head IsPublishable entry entries h)) ∙ ap (λ ps. prefix_of entry ∷ ps) (all_shown entries (All-tail IsPublishable entry entries h))

-- a bucket of the map
bucket_at : (buckets : Buckets) (head : List ℕ) (bucket : List Standing) (i : ℕ) → IsDistinct bytes_eq (keys_of buckets) → slice_get buckets i ≡ Some (head, bucket) → lines_in buckets head ≡ bucket
bucket_at buckets head bucket i unique h =
    ap (λ found. unwrap_or found [])
    (lookup_from_place nat_list_eq_equiv buckets i head bucket unique h)

pub kept_in : (live : Live) (entries : List Added) → Holds live entries → IsDistinct bytes_eq (keys_of live.buckets.entries) → (entry : Added) → In entry (in_buckets (values_of live.buckets.entries)) → In entry entries
kept_in live entries h unique entry there =
    let bucket = from_flat_map added_of entry (values_of live.buckets.entries) there in
    let pair = from_map (λ (e : List ℕ × List Standing). e.1) bucket.item live.buckets.entries bucket.there in
    let place = place_of pair.item live.buckets.entries pair.there in
    let is = bucket_at live.buckets.entries pair.item.0 pair.item.1 place.0 unique place.1 in
    let found : In entry (filter (has_head pair.item.0) entries) = subst (λ es. In entry es) (ap added_of (sym pair.holds ∙ sym is) ∙ h.buckets pair.item.0) bucket.holds in
    (from_filter (has_head pair.item.0) entry entries found).0

found_at : (buckets : Buckets) (head : List ℕ) (entry : Added) (found : Option (List Standing)) → found_in buckets head ≡ found → In entry (added_of (unwrap_or found [])) → In entry (in_buckets (values_of buckets))
found_at buckets head entry None e there = absurd there
found_at buckets head entry (Some bucket) e there =
    let place = place_from_lookup (bytes_eq head) buckets bucket e in
    in_flat_map added_of entry bucket (values_of buckets)
    (in_map (λ (e : List ℕ × List Standing). e.1) (place.1, bucket) buckets (in_place (place.1, bucket) buckets place.0 place.2)) there

pub held_in : (live : Live) (entries : List Added) → Holds live entries → (entry : Added) → In entry entries → In entry (in_buckets (values_of live.buckets.entries))
held_in live entries h entry there =
    let head = take 4 entry.hash in
    found_at live.buckets.entries head entry (found_in live.buckets.entries head) refl
    (subst (λ es. In entry es) (sym (h.buckets head)) (in_filter (has_head head) entry entries (bytes_are_same head) there))

-- the same prefixes
pub same_prefixes : (live : Live) (entries : List Added) → Holds live entries → IsDistinct bytes_eq (keys_of live.buckets.entries) → (x : List ℕ)
    → Contains (map shown (in_buckets (values_of live.buckets.entries))) x ↔ Contains (map prefix_of entries) x
same_prefixes live entries h unique x = (there, back)
  where
    there : Contains (map shown (in_buckets (values_of live.buckets.entries))) x → Contains (map prefix_of entries) x
    there c =
        let from = from_map shown x (in_buckets (values_of live.buckets.entries)) (in_contained x _ c) in
        let kept = kept_in live entries h unique from.item from.there in
        let is = shown_is from.item (All-contains IsPublishable entries from.item h.sizes (contains_in from.item entries kept)) in
        contains_in x _ (subst (λ y. In y (map prefix_of entries)) (sym is ∙ from.holds) (in_map prefix_of from.item entries kept))

    back : Contains (map prefix_of entries) x → Contains (map shown (in_buckets (values_of live.buckets.entries))) x
    back c =
        let from = from_map prefix_of x entries (in_contained x _ c) in
        let held = held_in live entries h from.item from.there in
        let is = shown_is from.item (All-contains IsPublishable entries from.item h.sizes (contains_in from.item entries from.there)) in
        contains_in x _ (subst (λ y. In y (map shown (in_buckets (values_of live.buckets.entries)))) (is ∙ from.holds) (in_map shown from.item _ held))
