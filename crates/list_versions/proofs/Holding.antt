-- What is held where a bucket takes the place of another.
use Rattle.std.proofs.Common.{◌≡◌, ℕ, ◌+◌, ◌^◌, ◌<◌, ◌≤◌, List, [], ◌∷◌, ◌++◌, Bool, true, false, not, cond, length, take, refl, sym, ap, subst, ◌∙◌, arith, length-append}
use Rattle.std.specs.List.{filter}
use Rattle.std.specs.Str.{bytes_eq}
use Rattle.std.specs.Prelude.{All, fold, OnOk, Result, Ok, Err}
use Rattle.std.proofs.lemmas.Grind.{common_steps}
use Rattle.std.proofs.lemmas.List.{length-map, map-append}
use Rattle.std.proofs.lemmas.List.Elements.{All-filter, All-push}
use Rattle.std.proofs.lemmas.List.Filters.{length-filter_both}
use Rattle.sb_model.specs.declared.history.Added.{Added}
use Rattle.sb_model.specs.History.{without_hash, with_added}
use Rattle.list_versions.specs.Limits.{prefix_bytes, has_head}
use Rattle.list_versions.specs.Buckets.{added_of, without, with_line}
use Rattle.list_versions.specs.Live.{IsPublishable, Holds, Replaces, lines_in, bucket_in}
use Rattle.list_versions.specs.declared.bucket.Standing.{Standing}
use Rattle.list_versions.specs.declared.live.Live.{Live}
use Rattle.list_versions.proofs.Finding.{same_bytes, bytes_are_same}
use Rattle.list_versions.proofs.PrefixBytes.{prefix_bytes-le}
use Rattle.list_versions.proofs.Splitting.{lacks_head, length-split, prefix_bytes-split, without-other, without-same, without-lacking, with-other, with-same, with-lacking}

pub length-filter-le : (p : Added → Bool) (entries : List Added) → length (filter p entries) ≤ length entries
length-filter-le p entries = omega (arith, length-filter_both p (λ entry. not (p entry)) (λ _. refl) entries)

cond_same : (b : Bool) (next bucket : List Added) → b ≡ true → cond b next bucket ≡ next
cond_same true next bucket h = refl
cond_same false next bucket h = absurd (cc)

buckets_at : (b : Bool) (next before after bucket : List Added) → bucket ≡ cond b next before → (b ≡ true → next ≡ after) → (b ≡ false → before ≡ after) → bucket ≡ after
buckets_at true next before after bucket h here there = h ∙ here refl
buckets_at false next before after bucket h here there = h ∙ there refl

alike_at : (b : Bool) (next before after : List Standing) (m n : ℕ) → after ≡ cond b next before → length before ≤ m → m ≤ n → length next ≤ n → length after ≤ n
alike_at true next before after m n h was more now = omega (arith, ap length h, now)
alike_at false next before after m n h was more now = omega (arith, ap length h, was, more)

-- The full hashes change in one bucket alone.
pub record ChangesBucket (entries after next : List Added) (head : List ℕ) : Type 0 where
  pub here : next ≡ filter (has_head head) after
  pub elsewhere : (other : List ℕ) → bytes_eq head other ≡ false → filter (has_head other) entries ≡ filter (has_head other) after
  pub lacking : filter (lacks_head head) after ≡ filter (lacks_head head) entries
  pub sizes : All IsPublishable after
  pub small : length after < 2 ^ 50

-- ---- full hashes of lines

added_step : (hash : List ℕ) (line : Standing) (xs : List Standing) (ys : List Added) (b : Bool) → bytes_eq line.added.hash hash ≡ b → added_of xs ≡ ys
    → added_of (cond (not b) (line ∷ xs) xs) ≡ cond (not b) (line.added ∷ ys) ys
added_step hash line xs ys true e more = more
added_step hash line xs ys false e more = ap (λ (es : List Added). line.added ∷ es) more

pub added_of-without : (lines : List Standing) (hash : List ℕ) → added_of (without lines hash) ≡ without_hash (added_of lines) hash
added_of-without [] hash = refl
added_of-without (line ∷ lines) hash = added_step hash line (without lines hash) (without_hash (added_of lines) hash) (bytes_eq line.added.hash hash) refl (added_of-without lines hash)

pub added_of-with : (lines : List Standing) (line : Standing) → added_of (with_line lines line) ≡ with_added (added_of lines) line.added
added_of-with lines line = map-append {B = Added} (λ (l : Standing). l.added) (without lines line.added.hash) (line ∷ []) ∙ ap (λ (es : List Added). es ++ line.added ∷ []) (added_of-without lines line.added.hash)

pub length-added_of : (lines : List Standing) → length (added_of lines) ≡ length lines
length-added_of lines = length-map {B = Added} lines (λ (l : Standing). l.added)

-- the ends are no part of what is held
pub holds_ends : (before after : Live) (entries : List Added) → after ≡ record before { ends = after.ends } → Holds before entries → Holds after entries
holds_ends before after entries same h =
    subst (λ (live : Live). Holds live entries) (sym same) (record { buckets = h.buckets; count = h.count; bytes = h.bytes; sizes = h.sizes; alike = h.alike })

added_at : (b : Bool) (next before after : List Standing) → after ≡ cond b next before → added_of after ≡ cond b (added_of next) (added_of before)
added_at true next before after h = ap added_of h
added_at false next before after h = ap added_of h

pub holds_replaced : (before after : Live) (entries more : List Added) (next : List Standing) (head : List ℕ) → length entries < 2 ^ 50 → Holds before entries → Replaces before after head next → ChangesBucket entries more (added_of next) head → Holds after more
holds_replaced before after entries more next head small holds replaces changes =
    let old : bucket_in before.buckets.entries head ≡ filter (has_head head) entries = holds.buckets head in
    let count_old = length-split head entries in
    let count_new : length (added_of next) + length (filter (lacks_head head) more) ≡ length more = rw changes.here (length-split head more) in
    let lacking : length (filter (lacks_head head) more) ≡ length (filter (lacks_head head) entries) = ap length changes.lacking in
    let bytes_old = prefix_bytes-split head entries holds.sizes in
    let bytes_new : prefix_bytes (added_of next) + prefix_bytes (filter (lacks_head head) more) ≡ prefix_bytes more = rw changes.here (prefix_bytes-split head more changes.sizes) in
    let bytes_lacking : prefix_bytes (filter (lacks_head head) more) ≡ prefix_bytes (filter (lacks_head head) entries) = ap prefix_bytes changes.lacking in
    let bound_old = prefix_bytes-le entries holds.sizes in
    let bound_new = prefix_bytes-le more changes.sizes in
    let length_old : length (lines_in before.buckets.entries head) ≡ length (filter (has_head head) entries) = sym (length-added_of (lines_in before.buckets.entries head)) ∙ ap length old in
    let length_new = length-added_of next in
    let bytes_bucket : prefix_bytes (bucket_in before.buckets.entries head) ≡ prefix_bytes (filter (has_head head) entries) = ap prefix_bytes old in
    let holds_count : before.count ≡ length entries = holds.count in
    let holds_bytes : before.bytes ≡ prefix_bytes entries = holds.bytes in
    let new_small : length more < 2 ^ 50 = changes.small in
    let count_is = replaces.count (omega arith) (omega arith) in
    let bytes_is = replaces.bytes (omega arith) (omega arith) in
    record {
      buckets = λ other. buckets_at (bytes_eq head other) (added_of next) (bucket_in before.buckets.entries other) (filter (has_head other) more) (bucket_in after.buckets.entries other)
          (added_at (bytes_eq head other) next (lines_in before.buckets.entries other) (lines_in after.buckets.entries other) (replaces.buckets other))
          (λ e. changes.here ∙ ap (λ h. filter (has_head h) more) (same_bytes head other e))
          (λ e. holds.buckets other ∙ changes.elsewhere other e);
      count = omega arith;
      bytes = omega arith;
      sizes = changes.sizes;
      alike = λ other. alike_at (bytes_eq head other) next (lines_in before.buckets.entries other) (lines_in after.buckets.entries other) before.most after.most
          (replaces.buckets other) (holds.alike other) replaces.most replaces.alike;
    }

-- a hash that is taken out
pub changes_without : (entries next : List Added) (hash head : List ℕ) → head ≡ take 4 hash → length entries < 2 ^ 40 → All IsPublishable entries → next ≡ without_hash (filter (has_head head) entries) hash → ChangesBucket entries (without_hash entries hash) next head
changes_without entries next hash head h small sizes is = record {
  here = is ∙ sym (without-same head hash entries);
  elsewhere = λ other e. sym (without-other other hash entries (ap (λ f. bytes_eq f other) (sym h) ∙ e));
  lacking = without-lacking head hash entries (ap (λ f. bytes_eq f head) (sym h) ∙ bytes_are_same head);
  sizes = All-filter (λ entry. not (bytes_eq entry.hash hash)) IsPublishable entries sizes;
  small = omega (arith, length-filter-le (λ entry. not (bytes_eq entry.hash hash)) entries);
}

pub length-with_added : (entries : List Added) (added : Added) → length (with_added entries added) ≤ length entries + 1
length-with_added entries added = omega (arith, length-append (without_hash entries added.hash) (added ∷ []), length-filter-le (λ entry. not (bytes_eq entry.hash added.hash)) entries)

-- a hash that is put in
pub changes_with : (entries next : List Added) (added : Added) (head : List ℕ) → head ≡ take 4 added.hash → length entries < 2 ^ 40 → All IsPublishable entries → IsPublishable added → next ≡ with_added (filter (has_head head) entries) added → ChangesBucket entries (with_added entries added) next head
changes_with entries next added head h small sizes own is = record {
  here = is ∙ sym (with-same head added entries (ap (λ f. bytes_eq f head) (sym h) ∙ bytes_are_same head));
  elsewhere = λ other e. sym (with-other other added entries (ap (λ f. bytes_eq f other) (sym h) ∙ e));
  lacking = with-lacking head added entries (ap (λ f. bytes_eq f head) (sym h) ∙ bytes_are_same head);
  sizes = All-push IsPublishable (without_hash entries added.hash) added (All-filter (λ entry. not (bytes_eq entry.hash added.hash)) IsPublishable entries sizes) own;
  small = omega (arith, length-with_added entries added);
}

pub mapped_ok : {T E : Type 0} (P Q : Type 0) (r : Result T E) → (P → Q) → OnOk r P → OnOk r Q
mapped_ok P Q (Ok x) f h = f h
mapped_ok P Q (Err e) f h = tt

length-take-all : (n : ℕ) (xs : List ℕ) → length (take n xs) ≤ length xs
length-take-all n xs = grind (arith, common_steps)

pub publishable : (added : Added) → 4 ≤ added.size → length added.hash ≡ 32 → IsPublishable added
publishable added low whole = record { low = low; short = omega (arith, whole, length-take-all added.size added.hash) }

pub length-fold_added : (adds entries : List Added) → length (fold with_added entries adds) ≤ length entries + length adds
length-fold_added [] entries = omega arith
length-fold_added (added ∷ adds) entries = omega (arith, length-with_added entries added, length-fold_added adds (with_added entries added))

pub length-fold_removed : (removes : List (List ℕ)) (entries : List Added) → length (fold without_hash entries removes) ≤ length entries
length-fold_removed [] entries = omega arith
length-fold_removed (hash ∷ removes) entries = omega (arith, length-filter-le (λ entry. not (bytes_eq entry.hash hash)) entries, length-fold_removed removes (without_hash entries hash))
