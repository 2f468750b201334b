-- A full hash among those of a list stands in the bucket of its first four bytes.
use Rattle.std.proofs.Common.{◌≡◌, ℕ, ◌||◌, Bool, true, false, cond, List, [], ◌∷◌, take, map, refl, ap, ◌∙◌, subst}
use Rattle.std.specs.List.{list_any, filter}
use Rattle.std.specs.Str.{bytes_eq}
use Rattle.sb_model.specs.declared.history.Added.{Added}
use Rattle.list_versions.specs.Buckets.{added_of}
use Rattle.list_versions.specs.Limits.{has_head}
use Rattle.list_versions.specs.Live.{Holds, lines_in}
use Rattle.list_versions.specs.declared.bucket.Standing.{Standing}
use Rattle.list_versions.specs.declared.live.Live.{Live}
use Rattle.list_versions.proofs.Finding.{same_bytes, bytes_are_same}

by_lines : (hash : List ℕ) (lines : List Standing) → list_any (λ (line : Standing). bytes_eq hash line.added.hash) lines ≡ list_any (bytes_eq hash) (map (λ (entry : Added). entry.hash) (added_of lines))
by_lines hash [] = refl
by_lines hash (line ∷ lines) = ap (λ (b : Bool). bytes_eq hash line.added.hash || b) (by_lines hash lines)

in_bucket : (hash : List ℕ) (entry : Added) (entries : List Added) (b c : Bool) → has_head (take 4 hash) entry ≡ b → bytes_eq hash entry.hash ≡ c
    → list_any (bytes_eq hash) (map (λ (e : Added). e.hash) (filter (has_head (take 4 hash)) entries)) ≡ list_any (bytes_eq hash) (map (λ (e : Added). e.hash) entries)
    → list_any (bytes_eq hash) (map (λ (e : Added). e.hash) (cond b (entry ∷ filter (has_head (take 4 hash)) entries) (filter (has_head (take 4 hash)) entries)))
    ≡ (c || list_any (bytes_eq hash) (map (λ (e : Added). e.hash) entries))
in_bucket hash entry entries true c head is more = rw is (ap (λ (b : Bool). c || b) more)
in_bucket hash entry entries false true head is more =
    let yes : has_head (take 4 hash) entry ≡ true = subst (λ (bs : List ℕ). bytes_eq (take 4 bs) (take 4 hash) ≡ true) (same_bytes hash entry.hash is) (bytes_are_same (take 4 hash)) in
    absurd (cc)
in_bucket hash entry entries false false head is more = more

by_bucket : (hash : List ℕ) (entries : List Added)
    → list_any (bytes_eq hash) (map (λ (e : Added). e.hash) (filter (has_head (take 4 hash)) entries)) ≡ list_any (bytes_eq hash) (map (λ (e : Added). e.hash) entries)
by_bucket hash [] = refl
by_bucket hash (entry ∷ entries) = in_bucket hash entry entries (has_head (take 4 hash) entry) (bytes_eq hash entry.hash) refl refl (by_bucket hash entries)

pub found_in_bucket : (live : Live) (hash : List ℕ) (entries : List Added) → Holds live entries
    → list_any (λ (line : Standing). bytes_eq hash line.added.hash) (lines_in live.buckets.entries (take 4 hash)) ≡ list_any (bytes_eq hash) (map (λ (entry : Added). entry.hash) entries)
found_in_bucket live hash entries h =
    by_lines hash (lines_in live.buckets.entries (take 4 hash)) ∙ ap (λ (es : List Added). list_any (bytes_eq hash) (map (λ (e : Added). e.hash) es)) (h.buckets (take 4 hash)) ∙ by_bucket hash entries
