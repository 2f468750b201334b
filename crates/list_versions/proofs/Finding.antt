-- Buckets by their first four bytes.
use Rattle.std.proofs.Common.{◌≡◌, ℕ, List, [], Bool, true, false, cond, refl, ap, ◌∙◌, Option, Some}
use Rattle.std.specs.Option.{unwrap_or}
use Rattle.std.specs.Str.{bytes_eq}
use Rattle.std.proofs.lemmas.Slice.Eq.{bytes_eq-Decides}
use Rattle.list_versions.specs.Live.{Buckets, found_in, lines_in}
use Rattle.list_versions.specs.declared.bucket.Standing.{Standing}

pub same_bytes : (a b : List ℕ) → bytes_eq a b ≡ true → a ≡ b
same_bytes a b h = (bytes_eq-Decides a b).0 h

pub bytes_are_same : (a : List ℕ) → bytes_eq a a ≡ true
bytes_are_same a = (bytes_eq-Decides a a).1 refl

-- the bucket that is written
bucket_written : (b : Bool) (old new : Option (List Standing)) (put next : List Standing) → new ≡ cond b (Some put) old → put ≡ next → unwrap_or new [] ≡ cond b next (unwrap_or old [])
bucket_written true old new put next h e = rw (h, e) refl
bucket_written false old new put next h e = rw h refl

-- the map that has a lent bucket back
pub bucket_lent : (after written before : Buckets) (head other : List ℕ) (put next : List Standing)
    → found_in written other ≡ cond (bytes_eq head other) (Some put) (found_in before other) → put ≡ next → after ≡ written
    → lines_in after other ≡ cond (bytes_eq head other) next (lines_in before other)
bucket_lent after written before head other put next h e is =
    ap (λ (map : Buckets). lines_in map other) is
    ∙ bucket_written (bytes_eq head other) (found_in before other) (found_in written other) put next h e
