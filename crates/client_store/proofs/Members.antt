-- The prefixes of a list, read and written.
use Rattle.std.proofs.Common.{◌≡◌, ℕ, zero, suc, ◌+◌, ◌≤◌, Bool, true, false, ◌&&◌, cond, leb, List, [], ◌∷◌, ◌++◌, length, Option, Some, None, Ok, Err, refl, sym, ap, subst, ◌∙◌, append_assoc, append-nil, arith}
use Rattle.std.specs.declared.cmp.Ordering.{Ordering}
use Rattle.std.specs.declared.cmp.Ordering.TheVariants.{Less, Equal, Greater}
use Rattle.std.specs.Ordering.{is_lt}
use Rattle.std.specs.List.{flat_map, AllByRecursion}
use Rattle.std.proofs.lemmas.Bool.{leb-true, le-leb}
use Rattle.std.proofs.lemmas.List.{length-append}
use Rattle.std.proofs.lemmas.List.Concat.{flat_map-append, flat_map-cons}
use Rattle.sb_model.specs.History.{IsPrefixSize}
use Rattle.sb_model.specs.Prefixes.{bytes_cmp, IsRising, concatenation}
use Rattle.prefix_set.specs.declared.set.TheConstants.{MAX_BYTES}
use Rattle.client_store.specs.Reading.{◌>>=◌, byte_at, bytes_at, is_prefix_size, last_of, may_follow, size_at, prefix_at, more_prefixes_at}
use Rattle.client_store.proofs.Parts.{IsBytes, bind_ok, if_ok, ok_is, Takes, joined, byte_takes, bytes_take, bytes_again}
use Rattle.client_store.proofs.Rising.{sorted_push, before_next, all_before, last_before, bytes-push}

-- ---- tests

pub first_true : (a b : Bool) → (a && b) ≡ true → a ≡ true
first_true true b h = refl
first_true false b h = h

pub second_true : (a b : Bool) → (a && b) ≡ true → b ≡ true
second_true true b h = h
second_true false b h = absurd cc

pub both_true : (a b : Bool) → a ≡ true → b ≡ true → (a && b) ≡ true
both_true a b h k = rw (h, k) refl

pub less_from_true : (o : Ordering) → is_lt o ≡ true → o ≡ Less
less_from_true Less h = refl
less_from_true Equal h = absurd cc
less_from_true Greater h = absurd cc

pub is_size : (size : ℕ) → is_prefix_size size ≡ true → IsPrefixSize size
is_size size h = record { low = leb-true _ _ (first_true (leb 4 size) (leb size 32) h); high = leb-true _ _ (second_true (leb 4 size) (leb size 32) h) }

pub size_passes : (size : ℕ) → IsPrefixSize size → is_prefix_size size ≡ true
size_passes size h = both_true (leb 4 size) (leb size 32) (le-leb _ _ h.low) (le-leb _ _ h.high)

-- ---- sizes

-- a size as it stands before its prefix: nowhere, where all have the same one
abbrev pub size_text : Option ℕ → ℕ → List ℕ
size_text (Some common) size = []
size_text None size = size ∷ []

abbrev pub FitsSize : Option ℕ → ℕ → Type 0
FitsSize (Some common) size = size ≡ common
FitsSize None size = IsPrefixSize size

size_takes : (common : Option ℕ) (bytes : List ℕ) (x : ℕ × List ℕ) → IsBytes bytes → size_at common bytes ≡ Ok x → Takes bytes (size_text common x.0) x.1 × FitsSize common x.0
unfolding size_at
size_takes (Some common) bytes x fits e =
    subst (λ (y : ℕ × List ℕ). Takes bytes [] y.1 × (y.0 ≡ common)) (ok_is (common, bytes) x e) (record { parts = refl; fits = fits }, refl)
size_takes None bytes x fits e =
    let a = bind_ok (byte_at bytes) (λ size. cond (is_prefix_size size.0) (Ok size) (Err (length bytes))) x e in
    let kept = if_ok (is_prefix_size a.0.0) (length bytes) (Ok a.0) x a.2 in
    subst (λ (y : ℕ × List ℕ). Takes bytes (y.0 ∷ []) y.1 × IsPrefixSize y.0) (ok_is a.0 x kept.1) (byte_takes bytes a.0 fits a.1, is_size a.0.0 kept.0)

size_again : (common : Option ℕ) (size : ℕ) (rest : List ℕ) → FitsSize common size → size_at common (size_text common size ++ rest) ≡ Ok (size, rest)
unfolding size_at
size_again (Some common) size rest fits = ap (λ (n : ℕ). Ok (n, rest)) (sym fits)
size_again None size rest fits = rw (size_passes size fits) refl

-- ---- one prefix

abbrev pub sized_text : Option ℕ → List ℕ → List ℕ
sized_text common prefix = size_text common (length prefix) ++ prefix

prefix_takes : (common : Option ℕ) (set : List (List ℕ)) (bytes : List ℕ) (x : List ℕ × List ℕ) → IsBytes bytes → prefix_at common set bytes ≡ Ok x
    → Takes bytes (sized_text common x.0) x.1 × FitsSize common (length x.0) × (may_follow set x.0 ≡ true)
unfolding prefix_at
prefix_takes common set bytes x fits e =
    let a = bind_ok (size_at common bytes) (λ size. bytes_at size.0 size.1 >>= λ prefix. cond (may_follow set prefix.0) (Ok prefix) (Err (length size.1))) x e in
    let b = bind_ok (bytes_at a.0.0 a.0.1) (λ prefix. cond (may_follow set prefix.0) (Ok prefix) (Err (length a.0.1))) x a.2 in
    let kept = if_ok (may_follow set b.0.0) (length a.0.1) (Ok b.0) x b.2 in
    let first = size_takes common bytes a.0 fits a.1 in
    let second = bytes_take a.0.0 a.0.1 b.0 first.0.fits b.1 in
    let whole = joined bytes (size_text common a.0.0) a.0.1 b.0.0 b.0.1 first.0 second.0 in
    let sized = subst (λ (n : ℕ). Takes bytes (size_text common n ++ b.0.0) b.0.1 × FitsSize common n) (sym second.1) (whole, first.1) in
    subst (λ (y : List ℕ × List ℕ). Takes bytes (sized_text common y.0) y.1 × FitsSize common (length y.0) × (may_follow set y.0 ≡ true)) (ok_is b.0 x kept.1)
    (sized.0, sized.1, kept.0)

prefix_again : (common : Option ℕ) (set : List (List ℕ)) (prefix rest : List ℕ) → FitsSize common (length prefix) → may_follow set prefix ≡ true
    → prefix_at common set (sized_text common prefix ++ rest) ≡ Ok (prefix, rest)
unfolding prefix_at
prefix_again common set prefix rest fits follows =
    ap (prefix_at common set) (append_assoc (size_text common (length prefix)) prefix rest)
    ∙ rw (size_again common (length prefix) (prefix ++ rest) fits, bytes_again prefix rest (length prefix) refl, follows) refl

-- ---- several prefixes

follows_last : (set : List (List ℕ)) (prefix : List ℕ) → may_follow set prefix ≡ true → bytes_cmp (last_of set) prefix ≡ Less
follows_last set prefix h = less_from_true _ (first_true (is_lt (bytes_cmp (last_of set) prefix)) (leb (length (concatenation set) + length prefix) MAX_BYTES) h)

pub has_room : (set : List (List ℕ)) (prefix : List ℕ) → may_follow set prefix ≡ true → length (concatenation set) + length prefix ≤ MAX_BYTES
has_room set prefix h = leb-true _ _ (second_true (is_lt (bytes_cmp (last_of set) prefix)) (leb (length (concatenation set) + length prefix) MAX_BYTES) h)

-- what so many prefixes take from the front of a string
pub record TakesPrefixes (common : Option ℕ) (count : ℕ) (set : List (List ℕ)) (bytes : List ℕ) (after : List (List ℕ)) (rest : List ℕ) : Type 0 where
  pub more : List (List ℕ)
  pub is : after ≡ set ++ more
  pub number : length more ≡ count
  pub takes : Takes bytes (flat_map (sized_text common) more) rest
  pub sizes : AllByRecursion (λ prefix. FitsSize common (length prefix)) more
  pub rising : IsRising set → IsRising after
  pub within : length (concatenation set) ≤ MAX_BYTES → length (concatenation after) ≤ MAX_BYTES

pub prefixes_take : (common : Option ℕ) (count : ℕ) (set : List (List ℕ)) (bytes : List ℕ) (x : List (List ℕ) × List ℕ) → IsBytes bytes → more_prefixes_at common count set bytes ≡ Ok x
    → TakesPrefixes common count set bytes x.0 x.1
unfolding more_prefixes_at
prefixes_take common zero set bytes x fits e =
    subst (λ (y : List (List ℕ) × List ℕ). TakesPrefixes common zero set bytes y.0 y.1) (ok_is (set, bytes) x e)
    (record { more = []; is = sym (append-nil set); number = refl; takes = record { parts = refl; fits = fits }; sizes = tt; rising = λ h. h; within = λ h. h })
prefixes_take common (suc count) set bytes x fits e =
    let a = bind_ok (prefix_at common set bytes) (λ prefix. more_prefixes_at common count (set ++ prefix.0 ∷ []) prefix.1) x e in
    let first = prefix_takes common set bytes a.0 fits a.1 in
    let others = prefixes_take common count (set ++ a.0.0 ∷ []) a.0.1 x first.0.fits a.2 in
    record {
      more = a.0.0 ∷ others.more;
      is = others.is ∙ append_assoc set (a.0.0 ∷ []) others.more;
      number = ap suc others.number;
      takes = rw flat_map-cons (joined bytes (sized_text common a.0.0) a.0.1 (flat_map (sized_text common) others.more) x.1 first.0 others.takes);
      sizes = (first.1, others.sizes);
      rising = λ up. others.rising (sorted_push bytes_cmp set a.0.0 (all_before set a.0.0 up (follows_last set a.0.0 first.2)) up);
      within = λ _. others.within (omega (arith, bytes-push set a.0.0, has_room set a.0.0 first.2));
    }

-- the next of rising prefixes may follow those in front of it
next_follows : (set : List (List ℕ)) (prefix : List ℕ) (more : List (List ℕ)) → IsRising (set ++ prefix ∷ more) → length (concatenation (set ++ prefix ∷ [])) ≤ MAX_BYTES → 4 ≤ length prefix → may_follow set prefix ≡ true
next_follows set prefix more rising within long =
    let less : bytes_cmp (last_of set) prefix ≡ Less = last_before set prefix (omega (arith, long)) (before_next bytes_cmp set prefix more rising) in
    both_true (is_lt (bytes_cmp (last_of set) prefix)) (leb (length (concatenation set) + length prefix) MAX_BYTES) (ap is_lt less) (le-leb _ _ (omega (arith, bytes-push set prefix, within)))

-- the bytes of the first prefixes are no more than those of all
bytes-front : (set more : List (List ℕ)) → length (concatenation set) ≤ length (concatenation (set ++ more))
bytes-front set more =
    omega (arith, ap length (flat_map-append (λ (member : List ℕ). member) set more), length-append (concatenation set) (concatenation more))

pub prefixes_again : (common : Option ℕ) (set more : List (List ℕ)) (rest : List ℕ) → IsRising (set ++ more) → length (concatenation (set ++ more)) ≤ MAX_BYTES
    → AllByRecursion (λ prefix. FitsSize common (length prefix)) more → AllByRecursion (λ prefix. IsPrefixSize (length prefix)) more
    → more_prefixes_at common (length more) set (flat_map (sized_text common) more ++ rest) ≡ Ok (set ++ more, rest)
unfolding more_prefixes_at
prefixes_again common set [] rest rising within fits sizes = ap (λ (s : List (List ℕ)). Ok (s, rest)) (sym (append-nil set))
prefixes_again common set (prefix ∷ more) rest rising within fits sizes =
    let grouped : (set ++ prefix ∷ []) ++ more ≡ set ++ prefix ∷ more = append_assoc set (prefix ∷ []) more in
    let room : length (concatenation (set ++ prefix ∷ [])) ≤ MAX_BYTES = omega (arith, bytes-front (set ++ prefix ∷ []) more, ap (λ (s : List (List ℕ)). length (concatenation s)) grouped, within) in
    let follows = next_follows set prefix more rising room sizes.0.low in
    let regrouped : flat_map (sized_text common) (prefix ∷ more) ++ rest ≡ sized_text common prefix ++ (flat_map (sized_text common) more ++ rest) =
    ap (λ (t : List ℕ). t ++ rest) (flat_map-cons (sized_text common) prefix more) ∙ append_assoc (sized_text common prefix) (flat_map (sized_text common) more) rest
    in
    ap (more_prefixes_at common (suc (length more)) set) regrouped
    ∙ rw (prefix_again common set prefix (flat_map (sized_text common) more ++ rest) fits.0 follows) (prefixes_again common (set ++ prefix ∷ []) more rest (subst IsRising (sym grouped) rising) (subst (λ (s : List (List ℕ)). length (concatenation s) ≤ MAX_BYTES) (sym grouped) within) fits.1 sizes.1
    ∙ ap (λ (s : List (List ℕ)). Ok (s, rest)) grouped)
