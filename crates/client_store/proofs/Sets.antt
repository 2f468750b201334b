-- The set of a list in either format, read and written.
use Rattle.std.proofs.Common.{◌≡◌, ℕ, ◌*◌, ◌/◌, ◌^◌, ◌<◌, ◌≤◌, ◌⊎◌, Bool, true, false, cond, eqb, ltb, List, [], ◌∷◌, ◌++◌, length, All, Option, Some, None, Ok, Err, refl, sym, ap, subst, ◌∙◌, append_assoc, length-append, arith, inl, inr}
use Rattle.std.proofs.Math.Nat.{mul-div_cancel_left}
use Rattle.std.specs.Prelude.{IfSome, ◌||◌}
use Rattle.std.specs.Int.{w32, to_be_bytes}
use Rattle.std.specs.List.{flat_map, AllByRecursion}
use Rattle.std.proofs.lemmas.Bool.{eqb-true, eqb-false, ltb-true, ltb-false, le-ltb}
use Rattle.std.proofs.lemmas.List.Elements.{All-from_recursion, recursion_from_All}
use Rattle.sb_model.specs.History.{IsPrefixSize}
use Rattle.sb_model.specs.Prefixes.{bytes_cmp, concatenation}
use Rattle.prefix_set.specs.Limits.{IsPrefixSet}
use Rattle.prefix_set.specs.declared.set.TheConstants.{MAX_PREFIXES}
use Rattle.client_store.specs.declared.format.Format.{Format}
use Rattle.client_store.specs.declared.format.Format.TheVariants.{OneSize, EachSize}
use Rattle.client_store.specs.Store.{prefix_text, common_size_of, set_text, HasOneSize}
use Rattle.client_store.specs.Reading.{◌>>=◌, byte_at, number_at, is_prefix_size, more_prefixes_at, counted_at, sized_set_at, common_size_at, fits_count, even_set_at, set_at}
use Rattle.client_store.proofs.Parts.{IsBytes, bind_ok, unless_ok, if_ok, ok_is, Takes, joined, byte_takes, four_bytes, number_takes, number_again}
use Rattle.client_store.proofs.Members.{is_size, size_passes, FitsSize, TakesPrefixes, prefixes_take, prefixes_again}
use Rattle.client_store.proofs.Rising.{sorted_nil}

-- ---- the second format

sized-each : (more : List (List ℕ)) → AllByRecursion (λ prefix. FitsSize None (length prefix)) more → All (λ prefix. IsPrefixSize (length prefix)) more
sized-each more sizes = All-from_recursion (λ prefix. IsPrefixSize (length prefix)) more sizes

-- what rising prefixes within the limits make
set_made : (common : Option ℕ) (count : ℕ) (bytes : List ℕ) (set : List (List ℕ)) (rest : List ℕ) → TakesPrefixes common count [] bytes set rest → count ≤ MAX_PREFIXES → All (λ prefix. IsPrefixSize (length prefix)) set → IsPrefixSet set
set_made common count bytes set rest taken few sizes = record {
  rising = taken.rising (sorted_nil bytes_cmp);
  prefixes = sizes;
  count = omega (arith, ap length taken.is, taken.number, few);
  bytes = taken.within (omega arith);
}

pub sized_set_takes : (bytes : List ℕ) (x : List (List ℕ) × List ℕ) → IsBytes bytes → sized_set_at bytes ≡ Ok x → Takes bytes (set_text EachSize x.0) x.1 × IsPrefixSet x.0
unfolding sized_set_at
sized_set_takes bytes x fits e =
    let a = bind_ok (number_at w32 bytes) (λ count. counted_at None bytes count) x e in
    let kept = unless_ok (ltb MAX_PREFIXES a.0.0) (length bytes) (more_prefixes_at None a.0.0 [] a.0.1) x a.2 in
    let first = number_takes w32 (2 ^ 32) four_bytes bytes a.0 fits a.1 in
    let taken = prefixes_take None a.0.0 [] a.0.1 x first.fits kept.1 in
    let few : a.0.0 ≤ MAX_PREFIXES = ltb-false _ _ kept.0 in
    let whole = joined bytes (to_be_bytes w32 a.0.0) a.0.1 (flat_map prefix_text taken.more) x.1 first taken.takes in
    let counted = subst (λ (n : ℕ). Takes bytes (to_be_bytes w32 n ++ flat_map prefix_text taken.more) x.1) (sym taken.number) whole in
    let sizes = subst (λ (s : List (List ℕ)). All (λ prefix. IsPrefixSize (length prefix)) s) (sym taken.is) (sized-each taken.more taken.sizes) in
    (subst (λ (s : List (List ℕ)). Takes bytes (set_text EachSize s) x.1) (sym taken.is) counted, set_made None a.0.0 a.0.1 x.0 x.1 taken few sizes)

few_passes : (set : List (List ℕ)) → IsPrefixSet set → ltb MAX_PREFIXES (length set) ≡ false
few_passes set kept = le-ltb _ _ kept.count

pub sized_set_again : (set : List (List ℕ)) (rest : List ℕ) → IsPrefixSet set → sized_set_at (set_text EachSize set ++ rest) ≡ Ok (set, rest)
unfolding sized_set_at
sized_set_again set rest kept =
    let sizes = recursion_from_All (λ prefix. IsPrefixSize (length prefix)) set kept.prefixes in
    let read = prefixes_again None [] set rest kept.rising kept.bytes sizes sizes in
    ap sized_set_at (append_assoc (to_be_bytes w32 (length set)) (flat_map prefix_text set) rest)
    ∙ rw (number_again w32 (2 ^ 32) four_bytes (length set) (flat_map prefix_text set ++ rest) (omega (arith, kept.count)), few_passes set kept) read

-- ---- the first format

abbrev CommonSize : ℕ → Type 0
CommonSize size = (eqb size 0 || is_prefix_size size) ≡ true

common_size_takes : (bytes : List ℕ) (x : ℕ × List ℕ) → IsBytes bytes → common_size_at bytes ≡ Ok x → Takes bytes (x.0 ∷ []) x.1 × CommonSize x.0
unfolding common_size_at
common_size_takes bytes x fits e =
    let a = bind_ok (byte_at bytes) (λ size. cond (eqb size.0 0 || is_prefix_size size.0) (Ok size) (Err (length bytes))) x e in
    let kept = if_ok (eqb a.0.0 0 || is_prefix_size a.0.0) (length bytes) (Ok a.0) x a.2 in
    subst (λ (y : ℕ × List ℕ). Takes bytes (y.0 ∷ []) y.1 × CommonSize y.0) (ok_is a.0 x kept.1) (byte_takes bytes a.0 fits a.1, kept.0)

-- a size that is not 0 is that of a prefix
own_size : (size : ℕ) → CommonSize size → 0 < size → IsPrefixSize size
own_size size h some = go (eqb size 0) refl h
  where
    go : (b : Bool) → eqb size 0 ≡ b → (b || is_prefix_size size) ≡ true → IsPrefixSize size
    go true none sized = absurd (omega (arith, eqb-true _ _ none, some))
    go false own sized = is_size size sized

-- the size and the number are 0, or neither is
fits_cases : (size count : ℕ) → fits_count size count ≡ true → ((size ≡ 0) × (count ≡ 0)) ⊎ ((0 < size) × (0 < count))
fits_cases size count h = go (eqb size 0) refl h
  where
    some : (n : ℕ) → eqb n 0 ≡ false → 0 < n
    some n h = grind (arith, eqb-false n 0 h)

    go : (b : Bool) → eqb size 0 ≡ b → cond b (eqb count 0) (ltb 0 count) ≡ true → ((size ≡ 0) × (count ≡ 0)) ⊎ ((0 < size) × (0 < count))
    go true none fits = inl (eqb-true _ _ none, eqb-true _ _ fits)
    go false own fits = inr (some size own, ltb-true _ _ fits)

-- where the size fits the number of prefixes, all of which have it, it is that of the set
size_is : (size : ℕ) (set : List (List ℕ)) → fits_count size (length set) ≡ true → AllByRecursion (λ prefix. length prefix ≡ size) set → common_size_of set ≡ size
size_is size [] fits sizes =
    elim (fits_cases size 0 fits) [ inl none ↦ sym none.0 | inr some ↦ absurd (omega (arith, some.1)) ]
size_is size (prefix ∷ set) fits sizes = sizes.0

all_sized : (size : ℕ) (set : List (List ℕ)) → CommonSize size → fits_count size (length set) ≡ true → AllByRecursion (λ prefix. length prefix ≡ size) set → AllByRecursion (λ prefix. IsPrefixSize (length prefix)) set
all_sized size set common fits sizes = go size set (λ some. own_size size common some) fits sizes
  where
    each : (s : ℕ) (xs : List (List ℕ)) → IsPrefixSize s → AllByRecursion (λ prefix. length prefix ≡ s) xs → AllByRecursion (λ prefix. IsPrefixSize (length prefix)) xs
    each s [] sized h = tt
    each s (x ∷ xs) sized h = (subst IsPrefixSize (sym h.0) sized, each s xs sized h.1)

    go : (s : ℕ) (xs : List (List ℕ)) → (0 < s → IsPrefixSize s) → fits_count s (length xs) ≡ true → AllByRecursion (λ prefix. length prefix ≡ s) xs → AllByRecursion (λ prefix. IsPrefixSize (length prefix)) xs
    go s [] sized fit h = tt
    go s (x ∷ xs) sized fit h =
        elim (fits_cases s (length (x ∷ xs)) fit) [ inl none ↦ absurd (omega (arith, none.1)) | inr some ↦ each s (x ∷ xs) (sized some.0) h ]

pub even_set_takes : (bytes : List ℕ) (x : List (List ℕ) × List ℕ) → IsBytes bytes → even_set_at bytes ≡ Ok x → Takes bytes (set_text OneSize x.0) x.1 × IsPrefixSet x.0 × HasOneSize x.0
unfolding even_set_at
even_set_takes bytes x fits e =
    let a = bind_ok (common_size_at bytes) (λ size. number_at w32 size.1 >>= λ count. cond (fits_count size.0 count.0) (counted_at (Some size.0) size.1 count) (Err (length bytes))) x e in
    let b = bind_ok (number_at w32 a.0.1) (λ count. cond (fits_count a.0.0 count.0) (counted_at (Some a.0.0) a.0.1 count) (Err (length bytes))) x a.2 in
    let fitting = if_ok (fits_count a.0.0 b.0.0) (length bytes) (counted_at (Some a.0.0) a.0.1 b.0) x b.2 in
    let kept = unless_ok (ltb MAX_PREFIXES b.0.0) (length a.0.1) (more_prefixes_at (Some a.0.0) b.0.0 [] b.0.1) x fitting.1 in
    let first = common_size_takes bytes a.0 fits a.1 in
    let second = number_takes w32 (2 ^ 32) four_bytes a.0.1 b.0 first.0.fits b.1 in
    let taken = prefixes_take (Some a.0.0) b.0.0 [] b.0.1 x second.fits kept.1 in
    let few : b.0.0 ≤ MAX_PREFIXES = ltb-false _ _ kept.0 in
    let fitted : fits_count a.0.0 (length taken.more) ≡ true = subst (λ (n : ℕ). fits_count a.0.0 n ≡ true) (sym taken.number) fitting.0 in
    let one : common_size_of taken.more ≡ a.0.0 = size_is a.0.0 taken.more fitted taken.sizes in
    let each : All (λ prefix. length prefix ≡ a.0.0) taken.more = All-from_recursion (λ prefix. length prefix ≡ a.0.0) taken.more taken.sizes in
    let sizes = All-from_recursion (λ prefix. IsPrefixSize (length prefix)) taken.more (all_sized a.0.0 taken.more first.1 fitted taken.sizes) in
    let tail = joined a.0.1 (to_be_bytes w32 b.0.0) b.0.1 (concatenation taken.more) x.1 second taken.takes in
    let whole = joined bytes (a.0.0 ∷ []) a.0.1 (to_be_bytes w32 b.0.0 ++ concatenation taken.more) x.1 first.0 tail in
    let counted = subst (λ (n : ℕ). Takes bytes (a.0.0 ∷ to_be_bytes w32 n ++ concatenation taken.more) x.1) (sym taken.number) whole in
    let sized = subst (λ (n : ℕ). Takes bytes (n ∷ to_be_bytes w32 (length taken.more) ++ concatenation taken.more) x.1 × All (λ prefix. length prefix ≡ n) taken.more) (sym one) (counted, each) in
    let set = subst (λ (s : List (List ℕ)). Takes bytes (set_text OneSize s) x.1 × HasOneSize s × All (λ prefix. IsPrefixSize (length prefix)) s) (sym taken.is) (sized.0, sized.1, sizes) in
    (set.0, set_made (Some a.0.0) b.0.0 b.0.1 x.0 x.1 taken few set.2, set.1)

or_right : (a b : Bool) → b ≡ true → (a || b) ≡ true
or_right true b h = refl
or_right false b h = h

common_passes : (set : List (List ℕ)) → AllByRecursion (λ prefix. IsPrefixSize (length prefix)) set → CommonSize (common_size_of set)
common_passes [] sizes = refl
common_passes (prefix ∷ set) sizes = or_right (eqb (length prefix) 0) (is_prefix_size (length prefix)) (size_passes (length prefix) sizes.0)

count_fits : (set : List (List ℕ)) → AllByRecursion (λ prefix. IsPrefixSize (length prefix)) set → fits_count (common_size_of set) (length set) ≡ true
count_fits [] sizes = refl
count_fits ([] ∷ set) sizes = absurd (omega (arith, sizes.0.low))
count_fits ((byte ∷ prefix) ∷ set) sizes = grind arith

common_size_again : (size : ℕ) (rest : List ℕ) → CommonSize size → common_size_at (size ∷ rest) ≡ Ok (size, rest)
unfolding common_size_at
common_size_again size rest common = rw common refl

pub even_set_again : (set : List (List ℕ)) (rest : List ℕ) → IsPrefixSet set → HasOneSize set → even_set_at (set_text OneSize set ++ rest) ≡ Ok (set, rest)
unfolding even_set_at
even_set_again set rest kept one =
    let sizes = recursion_from_All (λ prefix. IsPrefixSize (length prefix)) set kept.prefixes in
    let read = prefixes_again (Some (common_size_of set)) [] set rest kept.rising kept.bytes (recursion_from_All (λ prefix. length prefix ≡ common_size_of set) set one) sizes in
    let after : List ℕ = to_be_bytes w32 (length set) ++ (concatenation set ++ rest) in
    let regrouped : set_text OneSize set ++ rest ≡ common_size_of set ∷ after = ap (λ (t : List ℕ). common_size_of set ∷ t) (append_assoc (to_be_bytes w32 (length set)) (concatenation set) rest) in
    ap even_set_at regrouped
    ∙ rw (common_size_again (common_size_of set) after (common_passes set sizes), number_again w32 (2 ^ 32) four_bytes (length set) (concatenation set ++ rest) (omega (arith, kept.count)), count_fits set sizes, few_passes set kept) read

-- ---- either format

-- in the first format a set has one size
abbrev pub SetSuits : Format → List (List ℕ) → Type 0
SetSuits OneSize set = HasOneSize set
SetSuits EachSize set = Unit {0}

pub set_takes : (format : Format) (bytes : List ℕ) (x : List (List ℕ) × List ℕ) → IsBytes bytes → set_at format bytes ≡ Ok x → Takes bytes (set_text format x.0) x.1 × IsPrefixSet x.0 × SetSuits format x.0
set_takes OneSize bytes x fits e = even_set_takes bytes x fits e
set_takes EachSize bytes x fits e = let taken = sized_set_takes bytes x fits e in (taken.0, taken.1, tt)

pub set_again : (format : Format) (set : List (List ℕ)) (rest : List ℕ) → IsPrefixSet set → SetSuits format set → set_at format (set_text format set ++ rest) ≡ Ok (set, rest)
set_again OneSize set rest kept suits = even_set_again set rest kept suits
set_again EachSize set rest kept suits = sized_set_again set rest kept

-- ---- for the code

fitted_sizes : (common : Option ℕ) (set : List (List ℕ)) → IfSome common IsPrefixSize → AllByRecursion (λ prefix. FitsSize common (length prefix)) set → AllByRecursion (λ prefix. IsPrefixSize (length prefix)) set
fitted_sizes (Some size) [] sized fits = tt
fitted_sizes (Some size) (prefix ∷ set) sized fits = (subst IsPrefixSize (sym fits.0) sized, fitted_sizes (Some size) set sized fits.1)
fitted_sizes None set sized fits = fits

pub prefixes_are_kept : (common : Option ℕ) (count : ℕ) (bytes : List ℕ) (set : List (List ℕ)) (rest : List ℕ) → IsBytes bytes → IfSome common IsPrefixSize → count ≤ MAX_PREFIXES
    → more_prefixes_at common count [] bytes ≡ Ok (set, rest) → IsPrefixSet set
prefixes_are_kept common count bytes set rest fits sized few read =
    let taken = prefixes_take common count [] bytes (set, rest) fits read in
    let sizes = All-from_recursion (λ prefix. IsPrefixSize (length prefix)) taken.more (fitted_sizes common taken.more sized taken.sizes) in
    set_made common count bytes set rest taken few (subst (λ (s : List (List ℕ)). All (λ prefix. IsPrefixSize (length prefix)) s) (sym taken.is) sizes)

-- how many bytes prefixes of one size have
length_sized : (size : ℕ) (set : List (List ℕ)) → AllByRecursion (λ prefix. length prefix ≡ size) set → length (concatenation set) ≡ size * length set
length_sized size [] each = omega arith
length_sized size (prefix ∷ set) each = omega (arith, length-append prefix (concatenation set), each.0, length_sized size set each.1)

same_count : (size a b : ℕ) → 0 < size → size * a ≡ size * b → a ≡ b
same_count size a b some same = sym (mul-div_cancel_left a some) ∙ ap (λ (n : ℕ). n / size) same ∙ mul-div_cancel_left b some

-- what the first bytes are as a set is what is read of them one by one
pub read_at_once : (size count : ℕ) (set : List (List ℕ)) (bytes whole rest : List ℕ) → IsPrefixSize size → IsPrefixSet set → All (λ prefix. length prefix ≡ size) set
    → concatenation set ≡ whole → length whole ≡ size * count → bytes ≡ whole ++ rest → (count ≤ MAX_PREFIXES) × (more_prefixes_at (Some size) count [] bytes ≡ Ok (set, rest))
read_at_once size count set bytes whole rest four kept even set_is long is =
    let each = recursion_from_All (λ prefix. length prefix ≡ size) set even in
    let sizes = recursion_from_All (λ prefix. IsPrefixSize (length prefix)) set kept.prefixes in
    let total : size * length set ≡ size * count = sym (length_sized size set each) ∙ ap length set_is ∙ long in
    let number : length set ≡ count = same_count size (length set) count (omega (arith, four.low)) total in
    let read = prefixes_again (Some size) [] set rest kept.rising kept.bytes each sizes in (
      subst (λ (n : ℕ). n ≤ MAX_PREFIXES) number kept.count,
      ap (λ (n : ℕ). more_prefixes_at (Some size) n [] bytes) (sym number)
          ∙ ap (more_prefixes_at (Some size) (length set) []) (is ∙ ap (λ (text : List ℕ). text ++ rest) (sym set_is))
          ∙ read,
    )
