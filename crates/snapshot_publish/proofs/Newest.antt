-- The newest publications with their numbers.
use Rattle.std.proofs.Common.{◌≡◌, ℕ, zero, suc, ◌+◌, ◌-◌, ◌<◌, ◌≤◌, List, [], ◌∷◌, ◌++◌, length, drop, refl, sym, ap, ◌∙◌, arith, length-append, length-drop}
use Rattle.std.specs.Prelude.{Option, Some, None, IfSome, slice_get, slice_index_or, option_map}
use Rattle.std.proofs.lemmas.Option.{slice_get-get_or}
use denote.Ref.{Bor}
use Rattle.update_client.specs.Held.{Held}
use Rattle.snapshot_publish.specs.Publications.{Publications, Publication, publication, most_kept, IsPublicationKept, IsLastOf, numbered_from, kept_end}

length_numbered : (n : ℕ) (xs : Publications) → length (numbered_from n xs) ≡ length xs
length_numbered n [] = refl
length_numbered n (x ∷ xs) = ap suc (length_numbered (suc n) xs)

get_numbered : (n : ℕ) (xs : Publications) (i : ℕ) → slice_get (numbered_from n xs) i ≡ option_map (publication (n + i)) (slice_get xs i)
get_numbered n [] i = refl
get_numbered n (x ∷ xs) zero = let e : n ≡ n + 0 = omega arith in ap (λ (m : ℕ). Some (publication m x)) e
get_numbered n (x ∷ xs) (suc i) = let e : suc n + i ≡ n + suc i = omega arith in get_numbered (suc n) xs i ∙ ap (λ (m : ℕ). option_map (publication m) (slice_get xs i)) e

get_drop : (k i : ℕ) (xs : List Publication) → slice_get (drop k xs) i ≡ slice_get xs (k + i)
get_drop zero i xs = let e : i ≡ 0 + i = omega arith in ap (slice_get xs) e
get_drop (suc k) i [] = refl
get_drop (suc k) i (x ∷ xs) = let e : suc (k + i) ≡ suc k + i = omega arith in get_drop k i xs ∙ ap (slice_get (x ∷ xs)) e

from_map : (o : Option (List Held)) (n : ℕ) (p : Publication) → option_map (publication n) o ≡ Some p → (p.number ≡ n) × (o ≡ Some p.lists)
from_map (Some lists) n p e = let same : publication n lists ≡ p = cc in (ap (λ (q : Publication). q.number) (sym same), ap (λ (q : Publication). Some q.lists) same)
from_map None n p e = absurd cc

pub length_kept : (all : Publications) → length (kept_end all) ≡ length all - (length all - most_kept)
length_kept all = let a = length-drop (length all - most_kept) (numbered_from 0 all) in let b = length_numbered 0 all in cc

-- what is kept at a place
pub kept_at : (all : Publications) (i number : ℕ) (p : Publication) → (length all - most_kept) + i ≡ number → slice_get (kept_end all) i ≡ Some p → (p.number ≡ number) × (slice_get all number ≡ Some p.lists)
kept_at all i number p is got =
    let k : ℕ = length all - most_kept in
    let zero_more : number ≡ 0 + number = omega arith in
    let there : option_map (publication number) (slice_get all number) ≡ Some p =
    ap (λ (m : ℕ). option_map (publication m) (slice_get all number)) zero_more ∙ (sym (get_numbered 0 all number) ∙ (ap (slice_get (numbered_from 0 all)) (sym is) ∙ (sym (get_drop k i (numbered_from 0 all)) ∙ got))) in
    from_map (slice_get all number) number p there

numbered_more : (n : ℕ) (xs : Publications) (x : List Held) → numbered_from n (xs ++ x ∷ []) ≡ numbered_from n xs ++ publication (n + length xs) x ∷ []
numbered_more n [] x = let e : n ≡ n + 0 = omega arith in ap (λ (m : ℕ). publication m x ∷ []) e
numbered_more n (y ∷ xs) x =
    let e : suc n + length xs ≡ n + suc (length xs) = omega arith in
    ap (λ (l : List Publication). publication n y ∷ l) (numbered_more (suc n) xs x ∙ ap (λ (m : ℕ). numbered_from (suc n) xs ++ publication m x ∷ []) e)

drop_nothing : (a : ℕ) → drop {A = Publication} a [] ≡ []
drop_nothing zero = refl
drop_nothing (suc a) = refl

drop_drop : (a b : ℕ) (xs : List Publication) → drop a (drop b xs) ≡ drop (b + a) xs
drop_drop a zero xs = let e : a ≡ 0 + a = omega arith in ap (λ (n : ℕ). drop n xs) e
drop_drop a (suc b) [] = drop_nothing a ∙ sym (drop_nothing (suc b + a))
drop_drop a (suc b) (x ∷ xs) = let e : suc (b + a) ≡ suc b + a = omega arith in drop_drop a b xs ∙ ap (λ (n : ℕ). drop n (x ∷ xs)) e

drop_front : (k : ℕ) (xs ys : List Publication) → k ≤ length xs → drop k xs ++ ys ≡ drop k (xs ++ ys)
drop_front zero xs ys le = refl
drop_front (suc k) [] ys le = absurd (omega arith)
drop_front (suc k) (x ∷ xs) ys le = drop_front k xs ys (omega arith)

-- one more is kept, and the oldest goes where there are too many
pub kept_more : (all : Publications) (lists : List Held) → drop (length (kept_end all ++ publication (length all) lists ∷ []) - most_kept) (kept_end all ++ publication (length all) lists ∷ []) ≡ kept_end (all ++ lists ∷ [])
kept_more all lists =
    let n : ℕ = length all in
    let N : List Publication = numbered_from 0 all in
    let p : Publication = publication n lists in
    let k : ℕ = n - most_kept in
    let more : numbered_from 0 (all ++ lists ∷ []) ≡ N ++ p ∷ [] = (let e : 0 + length all ≡ length all = omega arith in numbered_more 0 all lists ∙ ap (λ (m : ℕ). N ++ publication m lists ∷ []) e) in
    let front : kept_end all ++ p ∷ [] ≡ drop k (N ++ p ∷ []) = drop_front k N (p ∷ []) (let e = length_numbered 0 all in omega arith) in
    let long : length (kept_end all ++ p ∷ []) ≡ n - k + 1 = (let a = length_kept all in let b = length-append (kept_end all) (p ∷ []) in omega arith) in
    let m : ℕ = n - k + 1 - most_kept in
    let whole : length (all ++ lists ∷ []) ≡ n + 1 = (let a = length-append all (lists ∷ []) in omega arith) in
    let sum : k + m ≡ n + 1 - most_kept = omega arith in
    ap (λ (c : ℕ). drop (c - most_kept) (kept_end all ++ p ∷ [])) long
    ∙ (ap (drop m) front
    ∙ (drop_drop m k (N ++ p ∷ [])
    ∙ (ap (λ (c : ℕ). drop c (N ++ p ∷ [])) sum
    ∙ (ap (λ (c : ℕ). drop (c - most_kept) (N ++ p ∷ [])) (sym whole)
    ∙ ap (drop (length (all ++ lists ∷ []) - most_kept)) (sym more)))))

-- ---- where a publication of a number is kept

pub too_old : (all : Publications) (kept : List Publication) (last number later : ℕ) → suc last ≡ length all → kept ≡ kept_end all → later + number ≡ last → length kept ≤ later → IsPublicationKept all number → ⊥
too_old all kept last number later count is sum far k = let a = length_kept all in let b : length kept ≡ length (kept_end all) = ap length is in let m = k.made in let n = k.newest in omega arith

pub not_made : (all : Publications) (last number : ℕ) → suc last ≡ length all → last < number → IsPublicationKept all number → ⊥
not_made all last number count far k = let m = k.made in omega arith

pub is_kept : (all : Publications) (kept : List Publication) (last number later : ℕ) → suc last ≡ length all → kept ≡ kept_end all → later + number ≡ last → later < length kept → IsPublicationKept all number
is_kept all kept last number later count is sum near = let a = length_kept all in let b : length kept ≡ length (kept_end all) = ap length is in record { made = omega arith; newest = omega arith }

pub is_there : (all : Publications) (kept : List Publication) (last number later i : ℕ) → suc last ≡ length all → kept ≡ kept_end all → later + number ≡ last → later < length kept → i ≡ length kept - 1 - later
    → (r : Option (Bor Publication)) → IfSome r (λ x. x.now ≡ slice_index_or kept i x.now)
    → IfSome r (λ x. (x.now.number ≡ number) × (slice_get all number ≡ Some x.now.lists))
is_there all kept last number later i count is sum near at None h = tt
is_there all kept last number later i count is sum near at (Some x) h =
    let a = length_kept all in let b : length kept ≡ length (kept_end all) = ap length is in
    let within : i < length kept = omega arith in
    let place : (length all - most_kept) + i ≡ number = omega arith in
    let got : slice_get kept i ≡ Some x.now = slice_get-get_or kept i x.now within ∙ ap (λ (p : Publication). Some p) (sym h) in
    kept_at all i number x.now place (ap (λ (l : List Publication). slice_get l i) (sym is) ∙ got)

number_of : (number : ℕ) (all : Publications) (r : Option (Bor Publication)) → IfSome r (λ x. (x.now.number ≡ number) × (slice_get all number ≡ Some x.now.lists)) → IfSome r (λ x. x.now.number ≡ number)
number_of number all None h = tt
number_of number all (Some x) h = h.0

lists_of : (number : ℕ) (all : Publications) (r : Option (Bor Publication)) → IfSome r (λ x. (x.now.number ≡ number) × (slice_get all number ≡ Some x.now.lists)) → IfSome r (λ x. slice_get all number ≡ Some x.now.lists)
lists_of number all None h = tt
lists_of number all (Some x) h = h.1

pub number_there : (all : Publications) (kept : List Publication) (last number later i : ℕ) → suc last ≡ length all → kept ≡ kept_end all → later + number ≡ last → later < length kept → i ≡ length kept - 1 - later
    → (r : Option (Bor Publication)) → IfSome r (λ x. x.now ≡ slice_index_or kept i x.now) → IfSome r (λ x. x.now.number ≡ number)
number_there all kept last number later i count is sum near at r h = number_of number all r (is_there all kept last number later i count is sum near at r h)

pub lists_there : (all : Publications) (kept : List Publication) (last number later i : ℕ) → suc last ≡ length all → kept ≡ kept_end all → later + number ≡ last → later < length kept → i ≡ length kept - 1 - later
    → (r : Option (Bor Publication)) → IfSome r (λ x. x.now ≡ slice_index_or kept i x.now) → IfSome r (λ x. slice_get all number ≡ Some x.now.lists)
lists_there all kept last number later i count is sum near at r h = lists_of number all r (is_there all kept last number later i count is sum near at r h)

-- the last that is kept is the last of all
pub last_kept : (all : Publications) (kept : List Publication) (last : ℕ) (p : Publication) → suc last ≡ length all → kept ≡ kept_end all → p ≡ slice_index_or kept (length kept - 1) p → IsLastOf all p
last_kept all kept last p count is at =
    let a = length_kept all in let b : length kept ≡ length (kept_end all) = ap length is in
    let i : ℕ = length kept - 1 in
    let within : i < length kept = omega arith in
    let place : (length all - most_kept) + i ≡ last = omega arith in
    let got : slice_get kept i ≡ Some p = slice_get-get_or kept i p within ∙ ap (λ (q : Publication). Some q) (sym at) in
    let there = kept_at all i last p place (ap (λ (l : List Publication). slice_get l i) (sym is) ∙ got) in
    record { number = ap suc there.0 ∙ count; lists = ap (slice_get all) there.0 ∙ there.1 }
