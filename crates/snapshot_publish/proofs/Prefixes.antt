-- Publications that begin with others.
use Rattle.std.proofs.Common.{◌≡◌, Bool, true, false, ◌≤◌, List, [], ◌∷◌, ◌++◌, length, refl, sym, ap, ◌∙◌, subst, append_assoc, arith, length-append}
use Rattle.std.specs.Prelude.{cond, nat_lt, slice_get, Some}
use Rattle.std.proofs.lemmas.List.{append-nil}
use Rattle.std.proofs.lemmas.Bool.Decides.{nat_tests}
use Rattle.update_client.specs.Held.{Held}
use Rattle.snapshot_publish.specs.Publications.{Publications, publication, IsPrefixOf, IsLastOf}
use Rattle.snapshot_publish.specs.declared.view.View.{View}
use Rattle.snapshot_publish.specs.Rule.{longer, learnt, Agrees}

pub prefix_same : (xs : Publications) → IsPrefixOf xs xs
prefix_same xs = ([], sym (append-nil xs))

pub prefix_none : (xs : Publications) → IsPrefixOf [] xs
prefix_none xs = (xs, refl)

pub prefix_more : (xs ys zs : Publications) → IsPrefixOf xs ys → IsPrefixOf xs (ys ++ zs)
prefix_more xs ys zs p = (p.0 ++ zs, ap (λ (l : Publications). l ++ zs) p.1 ∙ append_assoc xs p.0 zs)

longer_by : (b : Bool) (xs ys zs : Publications) → IsPrefixOf xs zs → IsPrefixOf ys zs → IsPrefixOf (cond b ys xs) zs
longer_by true xs ys zs p q = q
longer_by false xs ys zs p q = p

pub prefix_longer : (xs ys zs : Publications) → IsPrefixOf xs zs → IsPrefixOf ys zs → IsPrefixOf (longer xs ys) zs
prefix_longer xs ys zs p q = longer_by (nat_lt (length xs) (length ys)) xs ys zs p q

get_seam : (xs : Publications) (x : List Held) (ys : Publications) → slice_get (xs ++ x ∷ ys) (length xs) ≡ Some x
get_seam [] x ys = refl
get_seam (y ∷ xs) x ys = get_seam xs x ys

pub last_of_more : (xs : Publications) (x : List Held) → IsLastOf (xs ++ x ∷ []) (publication (length xs) x)
last_of_more xs x = record { number = (let e = length-append xs (x ∷ []) in omega arith); lists = get_seam xs x [] }

-- ---- two that begin one list

shorter_first : (xs ys zs : Publications) → IsPrefixOf xs zs → IsPrefixOf ys zs → length xs ≤ length ys → IsPrefixOf xs ys
shorter_first [] ys zs p q le = prefix_none ys
shorter_first (x ∷ xs) [] zs p q le = absurd (omega arith)
shorter_first (x ∷ xs) (y ∷ ys) zs p q le =
    let e : (y ∷ ys) ++ q.0 ≡ (x ∷ xs) ++ p.0 = sym q.1 ∙ p.1 in
    let heads : y ≡ x = cc in let tails : ys ++ q.0 ≡ xs ++ p.0 = cc in
    let r = shorter_first xs ys (ys ++ q.0) (p.0, tails) (q.0, refl) (omega arith) in
    (r.0, λ i. heads i ∷ r.1 i)

longer_has : (b : Bool) (xs ys zs : Publications) → nat_lt (length xs) (length ys) ≡ b → IsPrefixOf xs zs → IsPrefixOf ys zs → IsPrefixOf xs (cond b ys xs) × IsPrefixOf ys (cond b ys xs)
longer_has true xs ys zs is p q = (shorter_first xs ys zs p q (grind (arith, nat_tests)), prefix_same ys)
longer_has false xs ys zs is p q = (prefix_same xs, shorter_first ys xs zs q p (grind (arith, nat_tests)))

-- the longer of two that begin one list begins with both
pub longer_begins : (xs ys zs : Publications) → IsPrefixOf xs zs → IsPrefixOf ys zs → IsPrefixOf xs (longer xs ys) × IsPrefixOf ys (longer xs ys)
longer_begins xs ys zs p q = longer_has (nat_lt (length xs) (length ys)) xs ys zs refl p q

-- what agrees begins what was learnt of it
pub both_begin : (v w u : View) → u ≡ learnt v w → Agrees u → IsPrefixOf v.list u.list × IsPrefixOf w.list u.list
both_begin v w u is a =
    let b : Agrees (learnt v w) = subst Agrees is a in
    subst (λ (z : View). IsPrefixOf v.list z.list × IsPrefixOf w.list z.list) (sym is)
    (longer_begins v.list w.list b.all (b.beside 0 [] (omega arith)) (b.beside 1 [] (omega arith)))
