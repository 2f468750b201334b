-- A set has no more members than the list that it is made of.
use Rattle.std.proofs.Common.{ℕ, suc, ◌≤◌, List, [], ◌∷◌, length, arith}
use Rattle.std.specs.declared.cmp.Ordering.{Ordering}
use Rattle.std.specs.declared.cmp.Ordering.TheVariants.{Less, Equal, Greater}
use Rattle.std.specs.Ordering.{match_ordering}
use Rattle.sb_model.specs.Prefixes.{bytes_cmp, set_of, with_member}

by_order : (order : Ordering) (x y : List ℕ) (ys rest : List (List ℕ)) → length rest ≤ suc (length ys)
    → length (match_ordering order (x ∷ y ∷ ys) (y ∷ ys) (y ∷ rest)) ≤ suc (suc (length ys))
by_order Less x y ys rest few = omega (arith)
by_order Equal x y ys rest few = omega (arith)
by_order Greater x y ys rest few = omega (arith, few)

one_more : (x : List ℕ) (xs : List (List ℕ)) → length (with_member x xs) ≤ suc (length xs)
one_more x [] = omega (arith)
one_more x (y ∷ ys) = by_order (bytes_cmp x y) x y ys (with_member x ys) (one_more x ys)

pub no_more : (xs : List (List ℕ)) → length (set_of xs) ≤ length xs
no_more [] = omega (arith)
no_more (x ∷ xs) = let rest = no_more xs in let one = one_more x (set_of xs) in omega (arith, rest, one)
