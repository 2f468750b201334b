-- The numbers of the members of four bytes, from their bytes.
use Rattle.std.proofs.Common.{◌≡◌, ℕ, ◌+◌, ◌*◌, ◌/◌, ◌<◌, Bool, true, false, cond, List, [], ◌∷◌, ◌++◌, length, take, drop, get_or, map, refl, sym, ap, subst, ◌∙◌, arith, length-append, IsPermutation}
use Rattle.std.specs.Prelude.{◌==◌, All, Contains, nat_eq}
use Rattle.std.specs.Int.{w32, from_le_bytes}
use Rattle.std.specs.List.{dedup}
use Rattle.std.specs.List.Sorted.{IsSorted, IsStrictlyIncreasing}
use Rattle.std.specs.Ordering.{nat_cmp}
use Rattle.std.specs.Simd.{first_chunks}
use Rattle.std.proofs.lemmas.Bool.{eqb-true}
use Rattle.std.proofs.lemmas.List.{take_at, drop_at, map-append, take_more}
use Rattle.std.proofs.lemmas.List.Elements.{All-push}
use Rattle.std.proofs.lemmas.List.Kept.{Contains-dedup_nat, Contains-from_dedup}
use Rattle.std.proofs.lemmas.List.Sorted.{Contains-permutation, IsPermutation-sym}
use Rattle.std.proofs.lemmas.Map.Keys.{IsStrictlyIncreasing-dedup}
use Rattle.std.proofs.lemmas.Nat.{div-mul-add}
use Rattle.sb_model.specs.Prefixes.{concatenation}
use Rattle.list_versions.specs.Numbers.{AreNumbersOf, Tells, numbers_in, quads_in}

quad_bytes : (set : List (List ℕ)) → length (concatenation (quads_in set)) ≡ length (quads_in set) * 4
quad_bytes [] = omega arith
quad_bytes (m ∷ ms) = go (length m == 4) refl (quad_bytes ms)
  where
    go : (b : Bool) → (length m == 4) ≡ b → length (concatenation (quads_in ms)) ≡ length (quads_in ms) * 4
        → length (concatenation (cond b (m ∷ quads_in ms) (quads_in ms))) ≡ length (cond b (m ∷ quads_in ms) (quads_in ms)) * 4
    go true is more = omega (arith, length-append m (concatenation (quads_in ms)), eqb-true (length m) 4 is, more)
    go false is more = more

-- their bytes in pieces are the members again
pub quads_again : (set : List (List ℕ)) → first_chunks 4 (length (concatenation (quads_in set)) / 4) (concatenation (quads_in set)) ≡ quads_in set
quads_again set =
    let sum : length (concatenation (quads_in set)) ≡ length (quads_in set) * 4 + 0 = omega (arith, quad_bytes set) in
    ap (λ n. first_chunks 4 n (concatenation (quads_in set))) (ap (λ n. n / 4) sum ∙ div-mul-add (length (quads_in set)) 4 0 (omega arith)) ∙ joined set
  where
    joined : (ms : List (List ℕ)) → first_chunks 4 (length (quads_in ms)) (concatenation (quads_in ms)) ≡ quads_in ms
    joined [] = refl
    joined (m ∷ ms) = go (length m == 4) refl (joined ms)
      where
        go : (b : Bool) → (length m == 4) ≡ b → first_chunks 4 (length (quads_in ms)) (concatenation (quads_in ms)) ≡ quads_in ms
            → first_chunks 4 (length (cond b (m ∷ quads_in ms) (quads_in ms))) (concatenation (cond b (m ∷ quads_in ms) (quads_in ms))) ≡ cond b (m ∷ quads_in ms) (quads_in ms)
        go true is more =
            let long : length m ≡ 4 = eqb-true (length m) 4 is in
            let first : take 4 (m ++ concatenation (quads_in ms)) ≡ m = take_at m (concatenation (quads_in ms)) 4 long in
            let rest : first_chunks 4 (length (quads_in ms)) (drop 4 (m ++ concatenation (quads_in ms))) ≡ quads_in ms
            = ap (first_chunks 4 (length (quads_in ms))) (drop_at m (concatenation (quads_in ms)) 4 long) ∙ more in
            λ i. first i ∷ rest i
        go false is more = more

-- sorted, and each once
pub in_order : (set : List (List ℕ)) (first sorted last : List ℕ) → All Tells (quads_in set) → first ≡ numbers_in set → IsPermutation first sorted → IsSorted nat_cmp sorted → last ≡ dedup nat_eq sorted
    → AreNumbersOf set last
in_order set first sorted last tell of moved up is = record {
  rising = subst IsStrictlyIncreasing (sym is) (IsStrictlyIncreasing-dedup sorted up);
  same = λ n. (
    λ c. subst (λ (xs : List ℕ). Contains xs n) of (Contains-permutation sorted first n (IsPermutation-sym first sorted moved) (Contains-from_dedup nat_eq sorted n (subst (λ (xs : List ℕ). Contains xs n) is c))),
    λ c. subst (λ (xs : List ℕ). Contains xs n) (sym is) (Contains-dedup_nat sorted n (Contains-permutation first sorted n moved (subst (λ (xs : List ℕ). Contains xs n) (sym of) c))),
  );
  tell = tell;
}

-- one prefix more
pub tells_more : (quads : List (List ℕ)) (i : ℕ) → i < length quads → All Tells (take i quads) → Tells (get_or quads i []) → All Tells (take (i + 1) quads)
tells_more quads i lt h own = subst (All Tells) (sym (take_more quads i [] lt)) (All-push Tells (take i quads) (get_or quads i []) h own)

pub number_more : (quads : List (List ℕ)) (i : ℕ) (old new : List ℕ) (n : ℕ) → i < length quads → old ≡ map (from_le_bytes w32) (take i quads) → n ≡ from_le_bytes w32 (get_or quads i []) → new ≡ old ++ n ∷ []
    → new ≡ map (from_le_bytes w32) (take (i + 1) quads)
number_more quads i old new n lt before own e =
    e ∙ ap (λ ns. ns ++ n ∷ []) before ∙ ap (λ m. map (from_le_bytes w32) (take i quads) ++ m ∷ []) own
    ∙ sym (map-append {B = ℕ} (from_le_bytes w32) (take i quads) (get_or quads i [] ∷ [])) ∙ ap (map (from_le_bytes w32)) (sym (take_more quads i [] lt))
