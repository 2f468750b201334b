-- Members of one size, their bytes and their numbers, in a walk through the members.
use Rattle.std.proofs.Common.{◌≡◌, ℕ, zero, suc, ◌+◌, ◌-◌, ◌*◌, ◌/◌, ◌<◌, ◌≤◌, Bool, true, false, cond, List, [], ◌∷◌, ◌++◌, length, take, drop, map, get_or, set, replicate, refl, sym, ap, ◌∙◌, arith, append-nil, length-append}
use Rattle.std.specs.Prelude.{◌==◌, ◌%◌, ◌||◌, filter}
use Rattle.std.specs.Int.{w32, from_le_bytes}
use Rattle.std.specs.List.{list_any, range_with_len}
use Rattle.std.proofs.lemmas.Bool.{eqb-true, false≢true}
use Rattle.std.proofs.lemmas.Bool.Decides.{Decides-eqb}
use Rattle.std.proofs.Math.Bool.{or-false, or-true}
use Rattle.std.proofs.lemmas.Grind.{get_or-set_at}
use Rattle.std.specs.Simd.{first_chunks}
use Rattle.std.proofs.lemmas.List.{map-append, get_or-set_other, take_at, drop_at}
use Rattle.std.proofs.lemmas.Nat.{div-mul-add}
use Rattle.std.proofs.Math.Nat.{mul-mod_left}
use Rattle.std.proofs.lemmas.List.Concat.{flat_map-append}
use Rattle.std.proofs.lemmas.List.Elements.{filter-append, filter_more}
use Rattle.std.proofs.lemmas.List.Folds.{list_any_more}
use Rattle.sb_model.specs.Prefixes.{concatenation}
use Rattle.update_messages.specs.declared.sets.Additions.{Additions}
use Rattle.update_messages.specs.Answer.{has_size, addition_set}

-- the members of a size among the first so many
abbrev pub of_size : ℕ → List (List ℕ) → ℕ → List (List ℕ)
of_size size members i = filter (has_size size) (take i members)

of_size_more : (size : ℕ) (members : List (List ℕ)) (i : ℕ) (member : List ℕ) → i < length members → member ≡ get_or members i member
    → of_size size members (i + 1) ≡ of_size size members i ++ cond (length member == size) (member ∷ []) []
of_size_more size members i member below is =
    filter_more (has_size size) members i member below
    ∙ ap (λ (m : List ℕ). of_size size members i ++ cond (length m == size) (m ∷ []) []) (sym is)

pub of_size_same : (size : ℕ) (members : List (List ℕ)) (i : ℕ) (member : List ℕ) → i < length members → member ≡ get_or members i member → (length member == size) ≡ false
    → of_size size members (i + 1) ≡ of_size size members i
of_size_same size members i member below is other =
    of_size_more size members i member below is
    ∙ ap (λ b. of_size size members i ++ cond b (member ∷ []) []) other ∙ append-nil (of_size size members i)

pub of_size_one : (size : ℕ) (members : List (List ℕ)) (i : ℕ) (member : List ℕ) → i < length members → member ≡ get_or members i member → (length member == size) ≡ true
    → of_size size members (i + 1) ≡ of_size size members i ++ member ∷ []
of_size_one size members i member below is own =
    of_size_more size members i member below is ∙ ap (λ b. of_size size members i ++ cond b (member ∷ []) []) own

pub bytes_more : (ms : List (List ℕ)) (member : List ℕ) → concatenation (ms ++ member ∷ []) ≡ concatenation ms ++ member
bytes_more ms member = flat_map-append (λ (m : List ℕ). m) ms (member ∷ []) ∙ ap (λ (b : List ℕ). concatenation ms ++ b) (append-nil member)

pub numbers_more : (ms : List (List ℕ)) (member : List ℕ) → map (from_le_bytes w32) (ms ++ member ∷ []) ≡ map (from_le_bytes w32) ms ++ from_le_bytes w32 member ∷ []
numbers_more ms member = map-append (from_le_bytes w32) ms (member ∷ [])

-- ---- the sizes that occur, rising

range_push : (a n : ℕ) → range_with_len a (n + 1) ≡ range_with_len a n ++ (a + n) ∷ []
range_push a zero = ap (λ k. k ∷ []) (omega arith)
range_push a (suc n) =
    ap (range_with_len a) (let same : suc n + 1 ≡ suc (n + 1) = omega arith in same)
    ∙ ap (λ (ns : List ℕ). a ∷ ns) (range_push (a + 1) n)
    ∙ ap (λ k. (a ∷ range_with_len (a + 1) n) ++ k ∷ []) (let same : a + 1 + n ≡ a + suc n = omega arith in same)

-- the sets of the first so many sizes from 4 on
abbrev pub sets_up_to : Bool → List (List ℕ) → ℕ → List Additions
sets_up_to rice members n = map (addition_set rice members) (filter (λ size. list_any (has_size size) members) (range_with_len 4 n))

module _ (rice : Bool) (members : List (List ℕ)) (n size : ℕ) (at : 4 + n ≡ size) where
  sets_more : (b : Bool) → list_any (has_size size) members ≡ b
      → sets_up_to rice members (n + 1) ≡ sets_up_to rice members n ++ map (addition_set rice members) (cond b (size ∷ []) [])
  sets_more b is =
      ap (λ (ns : List ℕ). map (addition_set rice members) (filter (λ k. list_any (has_size k) members) ns)) (range_push 4 n)
      ∙ ap (map (addition_set rice members)) (filter-append (λ k. list_any (has_size k) members) (range_with_len 4 n) ((4 + n) ∷ []))
      ∙ map-append (addition_set rice members) (filter (λ k. list_any (has_size k) members) (range_with_len 4 n)) (filter (λ k. list_any (has_size k) members) ((4 + n) ∷ []))
      ∙ ap (λ k. sets_up_to rice members n ++ map (addition_set rice members) (filter (λ j. list_any (has_size j) members) (k ∷ []))) at
      ∙ ap (λ c. sets_up_to rice members n ++ map (addition_set rice members) (cond c (size ∷ []) [])) is

  pub sets_one : list_any (has_size size) members ≡ true → sets_up_to rice members (n + 1) ≡ sets_up_to rice members n ++ addition_set rice members size ∷ []
  sets_one is = sets_more true is

  pub sets_same : list_any (has_size size) members ≡ false → sets_up_to rice members (n + 1) ≡ sets_up_to rice members n
  sets_same is = sets_more false is ∙ append-nil (sets_up_to rice members n)

pub sets_pushed : (rice : Bool) (members : List (List ℕ)) (size : ℕ) (old new : List Additions) (set : Additions) → 4 ≤ size → list_any (has_size size) members ≡ true
    → old ≡ sets_up_to rice members (size - 4) → set ≡ addition_set rice members size → new ≡ old ++ set ∷ [] → new ≡ sets_up_to rice members (size + 1 - 4)
sets_pushed rice members size old new set low there before is pushed =
    pushed ∙ ap (λ (xs : List Additions). xs ++ set ∷ []) before ∙ ap (λ (x : Additions). sets_up_to rice members (size - 4) ++ x ∷ []) is
    ∙ sym (sets_one rice members (size - 4) size (omega arith) there)
    ∙ ap (sets_up_to rice members) (let next : size - 4 + 1 ≡ size + 1 - 4 = omega arith in next)

pub sets_kept : (rice : Bool) (members : List (List ℕ)) (size : ℕ) (old : List Additions) → 4 ≤ size → list_any (has_size size) members ≡ false
    → old ≡ sets_up_to rice members (size - 4) → old ≡ sets_up_to rice members (size + 1 - 4)
sets_kept rice members size old low none before =
    before ∙ sym (sets_same rice members (size - 4) size (omega arith) none) ∙ ap (sets_up_to rice members) (let next : size - 4 + 1 ≡ size + 1 - 4 = omega arith in next)

-- ---- what a test keeps

pub few_kept : (p : List ℕ → Bool) (ms : List (List ℕ)) → length (filter p ms) ≤ length ms
few_kept p [] = omega arith
few_kept p (m ∷ ms) = go (p m) (few_kept p ms)
  where
    go : (b : Bool) → length (filter p ms) ≤ length ms → length (cond b (m ∷ filter p ms) (filter p ms)) ≤ suc (length ms)
    go true more = omega (arith, more)
    go false more = omega (arith, more)

pub some_kept : (p : List ℕ → Bool) (ms : List (List ℕ)) → list_any p ms ≡ true → 0 < length (filter p ms)
some_kept p [] h = absurd (cc)
some_kept p (m ∷ ms) h = go (p m) h (some_kept p ms)
  where
    go : (b : Bool) → (b || list_any p ms) ≡ true → (list_any p ms ≡ true → 0 < length (filter p ms)) → 0 < length (cond b (m ∷ filter p ms) (filter p ms))
    go true k more = omega arith
    go false k more = more k

-- ---- what the sets of messages keep to

-- how many bytes the members of a size have
length_of_size : (size : ℕ) (ms : List (List ℕ)) → length (concatenation (filter (has_size size) ms)) ≡ length (filter (has_size size) ms) * size
length_of_size size [] = omega arith
length_of_size size (m ∷ ms) = go (length m == size) refl (length_of_size size ms)
  where
    go : (b : Bool) → (length m == size) ≡ b → length (concatenation (filter (has_size size) ms)) ≡ length (filter (has_size size) ms) * size
        → length (concatenation (cond b (m ∷ filter (has_size size) ms) (filter (has_size size) ms))) ≡ length (cond b (m ∷ filter (has_size size) ms) (filter (has_size size) ms)) * size
    go true is more = omega (arith, length-append m (concatenation (filter (has_size size) ms)), eqb-true (length m) size is, more)
    go false is more = more

pub whole_pieces : (size : ℕ) (members : List (List ℕ)) → 4 ≤ size → length (concatenation (filter (has_size size) members)) % size ≡ 0
whole_pieces size members low =
    ap (λ n. n % size) (length_of_size size members) ∙ mul-mod_left (length (filter (has_size size) members)) size

-- their bytes in pieces are the members again
pub chunks_of_size : (size : ℕ) (ms : List (List ℕ)) → 0 < size
    → first_chunks size (length (concatenation (filter (has_size size) ms)) / size) (concatenation (filter (has_size size) ms)) ≡ filter (has_size size) ms
chunks_of_size size ms some =
    let sum : length (concatenation (filter (has_size size) ms)) ≡ length (filter (has_size size) ms) * size + 0 = omega (arith, length_of_size size ms) in
    ap (λ n. first_chunks size n (concatenation (filter (has_size size) ms))) (ap (λ n. n / size) sum ∙ div-mul-add (length (filter (has_size size) ms)) size 0 some)
    ∙ joined ms
  where
    joined : (ms : List (List ℕ)) → first_chunks size (length (filter (has_size size) ms)) (concatenation (filter (has_size size) ms)) ≡ filter (has_size size) ms
    joined [] = refl
    joined (m ∷ ms) = go (length m == size) refl (joined ms)
      where
        go : (b : Bool) → (length m == size) ≡ b → first_chunks size (length (filter (has_size size) ms)) (concatenation (filter (has_size size) ms)) ≡ filter (has_size size) ms
            → first_chunks size (length (cond b (m ∷ filter (has_size size) ms) (filter (has_size size) ms))) (concatenation (cond b (m ∷ filter (has_size size) ms) (filter (has_size size) ms)))
            ≡ cond b (m ∷ filter (has_size size) ms) (filter (has_size size) ms)
        go true is more =
            let long : length m ≡ size = eqb-true (length m) size is in
            let first : take size (m ++ concatenation (filter (has_size size) ms)) ≡ m = take_at m (concatenation (filter (has_size size) ms)) size long in
            let rest : first_chunks size (length (filter (has_size size) ms)) (drop size (m ++ concatenation (filter (has_size size) ms))) ≡ filter (has_size size) ms
            = ap (first_chunks size (length (filter (has_size size) ms))) (drop_at m (concatenation (filter (has_size size) ms)) size long) ∙ more in
            λ i. first i ∷ rest i
        go false is more = more

-- ---- which sizes occur, in a walk through the members

pub none_set : (n size : ℕ) → get_or (replicate n false) size false ≡ false
none_set zero size = refl
none_set (suc n) zero = refl
none_set (suc n) (suc size) = none_set n size

-- the size of one member more is set
pub sizes_more : (sizes : List Bool) (members : List (List ℕ)) (i : ℕ) (member : List ℕ) → i < length members → member ≡ get_or members i member
    → length member < length sizes → ((size : ℕ) → size < 33 → get_or sizes size false ≡ list_any (has_size size) (take i members))
    → (size : ℕ) → size < 33 → get_or (set sizes (length member) true) size false ≡ list_any (has_size size) (take (i + 1) members)
sizes_more sizes members i member below is within before size small =
    go (length member == size) refl
    ∙ sym (list_any_more (has_size size) members i member below ∙ ap (λ (m : List ℕ). list_any (has_size size) (take i members) || has_size size m) (sym is))
  where
    go : (t : Bool) → (length member == size) ≡ t → get_or (set sizes (length member) true) size false ≡ (list_any (has_size size) (take i members) || (length member == size))
    go true same =
        get_or-set_at sizes (length member) size true false (sym (eqb-true (length member) size same)) within
        ∙ sym (ap (λ (t : Bool). list_any (has_size size) (take i members) || t) same ∙ or-true (list_any (has_size size) (take i members)))
    go false other =
        get_or-set_other sizes (length member) size true false (λ e. false≢true (sym other ∙ ap (λ (n : ℕ). length member == n) e ∙ (Decides-eqb (length member) (length member)).1 refl))
        ∙ before size small
        ∙ sym (ap (λ (t : Bool). list_any (has_size size) (take i members) || t) other ∙ or-false (list_any (has_size size) (take i members)))
