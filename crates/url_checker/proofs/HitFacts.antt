-- The hits of one hash on one list, size by size.
use Rattle.std.proofs.Common.{◌≡◌, ℕ, zero, suc, ◌+◌, ◌-◌, ◌<◌, ◌≤◌, Bool, true, false, cond, List, [], ◌∷◌, ◌++◌, take, map, refl, sym, ap, ◌∙◌, subst, arith, append-nil, append_assoc}
use Rattle.std.specs.Prelude.{filter, length, slice_index_or, IsTrue, ◌↔◌, Contains}
use Rattle.std.specs.List.{range_with_len}
use Rattle.std.specs.Cmp.Lexicographic.{nat_list_eq_equiv}
use Rattle.std.proofs.lemmas.Bool.{false≢true}
use Rattle.std.proofs.lemmas.List.{map-append, length-take-le}
use Rattle.sb_model.specs.declared.names.ListName.{ListName}
use Rattle.std.proofs.lemmas.List.Elements.{filter-append}
use Rattle.std.proofs.lemmas.Map.Views.{Contains-from_any, list_any-from_Contains}
use Rattle.std.proofs.lemmas.Slice.Eq.{bytes_eq-Decides}
use Rattle.hash_prefixes.specs.declared.hashes.FullHash.{FullHash}
use Rattle.update_client.specs.Held.{Held}
use Rattle.url_checker.specs.declared.findings.Hit.{Hit}
use Rattle.url_checker.specs.Hits.{has_front, hit_of, hits_at, Marks, IsPastMarks}

range_push : (a n : ℕ) → range_with_len a (n + 1) ≡ range_with_len a n ++ (a + n) ∷ []
range_push a zero = ap (λ k. k ∷ []) (omega arith)
range_push a (suc n) =
    ap (range_with_len a) (let same : suc n + 1 ≡ suc (n + 1) = omega arith in same)
    ∙ ap (λ (ns : List ℕ). a ∷ ns) (range_push (a + 1) n)
    ∙ ap (λ k. (a ∷ range_with_len (a + 1) n) ++ k ∷ []) (let same : a + 1 + n ≡ a + suc n = omega arith in same)

hits_at_both : (held : Held) (hash : FullHash) (sizes more : List ℕ) → hits_at held hash (sizes ++ more) ≡ hits_at held hash sizes ++ hits_at held hash more
hits_at_both held hash sizes more =
    ap (map (hit_of held.name hash)) (filter-append (has_front held.set hash) sizes more)
    ∙ map-append (hit_of held.name hash) (filter (has_front held.set hash) sizes) (filter (has_front held.set hash) more)

-- the sizes from 4 on that are below another
abbrev pub sizes_below : ℕ → List ℕ
sizes_below size = range_with_len 4 (size - 4)

sizes_more : (size : ℕ) → 4 ≤ size → sizes_below (size + 1) ≡ sizes_below size ++ size ∷ []
sizes_more size low =
    ap (range_with_len 4) (let same : size + 1 - 4 ≡ (size - 4) + 1 = omega arith in same)
    ∙ range_push 4 (size - 4)
    ∙ ap (λ k. range_with_len 4 (size - 4) ++ k ∷ []) (let same : 4 + (size - 4) ≡ size = omega arith in same)

-- one size more
pub hits_pushed : (held : Held) (hash : FullHash) (size : ℕ) (first old new : List Hit) → 4 ≤ size → old ≡ first ++ hits_at held hash (sizes_below size)
    → new ≡ old ++ hits_at held hash (size ∷ []) → new ≡ first ++ hits_at held hash (sizes_below (size + 1))
hits_pushed held hash size first old new low before pushed =
    pushed
    ∙ ap (λ (hits : List Hit). hits ++ hits_at held hash (size ∷ [])) before
    ∙ append_assoc first (hits_at held hash (sizes_below size)) (hits_at held hash (size ∷ []))
    ∙ ap (λ (hits : List Hit). first ++ hits) (sym (ap (hits_at held hash) (sizes_more size low) ∙ hits_at_both held hash (sizes_below size) (size ∷ [])))

-- ---- one size

there : (set : List (List ℕ)) (hash : FullHash) (size : ℕ) → Contains set (take size hash.bytes) → has_front set hash size ≡ true
there set hash size h = list_any-from_Contains nat_list_eq_equiv (take size hash.bytes) set h

found : (set : List (List ℕ)) (hash : FullHash) (size : ℕ) → has_front set hash size ≡ true → Contains set (take size hash.bytes)
found set hash size h = Contains-from_any (λ x y same. (bytes_eq-Decides x y).0 same) (take size hash.bytes) set h

pub one_there : (held : Held) (hash : FullHash) (size : ℕ) → Contains held.set (take size hash.bytes) → hits_at held hash (size ∷ []) ≡ hit_of held.name hash size ∷ []
one_there held hash size h = ap (λ b. map (hit_of held.name hash) (cond b (size ∷ []) [])) (there held.set hash size h)

pub none_there : (held : Held) (hash : FullHash) (size : ℕ) → (Contains held.set (take size hash.bytes) → ⊥) → hits_at held hash (size ∷ []) ≡ []
none_there held hash size h = go (has_front held.set hash size) refl
  where
    go : (b : Bool) → has_front held.set hash size ≡ b → map (hit_of held.name hash) (cond b (size ∷ []) []) ≡ []
    go true is = absurd (h (found held.set hash size is))
    go false is = refl

-- ---- one size is looked up

abbrev pub hit_with : ListName → List ℕ → FullHash → Hit
hit_with list prefix hash = record { list = list; prefix = prefix; hash = hash }

has_it : (held : Held) (hash : FullHash) (size : ℕ) (set : List (List ℕ)) (prefix : List ℕ) → set ≡ held.set → prefix ≡ take size hash.bytes
    → Contains set prefix → Contains held.set (take size hash.bytes)
has_it held hash size set prefix own front h =
    subst (λ (p : List ℕ). Contains held.set p) front (subst (λ (s : List (List ℕ)). Contains s prefix) own h)

has_it_still : (held : Held) (hash : FullHash) (size : ℕ) (set : List (List ℕ)) (prefix : List ℕ) → set ≡ held.set → prefix ≡ take size hash.bytes
    → Contains held.set (take size hash.bytes) → Contains set prefix
has_it_still held hash size set prefix own front h =
    subst (λ (p : List ℕ). Contains set p) (sym front) (subst (λ (s : List (List ℕ)). Contains s (take size hash.bytes)) (sym own) h)

pub none_pushed : (held : Held) (hash : FullHash) (size : ℕ) (set : List (List ℕ)) (prefix : List ℕ) (b : Bool) (old : List Hit) → set ≡ held.set → prefix ≡ take size hash.bytes
    → (IsTrue b ↔ Contains set prefix) → b ≡ false → old ≡ old ++ hits_at held hash (size ∷ [])
none_pushed held hash size set prefix b old own front says not_there =
    sym (ap (λ (hits : List Hit). old ++ hits) (none_there held hash size (λ h. false≢true (sym not_there ∙ says.1 (has_it_still held hash size set prefix own front h))))
    ∙ append-nil old)

pub one_pushed : (held : Held) (hash : FullHash) (size : ℕ) (set : List (List ℕ)) (prefix : List ℕ) (b : Bool) (list : ListName) (old new : List Hit) → set ≡ held.set → prefix ≡ take size hash.bytes
    → (IsTrue b ↔ Contains set prefix) → b ≡ true → list ≡ held.name → new ≡ old ++ hit_with list prefix hash ∷ [] → new ≡ old ++ hits_at held hash (size ∷ [])
one_pushed held hash size set prefix b list old new own front says is_there name pushed =
    pushed
    ∙ ap (λ (n : ListName). old ++ hit_with n prefix hash ∷ []) name
    ∙ ap (λ (p : List ℕ). old ++ hit_with held.name p hash ∷ []) front
    ∙ sym (ap (λ (hits : List Hit). old ++ hits) (one_there held hash size (has_it held hash size set prefix own front (says.0 is_there))))

-- ---- one size is not looked up

unmarked : (marks : List Bool) (held : Held) (hash : FullHash) (size : ℕ) → Marks marks held → length hash.bytes ≡ 32 → size ≤ 32 → slice_index_or marks size false ≡ false
    → hits_at held hash (size ∷ []) ≡ []
unmarked marks held hash size marked whole small unset =
    let fits : size ≤ length hash.bytes = omega (arith, whole, small) in
    let long : length (take size hash.bytes) ≡ size = length-take-le size hash.bytes fits in
    let short : length (take size hash.bytes) < 33 = omega (arith, long, small) in
    none_there held hash size (λ h. false≢true (sym unset ∙ sym (ap (λ n. slice_index_or marks n false) long) ∙ marked (take size hash.bytes) h short))

pub hits_left : (marks : List Bool) (held : Held) (hash : FullHash) (size : ℕ) (first old new : List Hit) → 4 ≤ size → size ≤ 32 → Marks marks held → length hash.bytes ≡ 32
    → slice_index_or marks size false ≡ false → old ≡ first ++ hits_at held hash (sizes_below size) → new ≡ old → new ≡ first ++ hits_at held hash (sizes_below (size + 1))
hits_left marks held hash size first old new low small marked whole unset before same =
    hits_pushed held hash size first old new low before
    (same ∙ sym (ap (λ (hits : List Hit). old ++ hits) (unmarked marks held hash size marked whole small unset) ∙ append-nil old))

-- so are the sizes past all marks
rest_left : (marks : List Bool) (held : Held) (hash : FullHash) (past more : ℕ) → 4 ≤ past → past + more ≤ 33 → Marks marks held → IsPastMarks marks past → length hash.bytes ≡ 32
    → hits_at held hash (sizes_below (past + more)) ≡ hits_at held hash (sizes_below past)
rest_left marks held hash past zero low high marked unset whole = ap (λ n. hits_at held hash (sizes_below n)) (let same : past + zero ≡ past = omega arith in same)
rest_left marks held hash past (suc more) low high marked unset whole =
    ap (λ n. hits_at held hash (sizes_below n)) (let same : past + suc more ≡ past + more + 1 = omega arith in same)
    ∙ sym (hits_left marks held hash (past + more) [] (hits_at held hash (sizes_below (past + more))) (hits_at held hash (sizes_below (past + more)))
    (omega (arith, low)) (omega (arith, high)) marked whole (unset (past + more) (omega arith)) refl refl)
    ∙ rest_left marks held hash past more low (omega (arith, high)) marked unset whole

pub hits_past : (marks : List Bool) (held : Held) (hash : FullHash) (past : ℕ) → 4 ≤ past → past ≤ 33 → Marks marks held → IsPastMarks marks past → length hash.bytes ≡ 32
    → hits_at held hash (sizes_below past) ≡ hits_at held hash (sizes_below 33)
hits_past marks held hash past low high marked unset whole =
    sym (rest_left marks held hash past (33 - past) low (omega (arith, high)) marked unset whole)
    ∙ ap (λ n. hits_at held hash (sizes_below n)) (let same : past + (33 - past) ≡ 33 = omega (arith, high) in same)
