-- The hosts of a URL as backs of its host, and that none has a slash.
use Rattle.std.proofs.Common.{◌≡◌, ℕ, zero, suc, ◌+◌, ◌-◌, ◌<◌, ◌≤◌, All, List, [], ◌∷◌, ◌++◌, Bool, true, false, cond, length, take, drop, get_or, refl, sym, ap, subst, ◌∙◌, arith}
use Rattle.std.specs.Prelude.{map, filter, nat_le}
use Rattle.std.specs.List.{list_any, slice_split, onto_first, join_with_byte, AllByRecursion}
use Rattle.std.proofs.lemmas.Bool.{cond_both, or_from, or_parts, ne_eqb}
use Rattle.std.proofs.lemmas.List.{append-nil}
use Rattle.std.proofs.lemmas.List.Elements.{All-cons, All-nil}
use Rattle.url_canon.specs.Words.{is_dot}
use Rattle.url_expressions.specs.Expressions.{components, last_components, hosts_of, first_occurrences}
use Rattle.url_expressions.proofs.Search.{Lacks, is_slash, lacks_from}
use Rattle.url_expressions.proofs.Components.{joined_components, hosts_more}
use Rattle.url_expressions.proofs.Pieces.{pushed, backs_apart, pushed_piece}

-- the numbers of components, largest first
pub number_at : (i : ℕ) → i < 4 → get_or (5 ∷ 4 ∷ 3 ∷ 2 ∷ []) i 0 ≡ 5 - i
number_at zero h = refl
number_at (suc zero) h = refl
number_at (suc (suc zero)) h = refl
number_at (suc (suc (suc zero))) h = refl
number_at (suc (suc (suc (suc i)))) h = absurd (omega arith)

-- the back of a host whose components are its last
pub back_is : (host : List ℕ) (place n : ℕ) → components (drop place host) ≡ drop (length (components host) - n) (components host) → drop place host ≡ last_components n host
unfolding last_components
back_is host place n there = sym (joined_components (drop place host)) ∙ ap (λ cs. join_with_byte 46 cs) there

abbrev shorter : List ℕ → ℕ → List (List ℕ)
shorter host i = map (λ n. last_components n host) (filter (λ n. nat_le n (length (components host))) (take i (5 ∷ 4 ∷ 3 ∷ 2 ∷ [])))

-- one number of components more
pub host_pushed : (host : List ℕ) (places : List ℕ) (place n i : ℕ) → i < 4 → n ≡ get_or (5 ∷ 4 ∷ 3 ∷ 2 ∷ []) i 0 → place ≤ length host → All (λ p. p ≤ length host) places → components (drop place host) ≡ drop (length (components host) - n) (components host)
    → map (λ p. drop p host) places ≡ first_occurrences (host ∷ shorter host i) → map (λ p. drop p host) (cond (nat_le n (length (components host))) (pushed places place) places) ≡ first_occurrences (host ∷ shorter host (i + 1))
host_pushed host places place n i inside at small within there so_far =
    step (nat_le n (length (components host))) refl
  where
    more : (b : Bool) → nat_le n (length (components host)) ≡ b → shorter host (i + 1) ≡ shorter host i ++ cond b (last_components n host ∷ []) []
    more b e =
        hosts_more host (5 ∷ 4 ∷ 3 ∷ 2 ∷ []) i inside
        ∙ ap (λ m. shorter host i ++ cond (nat_le m (length (components host))) (last_components m host ∷ []) []) (sym at)
        ∙ ap (λ c. shorter host i ++ cond c (last_components n host ∷ []) []) e

    step : (b : Bool) → nat_le n (length (components host)) ≡ b → map (λ p. drop p host) (cond b (pushed places place) places) ≡ first_occurrences (host ∷ shorter host (i + 1))
    step true e =
        pushed_piece (λ p. drop p host) (length host) (backs_apart host) places place (host ∷ shorter host i) within small so_far
        ∙ ap (λ t. first_occurrences (host ∷ (shorter host i ++ t ∷ []))) (back_is host place n there)
        ∙ ap (λ ts. first_occurrences (host ∷ ts)) (sym (more true e))
    step false e = so_far ∙ ap (λ ts. first_occurrences (host ∷ ts)) (sym (more false e ∙ append-nil (shorter host i)))

-- no slash

lacks-append : (xs ys : List ℕ) → Lacks is_slash xs → Lacks is_slash ys → Lacks is_slash (xs ++ ys)
lacks-append [] ys h k = k
lacks-append (x ∷ xs) ys h k =
    let parts = or_parts (is_slash x) (list_any is_slash xs) h in or_from (is_slash x) (list_any is_slash (xs ++ ys)) parts.0 (lacks-append xs ys parts.1 k)

lacks-first : (x : ℕ) (parts : List (List ℕ)) → is_slash x ≡ false → AllByRecursion (Lacks is_slash) parts → AllByRecursion (Lacks is_slash) (onto_first x parts)
lacks-first x [] e h = (or_from (is_slash x) false e refl, tt)
lacks-first x (part ∷ parts) e h = (or_from (is_slash x) (list_any is_slash part) e h.0, h.1)

lacks-parts : (xs : List ℕ) → Lacks is_slash xs → AllByRecursion (Lacks is_slash) (slice_split is_dot xs)
lacks-parts [] h = (refl, tt)
lacks-parts (x ∷ xs) h =
    let here = or_parts (is_slash x) (list_any is_slash xs) h in
    let rest = lacks-parts xs here.1 in
    cond_both (is_dot x) ([] ∷ slice_split is_dot xs) (onto_first x (slice_split is_dot xs)) (AllByRecursion (Lacks is_slash)) (λ _. (refl, rest)) (λ _. lacks-first x (slice_split is_dot xs) here.0 rest)

lacks-join : (parts : List (List ℕ)) → AllByRecursion (Lacks is_slash) parts → Lacks is_slash (join_with_byte 46 parts)
lacks-join [] h = refl
lacks-join (x ∷ []) h = h.0
lacks-join (x ∷ y ∷ parts) h = lacks-append x (46 ∷ join_with_byte 46 (y ∷ parts)) h.0 (lacks-join (y ∷ parts) h.1)

lacks-drop : (n : ℕ) (parts : List (List ℕ)) → AllByRecursion (Lacks is_slash) parts → AllByRecursion (Lacks is_slash) (drop n parts)
lacks-drop zero parts h = h
lacks-drop (suc n) [] h = tt
lacks-drop (suc n) (x ∷ parts) h = lacks-drop n parts h.1

lacks-last : (host : List ℕ) (n : ℕ) → Lacks is_slash host → Lacks is_slash (last_components n host)
unfolding last_components components
lacks-last host n h = lacks-join (drop (length (slice_split is_dot host) - n) (slice_split is_dot host)) (lacks-drop _ (slice_split is_dot host) (lacks-parts host h))

lacks-each : (host : List ℕ) (ns : List ℕ) → Lacks is_slash host → AllByRecursion (Lacks is_slash) (map (λ n. last_components n host) ns)
lacks-each host [] h = tt
lacks-each host (n ∷ ns) h = (lacks-last host n h, lacks-each host ns h)

pub slashless_hosts : (host : List ℕ) (is_address : Bool) → All (λ byte. byte ≡ 47 → ⊥) host → AllByRecursion (Lacks is_slash) (hosts_of host is_address)
slashless_hosts host true h = (lacks host h, tt)
  where
    lacks : (xs : List ℕ) → All (λ byte. byte ≡ 47 → ⊥) xs → Lacks is_slash xs
    lacks xs h = lacks_from is_slash xs (λ i lt. ne_eqb (get_or xs i 0) 47 (h i 0 lt))
slashless_hosts host false h = (lacks host h, lacks-each host _ (lacks host h))
  where
    lacks : (xs : List ℕ) → All (λ byte. byte ≡ 47 → ⊥) xs → Lacks is_slash xs
    lacks xs h = lacks_from is_slash xs (λ i lt. ne_eqb (get_or xs i 0) 47 (h i 0 lt))

-- the exact host alone

pub first_host : (host items new : List ℕ) → items ≡ [] → new ≡ items ++ 0 ∷ [] → map (λ p. drop p host) new ≡ first_occurrences (host ∷ [])
unfolding first_occurrences
first_host host items new none one = ap (λ ps. map (λ p. drop p host) ps) (one ∙ ap (λ ps. ps ++ 0 ∷ []) none)

pub first_within : (most : ℕ) (items new : List ℕ) → items ≡ [] → new ≡ items ++ 0 ∷ [] → All (λ p. p ≤ most) new
first_within most items new none one =
    subst (All (λ p. p ≤ most)) (sym (one ∙ ap (λ ps. ps ++ 0 ∷ []) none)) (All-cons (λ p. p ≤ most) 0 [] (omega arith) (All-nil (λ p. p ≤ most)))
