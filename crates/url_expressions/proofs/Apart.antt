-- Hosts and paths are freed of repeats apart.
use Rattle.std.proofs.Common.{◌≡◌, ℕ, List, [], ◌∷◌, ◌++◌, Bool, true, false, not, cond, ◌||◌, refl, sym, ap, subst, ◌∙◌, ⊎_elim}
use Rattle.std.specs.Prelude.{filter, map}
use Rattle.std.specs.List.{list_any, AllByRecursion}
use Rattle.std.specs.Str.{bytes_eq}
use Rattle.std.proofs.lemmas.Bool.{false_from_ne_true, cond_both, cond-true, cond-false, or_from, or_right, cases_Bool, false≢true}
use Rattle.std.proofs.lemmas.List.Elements.{filter-append}
use Rattle.std.proofs.lemmas.Slice.Eq.{bytes_eq-Decides}
use Rattle.url_expressions.specs.Expressions.{first_occurrences, combinations}
use Rattle.url_expressions.proofs.Occurrences.{differs, equal}
use Rattle.url_expressions.proofs.Search.{Lacks, is_slash}

cancel : (h p q : List ℕ) → h ++ p ≡ h ++ q → p ≡ q
cancel [] p q e = e
cancel (x ∷ h) p q e = cancel h p q (cc)

same_joined : (h p q : List ℕ) → bytes_eq (h ++ p) (h ++ q) ≡ bytes_eq p q
same_joined h p q =
    ⊎_elim
    (λ yes. (bytes_eq-Decides (h ++ p) (h ++ q)).1 (ap (λ t. h ++ t) ((bytes_eq-Decides p q).0 yes)) ∙ sym yes)
    (λ other. false_from_ne_true (bytes_eq (h ++ p) (h ++ q)) (λ t. false≢true (sym other ∙ (bytes_eq-Decides p q).1 (cancel h p q ((bytes_eq-Decides (h ++ p) (h ++ q)).0 t)))) ∙ sym other)
    (cases_Bool (bytes_eq p q))

-- one host

filter-joined : (h x : List ℕ) (ys : List (List ℕ)) → filter (differs (h ++ x)) (map (λ p. h ++ p) ys) ≡ map (λ p. h ++ p) (filter (differs x) ys)
filter-joined h x [] = refl
filter-joined h x (y ∷ ys) =
    ap (λ b. cond (not b) ((h ++ y) ∷ filter (differs (h ++ x)) (map (λ p. h ++ p) ys)) (filter (differs (h ++ x)) (map (λ p. h ++ p) ys))) (same_joined h y x)
    ∙ ap (λ r. cond (differs x y) ((h ++ y) ∷ r) r) (filter-joined h x ys)
    ∙ out (differs x y)
  where
    out : (b : Bool) → cond b ((h ++ y) ∷ map (λ p. h ++ p) (filter (differs x) ys)) (map (λ p. h ++ p) (filter (differs x) ys)) ≡ map (λ p. h ++ p) (cond b (y ∷ filter (differs x) ys) (filter (differs x) ys))
    out true = refl
    out false = refl

one_host : (h : List ℕ) (ps : List (List ℕ)) → first_occurrences (map (λ p. h ++ p) ps) ≡ map (λ p. h ++ p) (first_occurrences ps)
unfolding first_occurrences
one_host h [] = refl
one_host h (p ∷ ps) =
    ap (λ r. (h ++ p) ∷ filter (differs (h ++ p)) r) (one_host h ps) ∙ ap (λ r. (h ++ p) ∷ r) (filter-joined h p (first_occurrences ps))

-- one list and then another

abbrev absent : List (List ℕ) → List ℕ → Bool
absent xs y = not (list_any (λ x. bytes_eq y x) xs)

filter-step : (x y : List ℕ) (xs ys : List (List ℕ)) (a b : Bool) → bytes_eq y x ≡ a → list_any (λ z. bytes_eq y z) xs ≡ b → filter (differs x) (filter (absent xs) ys) ≡ filter (absent (x ∷ xs)) ys → filter (differs x) (filter (absent xs) (y ∷ ys)) ≡ filter (absent (x ∷ xs)) (y ∷ ys)
filter-step x y xs ys true true e f rest = rw (e, f) rest
filter-step x y xs ys true false e f rest = rw (e, f) (rw e rest)
filter-step x y xs ys false true e f rest = rw (e, f) rest
filter-step x y xs ys false false e f rest = rw (e, f) (rw e (ap (λ r. y ∷ r) rest))

filter-filter : (x : List ℕ) (xs ys : List (List ℕ)) → filter (differs x) (filter (absent xs) ys) ≡ filter (absent (x ∷ xs)) ys
filter-filter x xs [] = refl
filter-filter x xs (y ∷ ys) = filter-step x y xs ys (bytes_eq y x) (list_any (λ z. bytes_eq y z) xs) refl refl (filter-filter x xs ys)

two_lists : (xs ys : List (List ℕ)) → first_occurrences (xs ++ ys) ≡ first_occurrences xs ++ filter (absent xs) (first_occurrences ys)
unfolding first_occurrences
two_lists [] ys = sym (filter_all (first_occurrences ys))
  where
    filter_all : (zs : List (List ℕ)) → filter (absent []) zs ≡ zs
    filter_all [] = refl
    filter_all (z ∷ zs) = ap (λ r. z ∷ r) (filter_all zs)
two_lists (x ∷ xs) ys =
    ap (λ r. x ∷ filter (differs x) r) (two_lists xs ys)
    ∙ ap (λ r. x ∷ r) (filter-append (differs x) (first_occurrences xs) (filter (absent xs) (first_occurrences ys)))
    ∙ ap (λ r. x ∷ (filter (differs x) (first_occurrences xs) ++ r)) (filter-filter x xs (first_occurrences ys))

-- what occurs was there

abbrev IsIn : List (List ℕ) → List ℕ → Type 0
IsIn xs y = list_any (λ x. bytes_eq y x) xs ≡ true

filtered-in : (p : List ℕ → Bool) (x : List ℕ) (xs ys : List (List ℕ)) → AllByRecursion (IsIn xs) ys → AllByRecursion (IsIn (x ∷ xs)) (filter p ys)
filtered-in p x xs [] h = tt
filtered-in p x xs (y ∷ ys) h =
    cond_both (p y) (y ∷ filter p ys) (filter p ys) (AllByRecursion (IsIn (x ∷ xs))) (λ _. (ap (λ b. bytes_eq y x || b) h.0 ∙ or_right (bytes_eq y x) true refl, filtered-in p x xs ys h.1)) (λ _. filtered-in p x xs ys h.1)

occur-in : (xs : List (List ℕ)) → AllByRecursion (IsIn xs) (first_occurrences xs)
unfolding first_occurrences
occur-in [] = tt
occur-in (x ∷ xs) = (ap (λ b. b || list_any (λ z. bytes_eq x z) xs) (equal x), filtered-in (differs x) x xs (first_occurrences xs) (occur-in xs))

any-joined : (h p : List ℕ) (ps : List (List ℕ)) → list_any (λ x. bytes_eq (h ++ p) x) (map (λ p. h ++ p) ps) ≡ list_any (λ x. bytes_eq p x) ps
any-joined h p [] = refl
any-joined h p (q ∷ ps) =
    ap (λ b. b || list_any (λ x. bytes_eq (h ++ p) x) (map (λ p. h ++ p) ps)) (same_joined h p q) ∙ ap (λ b. bytes_eq p q || b) (any-joined h p ps)

-- the same host again gives nothing new
same_host : (h : List ℕ) (ps qs : List (List ℕ)) → AllByRecursion (IsIn ps) qs → filter (absent (map (λ p. h ++ p) ps)) (map (λ p. h ++ p) qs) ≡ []
same_host h ps [] k = refl
same_host h ps (q ∷ qs) k =
    ap (λ b. cond (not b) ((h ++ q) ∷ filter (absent (map (λ p. h ++ p) ps)) (map (λ p. h ++ p) qs)) (filter (absent (map (λ p. h ++ p) ps)) (map (λ p. h ++ p) qs))) (any-joined h q ps ∙ k.0)
    ∙ same_host h ps qs k.1

-- a path begins with a slash
abbrev pub IsRooted : List ℕ → Type 0
IsRooted path = (rest : List ℕ) × (path ≡ 47 ∷ rest)

same_hosts : (h g p q : List ℕ) → Lacks is_slash h → Lacks is_slash g → h ++ 47 ∷ p ≡ g ++ 47 ∷ q → h ≡ g
same_hosts [] [] p q k l e = refl
same_hosts [] (y ∷ g) p q k l e = absurd (let f : 47 ≡ y = cc in let slash : is_slash y ≡ true = ap is_slash (sym f) in false≢true (sym l ∙ ap (λ b. b || list_any is_slash g) slash))
same_hosts (x ∷ h) [] p q k l e = absurd (let f : x ≡ 47 = cc in let slash : is_slash x ≡ true = ap is_slash f in false≢true (sym k ∙ ap (λ b. b || list_any is_slash h) slash))
same_hosts (x ∷ h) (y ∷ g) p q k l e =
    let tails : h ++ 47 ∷ p ≡ g ++ 47 ∷ q = cc in
    let heads : x ≡ y = cc in
    let rest = same_hosts h g p q (lacks_tail x h k) (lacks_tail y g l) tails in
    ap (λ z. z ∷ h) heads ∙ ap (λ r. y ∷ r) rest
  where
    lacks_tail : (z : ℕ) (zs : List ℕ) → Lacks is_slash (z ∷ zs) → Lacks is_slash zs
    lacks_tail z zs h = false_from_ne_true (list_any is_slash zs) (λ t. false≢true (sym h ∙ (ap (λ b. is_slash z || b) t ∙ or_right (is_slash z) true refl)))

other_text : (h g p q : List ℕ) → Lacks is_slash h → Lacks is_slash g → bytes_eq g h ≡ false → IsRooted p → IsRooted q → bytes_eq (g ++ q) (h ++ p) ≡ false
other_text h g p q k l other rp rq =
    false_from_ne_true (bytes_eq (g ++ q) (h ++ p)) (λ t. false≢true (sym other ∙ (bytes_eq-Decides g h).1 (same_hosts g h rq.0 rp.0 l k (ap (λ r. g ++ r) (sym rq.1) ∙ ((bytes_eq-Decides (g ++ q) (h ++ p)).0 t ∙ ap (λ r. h ++ r) rp.1)))))

none_of : (h g q : List ℕ) (ps : List (List ℕ)) → Lacks is_slash h → Lacks is_slash g → bytes_eq g h ≡ false → IsRooted q → AllByRecursion IsRooted ps → list_any (λ x. bytes_eq (g ++ q) x) (map (λ p. h ++ p) ps) ≡ false
none_of h g q [] k l other rq r = refl
none_of h g q (p ∷ ps) k l other rq r = or_from _ _ (other_text h g p q k l other r.0 rq) (none_of h g q ps k l other rq r.1)

-- another host gives all that it has
other_host : (h g : List ℕ) (ps qs : List (List ℕ)) → Lacks is_slash h → Lacks is_slash g → bytes_eq g h ≡ false → AllByRecursion IsRooted ps → AllByRecursion IsRooted qs → filter (absent (map (λ p. h ++ p) ps)) (map (λ p. g ++ p) qs) ≡ map (λ p. g ++ p) qs
other_host h g ps [] k l other r s = refl
other_host h g ps (q ∷ qs) k l other r s =
    ap (λ b. cond (not b) ((g ++ q) ∷ filter (absent (map (λ p. h ++ p) ps)) (map (λ p. g ++ p) qs)) (filter (absent (map (λ p. h ++ p) ps)) (map (λ p. g ++ p) qs))) (none_of h g q ps k l other s.0 r)
    ∙ ap (λ r. (g ++ q) ∷ r) (other_host h g ps qs k l other r s.1)

filter-hosts : (h : List ℕ) (hs ps qs : List (List ℕ)) → Lacks is_slash h → AllByRecursion (Lacks is_slash) hs → AllByRecursion IsRooted ps → AllByRecursion IsRooted qs → AllByRecursion (IsIn ps) qs → filter (absent (map (λ p. h ++ p) ps)) (combinations hs qs) ≡ combinations (filter (differs h) hs) qs
filter-hosts h [] ps qs k l r s i = refl
filter-hosts h (g ∷ hs) ps qs k l r s i =
    filter-append (absent (map (λ p. h ++ p) ps)) (map (λ p. g ++ p) qs) (combinations hs qs)
    ∙ ap (λ t. filter (absent (map (λ p. h ++ p) ps)) (map (λ p. g ++ p) qs) ++ t) (filter-hosts h hs ps qs k l.1 r s i)
    ∙ ⊎_elim
    (λ yes. let is = (bytes_eq-Decides g h).0 yes in
    ap (λ t. t ++ combinations (filter (differs h) hs) qs) (subst (λ z. filter (absent (map (λ p. h ++ p) ps)) (map (λ p. z ++ p) qs) ≡ []) (sym is) (same_host h ps qs i))
    ∙ ap (λ t. combinations t qs) (sym (cond-false (differs h g) (g ∷ filter (differs h) hs) (filter (differs h) hs) (ap not yes))))
    (λ other. ap (λ t. t ++ combinations (filter (differs h) hs) qs) (other_host h g ps qs k l.0 other r s)
    ∙ ap (λ t. combinations t qs) (sym (cond-true (differs h g) (g ∷ filter (differs h) hs) (filter (differs h) hs) (ap not other))))
    (cases_Bool (bytes_eq g h))

kept : (P : List ℕ → Type 0) (p : List ℕ → Bool) (xs : List (List ℕ)) → AllByRecursion P xs → AllByRecursion P (filter p xs)
kept P p [] h = tt
kept P p (x ∷ xs) h = cond_both (p x) (x ∷ filter p xs) (filter p xs) (AllByRecursion P) (λ _. (h.0, kept P p xs h.1)) (λ _. kept P p xs h.1)

kept-occurrences : (P : List ℕ → Type 0) (xs : List (List ℕ)) → AllByRecursion P xs → AllByRecursion P (first_occurrences xs)
unfolding first_occurrences
kept-occurrences P [] h = tt
kept-occurrences P (x ∷ xs) h = (h.0, kept P (differs x) (first_occurrences xs) (kept-occurrences P xs h.1))

-- Hosts have no slash, and paths begin with one: of the combinations those stay that both parts leave.
pub apart_occurrences : (hs ps : List (List ℕ)) → AllByRecursion (Lacks is_slash) hs → AllByRecursion IsRooted ps → first_occurrences (combinations hs ps) ≡ combinations (first_occurrences hs) (first_occurrences ps)
unfolding first_occurrences
apart_occurrences [] ps k r = refl
apart_occurrences (h ∷ hs) ps k r =
    two_lists (map (λ p. h ++ p) ps) (combinations hs ps)
    ∙ ap (λ t. t ++ filter (absent (map (λ p. h ++ p) ps)) (first_occurrences (combinations hs ps))) (one_host h ps)
    ∙ ap (λ t. map (λ p. h ++ p) (first_occurrences ps) ++ filter (absent (map (λ p. h ++ p) ps)) t) (apart_occurrences hs ps k.1 r)
    ∙ ap (λ t. map (λ p. h ++ p) (first_occurrences ps) ++ t) (filter-hosts h (first_occurrences hs) ps (first_occurrences ps) k.0 (kept-occurrences (Lacks is_slash) hs k.1) r (kept-occurrences IsRooted ps r) (occur-in ps))
