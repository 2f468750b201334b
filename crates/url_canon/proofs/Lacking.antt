-- What a text lacks, its parts lack, and so do the texts that are put together from them.
use Rattle.std.proofs.Common.{◌≡◌, ℕ, ◌<◌, List, [], ◌∷◌, ◌++◌, Bool, true, false, not, ◌&&◌, ◌||◌, eqb, leb, refl, sym, ap, ◌∙◌, arith}
use Rattle.std.specs.List.{list_any, AllByRecursion, slice_split, onto_first, filter, join_with_byte, before_first}
use Rattle.std.specs.Char.{to_ascii_lowercase}
use Rattle.std.specs.Str.{str_to_ascii_lowercase}
use Rattle.std.proofs.lemmas.Bool.{cond_both, or_from, or_parts, and_left, and_right, not-true, not_from_false}
use Rattle.std.proofs.lemmas.Bool.Decides.{nat_tests}
use Rattle.url_canon.specs.Words.{last_part, from_first}
use Rattle.url_canon.specs.Path.{path_text}
use Rattle.url_canon.specs.Unescaping.{is_hex}
use Rattle.url_canon.proofs.Splits.{Lacks}
use Rattle.url_canon.proofs.Cuts.{before-and-from}
use Rattle.url_canon.proofs.Escapes.{any-append}
use Rattle.url_canon.proofs.Unescapes.{begins_escape, has_escape}

-- lacking one kind of element

pub Lacks-append : {X : Type 0} (p : X → Bool) (xs ys : List X) → Lacks p xs → Lacks p ys → Lacks p (xs ++ ys)
Lacks-append p xs ys h k = any-append p xs ys ∙ or_from (list_any p xs) (list_any p ys) h k

pub Lacks-front : {X : Type 0} (p : X → Bool) (xs ys : List X) → Lacks p (xs ++ ys) → Lacks p xs
Lacks-front p xs ys h = (or_parts (list_any p xs) (list_any p ys) (sym (any-append p xs ys) ∙ h)).0

pub Lacks-back : {X : Type 0} (p : X → Bool) (xs ys : List X) → Lacks p (xs ++ ys) → Lacks p ys
Lacks-back p xs ys h = (or_parts (list_any p xs) (list_any p ys) (sym (any-append p xs ys) ∙ h)).1

pub Lacks-before_first : {X : Type 0} (q p : X → Bool) (xs : List X) → Lacks q xs → Lacks q (before_first p xs)
Lacks-before_first q p xs h = Lacks-front q (before_first p xs) (from_first p xs) (ap (list_any q) (before-and-from p xs) ∙ h)

pub Lacks-from_first : {X : Type 0} (q p : X → Bool) (xs : List X) → Lacks q xs → Lacks q (from_first p xs)
Lacks-from_first q p xs h = Lacks-back q (before_first p xs) (from_first p xs) (ap (list_any q) (before-and-from p xs) ∙ h)

parts-onto_first : {X : Type 0} (q : X → Bool) (x : X) (parts : List (List X)) → q x ≡ false → AllByRecursion (Lacks q) parts → AllByRecursion (Lacks q) (onto_first x parts)
parts-onto_first q x [] e h = (or_from (q x) false e refl, tt)
parts-onto_first q x (part ∷ parts) e h = (or_from (q x) (list_any q part) e h.0, h.1)

pub Lacks-parts : {X : Type 0} (q p : X → Bool) (xs : List X) → Lacks q xs → AllByRecursion (Lacks q) (slice_split p xs)
Lacks-parts q p [] h = (refl, tt)
Lacks-parts q p (x ∷ xs) h =
    let here = or_parts (q x) (list_any q xs) h in
    let more = Lacks-parts q p xs here.1 in
    cond_both (p x) ([] ∷ slice_split p xs) (onto_first x (slice_split p xs)) (AllByRecursion (Lacks q)) (λ _. (refl, more)) (λ _. parts-onto_first q x (slice_split p xs) here.0 more)

pub each-last : {X : Type 0} (Q : List X → Type 0) (parts : List (List X)) → Q [] → AllByRecursion Q parts → Q (last_part parts)
each-last Q [] nil h = nil
each-last Q (part ∷ []) nil h = h.0
each-last Q (part ∷ next ∷ parts) nil h = each-last Q (next ∷ parts) nil h.1

pub each-filter : {X : Type 0} (Q : X → Type 0) (t : X → Bool) (xs : List X) → AllByRecursion Q xs → AllByRecursion Q (filter t xs)
each-filter Q t [] h = tt
each-filter Q t (x ∷ xs) h = cond_both (t x) (x ∷ filter t xs) (filter t xs) (AllByRecursion Q) (λ _. (h.0, each-filter Q t xs h.1)) (λ _. each-filter Q t xs h.1)

pub Lacks-join : (q : ℕ → Bool) (c : ℕ) (parts : List (List ℕ)) → q c ≡ false → AllByRecursion (Lacks q) parts → Lacks q (join_with_byte c parts)
Lacks-join q c [] e h = refl
Lacks-join q c (x ∷ []) e h = h.0
Lacks-join q c (x ∷ y ∷ parts) e h =
    Lacks-append q x (c ∷ join_with_byte c (y ∷ parts)) h.0 (or_from (q c) (list_any q (join_with_byte c (y ∷ parts))) e (Lacks-join q c (y ∷ parts) e h.1))

pub Lacks-path_text : (q : ℕ → Bool) (parts : List (List ℕ)) → q 47 ≡ false → AllByRecursion (Lacks q) parts → Lacks q (path_text parts)
Lacks-path_text q [] e h = refl
Lacks-path_text q (c ∷ parts) e h =
    or_from (q 47) (list_any q (c ++ path_text parts)) e (Lacks-append q c (path_text parts) h.0 (Lacks-path_text q parts e h.1))

-- a test that does not tell capitals from small letters
abbrev pub IgnoresCase : (ℕ → Bool) → Type 0
IgnoresCase q = (x : ℕ) → q (to_ascii_lowercase x) ≡ q x

pub any-lowercase : (q : ℕ → Bool) (xs : List ℕ) → IgnoresCase q → list_any q (str_to_ascii_lowercase xs) ≡ list_any q xs
any-lowercase q [] same = refl
any-lowercase q (x ∷ xs) same = ap (λ r. r || list_any q (str_to_ascii_lowercase xs)) (same x) ∙ ap (λ r. q x || r) (any-lowercase q xs same)

pub lower_same : (x : ℕ) → to_ascii_lowercase (to_ascii_lowercase x) ≡ to_ascii_lowercase x
lower_same x = grind (arith, nat_tests)

pub lowercase_same : (xs : List ℕ) → str_to_ascii_lowercase (str_to_ascii_lowercase xs) ≡ str_to_ascii_lowercase xs
lowercase_same [] = refl
lowercase_same (x ∷ xs) = ap (λ y. y ∷ str_to_ascii_lowercase (str_to_ascii_lowercase xs)) (lower_same x) ∙ ap (λ ys. to_ascii_lowercase x ∷ ys) (lowercase_same xs)

-- a byte below the letters, or between the capitals and the small ones
pub ignores_below : (c : ℕ) → c < 65 → IgnoresCase (λ x. eqb x c)
ignores_below c h x = grind (arith, nat_tests)

pub ignores_between : (c : ℕ) → 90 < c → c < 97 → IgnoresCase (λ x. eqb x c)
ignores_between c h k x = grind (arith, nat_tests)

pub ignores_wide : IgnoresCase (λ x. leb 256 x)
ignores_wide x = grind (arith, nat_tests)

-- lacking escapes

pub plain-front : (xs ys : List ℕ) → has_escape (xs ++ ys) ≡ false → has_escape xs ≡ false
plain-front [] ys h = refl
plain-front (x ∷ []) ys h = refl
plain-front (x ∷ y ∷ []) ys h = refl
plain-front (x ∷ y ∷ z ∷ xs) ys h =
    let parts = or_parts (begins_escape x (y ∷ z ∷ xs)) (has_escape ((y ∷ z ∷ xs) ++ ys)) h in
    or_from (begins_escape x (y ∷ z ∷ xs)) (has_escape (y ∷ z ∷ xs)) parts.0 (plain-front (y ∷ z ∷ xs) ys parts.1)

pub plain-back : (xs ys : List ℕ) → has_escape (xs ++ ys) ≡ false → has_escape ys ≡ false
plain-back [] ys h = h
plain-back (x ∷ xs) ys h = plain-back xs ys (or_parts (begins_escape x (xs ++ ys)) (has_escape (xs ++ ys)) h).1

-- nothing, or a byte that is no hexadecimal digit first
abbrev pub parts_off : List ℕ → Bool
parts_off [] = true
parts_off (x ∷ xs) = not (is_hex x)

one_before : (x : ℕ) (ys : List ℕ) → parts_off ys ≡ true → begins_escape x ys ≡ false
one_before x [] e = refl
one_before x (y ∷ []) e = refl
one_before x (y ∷ z ∷ ys) e = and_right (eqb x 37) (is_hex y && is_hex z) (and_left (is_hex y) (is_hex z) (not-true (is_hex y) e))

two_before : (x y : ℕ) (ys : List ℕ) → parts_off ys ≡ true → begins_escape x (y ∷ ys) ≡ false
two_before x y [] e = refl
two_before x y (z ∷ ys) e = and_right (eqb x 37) (is_hex y && is_hex z) (and_right (is_hex y) (is_hex z) (not-true (is_hex z) e))

pub plain-append : (xs ys : List ℕ) → has_escape xs ≡ false → has_escape ys ≡ false → parts_off ys ≡ true → has_escape (xs ++ ys) ≡ false
plain-append [] ys h k e = k
plain-append (x ∷ []) ys h k e = or_from (begins_escape x ys) (has_escape ys) (one_before x ys e) k
plain-append (x ∷ y ∷ []) ys h k e = or_from (begins_escape x (y ∷ ys)) (has_escape (y ∷ ys)) (two_before x y ys e) (plain-append (y ∷ []) ys refl k e)
plain-append (x ∷ y ∷ z ∷ xs) ys h k e =
    let parts = or_parts (begins_escape x (y ∷ z ∷ xs)) (has_escape (y ∷ z ∷ xs)) h in
    or_from (begins_escape x (y ∷ z ∷ xs)) (has_escape ((y ∷ z ∷ xs) ++ ys)) parts.0 (plain-append (y ∷ z ∷ xs) ys parts.1 k e)

-- a byte that is no `%` begins no escape
not_first : (x : ℕ) (ys : List ℕ) → eqb x 37 ≡ false → begins_escape x ys ≡ false
not_first x [] e = refl
not_first x (y ∷ []) e = refl
not_first x (y ∷ z ∷ ys) e = and_left (eqb x 37) (is_hex y && is_hex z) e

pub plain-after : (xs ys : List ℕ) → Lacks (λ x. eqb x 37) xs → has_escape ys ≡ false → has_escape (xs ++ ys) ≡ false
plain-after [] ys h k = k
plain-after (x ∷ xs) ys h k =
    let parts = or_parts (eqb x 37) (list_any (λ x. eqb x 37) xs) h in
    or_from (begins_escape x (xs ++ ys)) (has_escape (xs ++ ys)) (not_first x (xs ++ ys) parts.0) (plain-after xs ys parts.1 k)

-- the first part of a split stands at the front
abbrev first_part : List (List ℕ) → List ℕ
first_part [] = []
first_part (part ∷ parts) = part

first_of : (p : ℕ → Bool) (xs : List ℕ) → (rest : List ℕ) × (xs ≡ first_part (slice_split p xs) ++ rest)
first_of p [] = ([], refl)
first_of p (x ∷ xs) =
    let more = first_of p xs in
    cond_both (p x) ([] ∷ slice_split p xs) (onto_first x (slice_split p xs)) (λ parts. (rest : List ℕ) × (x ∷ xs ≡ first_part parts ++ rest)) (λ _. (x ∷ xs, refl)) (λ _. (more.0, ap (λ r. x ∷ r) more.1 ∙ onto (slice_split p xs) more.0))
  where
    onto : (parts : List (List ℕ)) (rest : List ℕ) → x ∷ (first_part parts ++ rest) ≡ first_part (onto_first x parts) ++ rest
    onto [] rest = refl
    onto (part ∷ parts) rest = refl

abbrev pub IsPlain : List ℕ → Type 0
IsPlain text = has_escape text ≡ false

plain-onto_first : (x : ℕ) (parts : List (List ℕ)) → IsPlain (x ∷ first_part parts) → AllByRecursion IsPlain parts → AllByRecursion IsPlain (onto_first x parts)
plain-onto_first x [] e h = (refl, tt)
plain-onto_first x (part ∷ parts) e h = (e, h.1)

pub plain-parts : (p : ℕ → Bool) (xs : List ℕ) → IsPlain xs → AllByRecursion IsPlain (slice_split p xs)
plain-parts p [] h = (refl, tt)
plain-parts p (x ∷ xs) h =
    let more = plain-parts p xs (or_parts (begins_escape x xs) (has_escape xs) h).1 in
    let front = first_of p xs in
    cond_both (p x) ([] ∷ slice_split p xs) (onto_first x (slice_split p xs)) (AllByRecursion IsPlain) (λ _. (refl, more)) (λ _. plain-onto_first x (slice_split p xs) (plain-front (x ∷ first_part (slice_split p xs)) front.0 (sym (ap (λ r. has_escape (x ∷ r)) front.1) ∙ h)) more)

pub plain-join : (c : ℕ) (parts : List (List ℕ)) → is_hex c ≡ false → eqb c 37 ≡ false → AllByRecursion IsPlain parts → IsPlain (join_with_byte c parts)
plain-join c [] e f h = refl
plain-join c (x ∷ []) e f h = h.0
plain-join c (x ∷ y ∷ parts) e f h =
    plain-append x (c ∷ join_with_byte c (y ∷ parts)) h.0 (plain-after (c ∷ []) (join_with_byte c (y ∷ parts)) (or_from (eqb c 37) false f refl) (plain-join c (y ∷ parts) e f h.1)) (not_from_false (is_hex c) e)

hex-lower : (x : ℕ) → is_hex (to_ascii_lowercase x) ≡ is_hex x
hex-lower x = grind (arith, nat_tests)

begins_escape-lower : (x : ℕ) (xs : List ℕ) → begins_escape (to_ascii_lowercase x) (str_to_ascii_lowercase xs) ≡ begins_escape x xs
begins_escape-lower x [] = refl
begins_escape-lower x (y ∷ []) = refl
begins_escape-lower x (y ∷ z ∷ xs) =
    ap (λ r. r && (is_hex (to_ascii_lowercase y) && is_hex (to_ascii_lowercase z))) (ignores_below 37 (omega arith) x) ∙ (ap (λ r. eqb x 37 && (r && is_hex (to_ascii_lowercase z))) (hex-lower y) ∙ ap (λ r. eqb x 37 && (is_hex y && r)) (hex-lower z))

pub has_escape-lower : (xs : List ℕ) → has_escape (str_to_ascii_lowercase xs) ≡ has_escape xs
has_escape-lower [] = refl
has_escape-lower (x ∷ xs) =
    ap (λ r. r || has_escape (str_to_ascii_lowercase xs)) (begins_escape-lower x xs) ∙ ap (λ r. begins_escape x xs || r) (has_escape-lower xs)
