-- The scheme of a text, and the rest after it, are read again.
use Rattle.std.proofs.Common.{◌≡◌, ℕ, ◌+◌, List, [], ◌∷◌, ◌++◌, Bool, true, false, not, eqb, leb, take, drop, refl, ap, ◌∙◌, arith, ⊎_elim}
use Rattle.std.specs.Prelude.{codes, nat_eq}
use Rattle.std.specs.List.{list_any, prefix_len, starts_with}
use Rattle.std.specs.Char.{is_ascii_alphabetic}
use Rattle.std.specs.Str.{str_to_ascii_lowercase}
use Rattle.std.proofs.Math.Numerals.{one-add}
use Rattle.std.proofs.lemmas.List.{take-append-drop}
use Rattle.std.proofs.lemmas.Bool.{cond-true, cond-false, cond_both, or_from, or_parts, and_parts, and_from, not-false, not_from_true, cases_Bool, false≢true}
use Rattle.std.proofs.lemmas.Bool.Decides.{nat_tests}
use Rattle.url_canon.specs.Words.{begins_with, without_leading}
use Rattle.url_canon.specs.Escaping.{is_unsafe}
use Rattle.url_canon.specs.Parts.{is_scheme_byte, has_scheme, scheme_of, after_scheme}
use Rattle.url_canon.proofs.Splits.{Lacks}
use Rattle.url_canon.proofs.Trims.{without_leading-yes, without_leading-not}
use Rattle.url_canon.proofs.Lacking.{Lacks-back, IgnoresCase, any-lowercase, lowercase_same, IsPlain, plain-back}
use Rattle.url_canon.proofs.Unescapes.{has_escape}
use Rattle.url_canon.proofs.Hosts.{begins-lower}

-- the bytes at the front that pass, by cases
taken-yes : (p : ℕ → Bool) (x : ℕ) (xs : List ℕ) → p x ≡ true → take (prefix_len p (x ∷ xs)) (x ∷ xs) ≡ x ∷ take (prefix_len p xs) xs
taken-yes p x xs e = ap (λ n. take n (x ∷ xs)) (cond-true (p x) (1 + prefix_len p xs) 0 e ∙ one-add (prefix_len p xs))

taken-not : (p : ℕ → Bool) (x : ℕ) (xs : List ℕ) → p x ≡ false → take (prefix_len p (x ∷ xs)) (x ∷ xs) ≡ []
taken-not p x xs e = ap (λ n. take n (x ∷ xs)) (cond-false (p x) (1 + prefix_len p xs) 0 e)

abbrev other : (ℕ → Bool) → ℕ → Bool
other p x = not (p x)

all_taken : (p : ℕ → Bool) (xs : List ℕ) → Lacks (other p) (take (prefix_len p xs) xs)
all_taken p [] = refl
all_taken p (x ∷ xs) =
    ⊎_elim (λ yes. ap (list_any (other p)) (taken-yes p x xs yes) ∙ or_from (other p x) (list_any (other p) (take (prefix_len p xs) xs)) (not_from_true (p x) yes) (all_taken p xs)) (λ stop. ap (list_any (other p)) (taken-not p x xs stop)) (cases_Bool (p x))

-- the bytes that pass, and one that does not after them
front_taken : (p : ℕ → Bool) (xs : List ℕ) (y : ℕ) (ys : List ℕ) → Lacks (other p) xs → p y ≡ false → take (prefix_len p (xs ++ y ∷ ys)) (xs ++ y ∷ ys) ≡ xs
front_taken p [] y ys h e = taken-not p y ys e
front_taken p (x ∷ xs) y ys h e =
    let parts = or_parts (other p x) (list_any (other p) xs) h in
    taken-yes p x (xs ++ y ∷ ys) (not-false (p x) parts.0) ∙ ap (λ r. x ∷ r) (front_taken p xs y ys parts.1 e)

front_left : (p : ℕ → Bool) (xs : List ℕ) (y : ℕ) (ys : List ℕ) → Lacks (other p) xs → p y ≡ false → without_leading p (xs ++ y ∷ ys) ≡ y ∷ ys
front_left p [] y ys h e = without_leading-not p y ys e
front_left p (x ∷ xs) y ys h e =
    let parts = or_parts (other p x) (list_any (other p) xs) h in
    without_leading-yes p x (xs ++ y ∷ ys) (not-false (p x) parts.0) ∙ front_left p xs y ys parts.1 e

-- a scheme in lower case
pub record IsScheme (scheme : List ℕ) : Type 0 where
  pub letter : begins_with is_ascii_alphabetic scheme ≡ true
  pub bytes : Lacks (other is_scheme_byte) scheme
  pub lower : str_to_ascii_lowercase scheme ≡ scheme

scheme_byte-lower : IgnoresCase (other is_scheme_byte)
scheme_byte-lower x = grind (arith, nat_tests)

letter-lower : IgnoresCase is_ascii_alphabetic
letter-lower x = grind (arith, nat_tests)

letter_is_scheme_byte : (x : ℕ) → is_ascii_alphabetic x ≡ true → is_scheme_byte x ≡ true
letter_is_scheme_byte x e = grind (arith, nat_tests)

begins_taken : (text : List ℕ) → begins_with is_ascii_alphabetic text ≡ true → begins_with is_ascii_alphabetic (take (prefix_len is_scheme_byte text) text) ≡ true
begins_taken [] e = absurd (false≢true e)
begins_taken (x ∷ text) e = ap (begins_with is_ascii_alphabetic) (taken-yes is_scheme_byte x text (letter_is_scheme_byte x e)) ∙ e

scheme_read : (text : List ℕ) → has_scheme text ≡ true → IsScheme (str_to_ascii_lowercase (take (prefix_len is_scheme_byte text) text))
scheme_read text e =
    let taken = take (prefix_len is_scheme_byte text) text in
    let letter = (and_parts (begins_with is_ascii_alphabetic text) _ e).0 in
    record {
      letter = begins-lower is_ascii_alphabetic taken letter-lower ∙ begins_taken text letter;
      bytes = any-lowercase (other is_scheme_byte) taken scheme_byte-lower ∙ all_taken is_scheme_byte text;
      lower = lowercase_same taken;
    }

pub scheme_of-is : (text : List ℕ) → IsScheme (scheme_of text)
unfolding scheme_of
scheme_of-is text =
    cond_both (has_scheme text) (str_to_ascii_lowercase (take (prefix_len is_scheme_byte text) text)) (codes "http") IsScheme (scheme_read text) (λ _. record { letter = refl; bytes = refl; lower = refl })

begins_front : (p : ℕ → Bool) (xs ys : List ℕ) → begins_with p xs ≡ true → begins_with p (xs ++ ys) ≡ true
begins_front p [] ys e = absurd (false≢true e)
begins_front p (x ∷ xs) ys e = e

abbrev pub with_scheme : List ℕ → List ℕ → List ℕ
with_scheme scheme rest = scheme ++ (58 ∷ 47 ∷ 47 ∷ rest)

has : (scheme rest : List ℕ) → IsScheme scheme → has_scheme (with_scheme scheme rest) ≡ true
has scheme rest h =
    and_from (begins_with is_ascii_alphabetic (with_scheme scheme rest)) _ (begins_front is_ascii_alphabetic scheme (58 ∷ 47 ∷ 47 ∷ rest) h.letter)
    (ap (λ r. starts_with nat_eq r (codes "://")) (front_left is_scheme_byte scheme 58 (47 ∷ 47 ∷ rest) h.bytes refl))

pub scheme_of-again : (scheme rest : List ℕ) → IsScheme scheme → scheme_of (with_scheme scheme rest) ≡ scheme
unfolding scheme_of
scheme_of-again scheme rest h =
    let text = with_scheme scheme rest in
    cond-true (has_scheme text) (str_to_ascii_lowercase (take (prefix_len is_scheme_byte text) text)) (codes "http") (has scheme rest h)
    ∙ (ap str_to_ascii_lowercase (front_taken is_scheme_byte scheme 58 (47 ∷ 47 ∷ rest) h.bytes refl) ∙ h.lower)

pub after_scheme-again : (scheme rest : List ℕ) → IsScheme scheme → after_scheme (with_scheme scheme rest) ≡ rest
unfolding after_scheme
after_scheme-again scheme rest h =
    let text = with_scheme scheme rest in
    cond-true (has_scheme text) (drop 3 (without_leading is_scheme_byte text)) text (has scheme rest h)
    ∙ ap (drop 3) (front_left is_scheme_byte scheme 58 (47 ∷ 47 ∷ rest) h.bytes refl)

-- what no scheme byte is
pub Lacks-scheme : (q : ℕ → Bool) (scheme : List ℕ) → ((x : ℕ) → is_scheme_byte x ≡ true → q x ≡ false) → Lacks (other is_scheme_byte) scheme → Lacks q scheme
Lacks-scheme q [] f h = refl
Lacks-scheme q (x ∷ scheme) f h =
    let parts = or_parts (other is_scheme_byte x) (list_any (other is_scheme_byte) scheme) h in
    or_from (q x) (list_any q scheme) (f x (not-false (is_scheme_byte x) parts.0)) (Lacks-scheme q scheme f parts.1)

pub safe-scheme : (x : ℕ) → is_scheme_byte x ≡ true → is_unsafe x ≡ false
safe-scheme x e = grind (arith, nat_tests)

pub narrow-scheme : (x : ℕ) → is_scheme_byte x ≡ true → leb 256 x ≡ false
narrow-scheme x e = grind (arith, nat_tests)

pub no_percent-scheme : (x : ℕ) → is_scheme_byte x ≡ true → eqb x 37 ≡ false
no_percent-scheme x e = grind (arith, nat_tests)

-- what a text lacks, the rest after its scheme lacks

pub Lacks-after_scheme : (q : ℕ → Bool) (text : List ℕ) → Lacks q text → Lacks q (after_scheme text)
unfolding after_scheme
Lacks-after_scheme q text h =
    let rest = without_leading is_scheme_byte text in
    let in_rest = Lacks-back q (take (prefix_len is_scheme_byte text) text) rest (ap (list_any q) (take-append-drop (prefix_len is_scheme_byte text) text) ∙ h) in
    cond_both (has_scheme text) (drop 3 rest) text (Lacks q) (λ _. Lacks-back q (take 3 rest) (drop 3 rest) (ap (list_any q) (take-append-drop 3 rest) ∙ in_rest)) (λ _. h)

pub plain-after_scheme : (text : List ℕ) → IsPlain text → IsPlain (after_scheme text)
unfolding after_scheme
plain-after_scheme text h =
    let rest = without_leading is_scheme_byte text in
    let in_rest = plain-back (take (prefix_len is_scheme_byte text) text) rest (ap has_escape (take-append-drop (prefix_len is_scheme_byte text) text) ∙ h) in
    cond_both (has_scheme text) (drop 3 rest) text IsPlain (λ _. plain-back (take 3 rest) (drop 3 rest) (ap has_escape (take-append-drop 3 rest) ∙ in_rest)) (λ _. h)
