-- A host stays as it is when it is read again.
use Rattle.std.proofs.Common.{◌≡◌, ℕ, ◌<◌, List, [], ◌∷◌, ◌++◌, Bool, true, false, not, ◌||◌, eqb, length, map, refl, sym, ap, ◌∙◌, arith, ⊎_elim}
use Rattle.std.specs.List.{list_any, AllByRecursion, slice_split, onto_first, filter, join_with_byte, before_first}
use Rattle.std.specs.Char.{to_ascii_lowercase}
use Rattle.std.specs.Str.{str_to_ascii_lowercase}
use Rattle.std.proofs.lemmas.Bool.{cond-true, cond-false, or_parts, and_parts, and_from, eq-eqb, eqb-true, cases_Bool, false≢true, true_from_ne_false, false_from_ne_true}
use Rattle.std.proofs.lemmas.List.{map-append}
use Rattle.url_canon.specs.Words.{begins_with, is_nil, without_leading, from_first, is_dot}
use Rattle.url_canon.specs.Host.{is_opening_bracket, is_close, is_colon, is_bracketed, labels_of, name_before_port}
use Rattle.url_canon.proofs.Splits.{Lacks, Lacks-slice_split}
use Rattle.url_canon.proofs.Cuts.{split_none, before_first-none, none-before_first, before-and-from}
use Rattle.url_canon.proofs.Paths.{split_at}
use Rattle.url_canon.proofs.Trims.{without_leading-yes, without_leading-not}
use Rattle.url_canon.proofs.Lacking.{Lacks-before_first, Lacks-parts, Lacks-join, each-filter, IgnoresCase, any-lowercase, lowercase_same, ignores_below, ignores_between, IsPlain, plain-front, plain-parts, plain-join, has_escape-lower}
use Rattle.url_canon.proofs.Unescapes.{has_escape}

-- labels, joined and split again

pub split_join : (c : ℕ) (ls : List (List ℕ)) → 0 < length ls → AllByRecursion (Lacks (λ x. eqb x c)) ls → slice_split (λ x. eqb x c) (join_with_byte c ls) ≡ ls
split_join c [] some h = absurd (omega arith)
split_join c (l ∷ []) some h = split_none (λ x. eqb x c) l h.0
split_join c (l ∷ m ∷ ls) some h =
    split_at (λ x. eqb x c) l c (join_with_byte c (m ∷ ls)) h.0 (eq-eqb c c refl) ∙ ap (λ r. l ∷ r) (split_join c (m ∷ ls) (omega arith) h.1)

-- what a label of a name in lower case is
pub record IsLabel (label : List ℕ) : Type 0 where
  pub some : is_nil label ≡ false
  pub dotless : Lacks is_dot label
  pub no_port : Lacks is_colon label
  pub lower : str_to_ascii_lowercase label ≡ label

each-of : (P Q : List ℕ → Type 0) (ls : List (List ℕ)) → ((l : List ℕ) → P l → Q l) → AllByRecursion P ls → AllByRecursion Q ls
each-of P Q [] f h = tt
each-of P Q (l ∷ ls) f h = (f l h.0, each-of P Q ls f h.1)

filter_same : (ls : List (List ℕ)) → AllByRecursion IsLabel ls → filter (λ l. not (is_nil l)) ls ≡ ls
filter_same [] h = refl
filter_same (l ∷ ls) h =
    cond-true (not (is_nil l)) (l ∷ filter (λ l. not (is_nil l)) ls) (filter (λ l. not (is_nil l)) ls) (ap not h.0.some) ∙ ap (λ r. l ∷ r) (filter_same ls h.1)

labels_of-join : (ls : List (List ℕ)) → AllByRecursion IsLabel ls → labels_of (join_with_byte 46 ls) ≡ ls
labels_of-join [] h = refl
labels_of-join (l ∷ ls) h =
    ap (filter (λ l. not (is_nil l))) (split_join 46 (l ∷ ls) (omega arith) (each-of IsLabel (Lacks is_dot) (l ∷ ls) (λ l k. k.dotless) h)) ∙ filter_same (l ∷ ls) h

lower_join : (ls : List (List ℕ)) → str_to_ascii_lowercase (join_with_byte 46 ls) ≡ join_with_byte 46 (map str_to_ascii_lowercase ls)
lower_join [] = refl
lower_join (x ∷ []) = refl
lower_join (x ∷ y ∷ ls) =
    map-append to_ascii_lowercase x (46 ∷ join_with_byte 46 (y ∷ ls)) ∙ ap (λ r. str_to_ascii_lowercase x ++ (46 ∷ r)) (lower_join (y ∷ ls))

map_same : (ls : List (List ℕ)) → AllByRecursion IsLabel ls → map str_to_ascii_lowercase ls ≡ ls
map_same [] h = refl
map_same (l ∷ ls) h = ap (λ x. x ∷ map str_to_ascii_lowercase ls) h.0.lower ∙ ap (λ r. l ∷ r) (map_same ls h.1)

pub name_of-join : (ls : List (List ℕ)) → AllByRecursion IsLabel ls → name_before_port (join_with_byte 46 ls) ≡ join_with_byte 46 ls
unfolding name_before_port
name_of-join ls h =
    ap (λ t. str_to_ascii_lowercase (join_with_byte 46 (labels_of t))) (before_first-none is_colon (join_with_byte 46 ls) (Lacks-join is_colon 46 ls refl (each-of IsLabel (Lacks is_colon) ls (λ l k. k.no_port) h)))
    ∙ (ap (λ r. str_to_ascii_lowercase (join_with_byte 46 r)) (labels_of-join ls h) ∙ (lower_join ls ∙ ap (join_with_byte 46) (map_same ls h)))

-- the labels of a name that was read

abbrev lower_labels : List ℕ → List (List ℕ)
lower_labels text = map str_to_ascii_lowercase (labels_of (before_first is_colon text))

name_is : (text : List ℕ) → name_before_port text ≡ join_with_byte 46 (lower_labels text)
unfolding name_before_port
name_is text = lower_join (labels_of (before_first is_colon text))

is_nil-lower : (l : List ℕ) → is_nil (str_to_ascii_lowercase l) ≡ is_nil l
is_nil-lower [] = refl
is_nil-lower (x ∷ l) = refl

label_of : (l : List ℕ) → is_nil l ≡ false → Lacks is_dot l → Lacks is_colon l → IsLabel (str_to_ascii_lowercase l)
label_of l some dotless no_port = record {
  some = is_nil-lower l ∙ some;
  dotless = any-lowercase is_dot l (ignores_below 46 (omega arith)) ∙ dotless;
  no_port = any-lowercase is_colon l (ignores_below 58 (omega arith)) ∙ no_port;
  lower = lowercase_same l;
}

labels-filter : (parts : List (List ℕ)) → AllByRecursion (Lacks is_dot) parts → AllByRecursion (Lacks is_colon) parts → AllByRecursion IsLabel (map str_to_ascii_lowercase (filter (λ l. not (is_nil l)) parts))
labels-filter [] h k = tt
labels-filter ([] ∷ parts) h k = labels-filter parts h.1 k.1
labels-filter ((b ∷ bs) ∷ parts) h k = (label_of (b ∷ bs) refl h.0 k.0, labels-filter parts h.1 k.1)

labels : (text : List ℕ) → AllByRecursion IsLabel (lower_labels text)
labels text =
    let before = before_first is_colon text in
    labels-filter (slice_split is_dot before) (Lacks-slice_split is_dot before) (Lacks-parts is_colon is_dot before (none-before_first is_colon text))

pub name_of-again : (text : List ℕ) → name_before_port (name_before_port text) ≡ name_before_port text
name_of-again text = ap name_before_port (name_is text) ∙ (name_of-join (lower_labels text) (labels text) ∙ sym (name_is text))

-- what the text lacks, its name lacks
pub Lacks-name_of : (q : ℕ → Bool) (text : List ℕ) → IgnoresCase q → q 46 ≡ false → Lacks q text → Lacks q (name_before_port text)
unfolding name_before_port
Lacks-name_of q text same e h =
    let before = before_first is_colon text in
    any-lowercase q (join_with_byte 46 (labels_of before)) same ∙ Lacks-join q 46 (labels_of before) e (each-filter (Lacks q) (λ l. not (is_nil l)) (slice_split is_dot before) (Lacks-parts q is_dot before (Lacks-before_first q is_colon text h)))

pub plain-name_of : (text : List ℕ) → IsPlain text → IsPlain (name_before_port text)
unfolding name_before_port
plain-name_of text h =
    let before = before_first is_colon text in
    has_escape-lower (join_with_byte 46 (labels_of before)) ∙ plain-join 46 (labels_of before) refl refl (each-filter IsPlain (λ l. not (is_nil l)) (slice_split is_dot before) (plain-parts is_dot before (plain-front before (from_first is_colon text) (ap has_escape (before-and-from is_colon text) ∙ h))))

-- a name that was not in brackets is not in brackets

joined_begins : (p : ℕ → Bool) (x : ℕ) (part : List ℕ) (rest : List (List ℕ)) → begins_with p (join_with_byte 46 ((x ∷ part) ∷ rest)) ≡ p x
joined_begins p x part [] = refl
joined_begins p x part (y ∷ rest) = refl

kept_begins : (p : ℕ → Bool) (x : ℕ) (parts : List (List ℕ)) → begins_with p (join_with_byte 46 (filter (λ l. not (is_nil l)) (onto_first x parts))) ≡ p x
kept_begins p x [] = refl
kept_begins p x (part ∷ parts) = joined_begins p x part (filter (λ l. not (is_nil l)) parts)

labels_begin : (p : ℕ → Bool) (text : List ℕ) → begins_with p (join_with_byte 46 (labels_of text)) ≡ begins_with p (without_leading is_dot text)
labels_begin p [] = refl
labels_begin p (x ∷ text) =
    ⊎_elim
    (λ dot. ap (λ parts. begins_with p (join_with_byte 46 (filter (λ l. not (is_nil l)) parts))) (cond-true (is_dot x) ([] ∷ slice_split is_dot text) (onto_first x (slice_split is_dot text)) dot) ∙ (labels_begin p text ∙ sym (ap (begins_with p) (without_leading-yes is_dot x text dot))))
    (λ other. ap (λ parts. begins_with p (join_with_byte 46 (filter (λ l. not (is_nil l)) parts))) (cond-false (is_dot x) ([] ∷ slice_split is_dot text) (onto_first x (slice_split is_dot text)) other) ∙ (kept_begins p x (slice_split is_dot text) ∙ sym (ap (begins_with p) (without_leading-not is_dot x text other))))
    (cases_Bool (is_dot x))

begins_more : (p : ℕ → Bool) (xs ys : List ℕ) → begins_with p (without_leading is_dot xs) ≡ true → begins_with p (without_leading is_dot (xs ++ ys)) ≡ true
begins_more p [] ys e = absurd (false≢true e)
begins_more p (x ∷ xs) ys e =
    ⊎_elim
    (λ dot. ap (begins_with p) (without_leading-yes is_dot x (xs ++ ys) dot) ∙ begins_more p xs ys (sym (ap (begins_with p) (without_leading-yes is_dot x xs dot)) ∙ e))
    (λ other. ap (begins_with p) (without_leading-not is_dot x (xs ++ ys) other) ∙ (sym (ap (begins_with p) (without_leading-not is_dot x xs other)) ∙ e))
    (cases_Bool (is_dot x))

pub begins-lower : (p : ℕ → Bool) (text : List ℕ) → IgnoresCase p → begins_with p (str_to_ascii_lowercase text) ≡ begins_with p text
begins-lower p [] same = refl
begins-lower p (x ∷ text) same = same x

-- dots do not matter for what is no dot
pub any-without_leading : (q : ℕ → Bool) (text : List ℕ) → q 46 ≡ false → list_any q (without_leading is_dot text) ≡ list_any q text
any-without_leading q [] e = refl
any-without_leading q (x ∷ text) e =
    ⊎_elim
    (λ dot. ap (list_any q) (without_leading-yes is_dot x text dot) ∙ (any-without_leading q text e ∙ ap (λ r. r || list_any q text) (sym (ap q (eqb-true x 46 dot) ∙ e))))
    (λ other. ap (list_any q) (without_leading-not is_dot x text other))
    (cases_Bool (is_dot x))

pub open_same : IgnoresCase is_opening_bracket
open_same = ignores_between 91 (omega arith) (omega arith)

pub close_same : IgnoresCase is_close
close_same = ignores_between 93 (omega arith) (omega arith)

name_begins : (text : List ℕ) → begins_with is_opening_bracket (name_before_port text) ≡ true → begins_with is_opening_bracket (without_leading is_dot text) ≡ true
unfolding name_before_port
name_begins text e =
    let before = before_first is_colon text in
    let first = sym (labels_begin is_opening_bracket before) ∙ (sym (begins-lower is_opening_bracket (join_with_byte 46 (labels_of before)) open_same) ∙ e) in
    sym (ap (λ t. begins_with is_opening_bracket (without_leading is_dot t)) (before-and-from is_colon text)) ∙ begins_more is_opening_bracket before (from_first is_colon text) first

name_closes : (text : List ℕ) → list_any is_close (name_before_port text) ≡ true → list_any is_close (without_leading is_dot text) ≡ true
name_closes text e =
    any-without_leading is_close text refl ∙ true_from_ne_false (list_any is_close text) (λ none. false≢true (sym (Lacks-name_of is_close text close_same refl none) ∙ e))

-- a name has no dot in front
name_starts : (ls : List (List ℕ)) → AllByRecursion IsLabel ls → without_leading is_dot (join_with_byte 46 ls) ≡ join_with_byte 46 ls
name_starts [] h = refl
name_starts ([] ∷ ls) h = absurd (false≢true (sym h.0.some))
name_starts ((x ∷ l) ∷ []) h = without_leading-not is_dot x l (or_parts (is_dot x) (list_any is_dot l) h.0.dotless).0
name_starts ((x ∷ l) ∷ m ∷ ls) h = without_leading-not is_dot x (l ++ (46 ∷ join_with_byte 46 (m ∷ ls))) (or_parts (is_dot x) (list_any is_dot l) h.0.dotless).0

pub not_bracketed : (text : List ℕ) → is_bracketed (without_leading is_dot text) ≡ false → is_bracketed (without_leading is_dot (name_before_port text)) ≡ false
not_bracketed text e =
    let name = name_before_port text in
    let start : without_leading is_dot name ≡ name = ap (without_leading is_dot) (name_is text) ∙ (name_starts (lower_labels text) (labels text) ∙ sym (name_is text)) in
    ap is_bracketed start ∙ false_from_ne_true (is_bracketed name) (λ both. let parts = and_parts (begins_with is_opening_bracket name) (list_any is_close name) both in false≢true (sym e ∙ and_from (begins_with is_opening_bracket (without_leading is_dot text)) (list_any is_close (without_leading is_dot text)) (name_begins text parts.0) (name_closes text parts.1)))
