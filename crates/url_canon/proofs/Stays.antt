-- The text of a canonical URL has that URL again.
use Rattle.std.proofs.Common.{◌≡◌, ℕ, ◌<◌, List, [], ◌∷◌, ◌++◌, Bool, true, false, not, ◌||◌, eqb, length, take, drop, map, reverse, Option, Some, None, Result, Ok, option_map, refl, sym, ap, ◌∙◌, arith, ⊎_elim}
use Rattle.std.specs.List.{list_any, AllByRecursion, flat_map, filter, slice_split, before_first, after_first}
use Rattle.std.proofs.lemmas.Bool.{cond-true, cond-false, or_from, or_parts, or_right, ne_eqb, eqb-true, lt-leb, not_from_false, cases_Bool}
use Rattle.std.proofs.lemmas.Bool.Decides.{nat_tests}
use Rattle.std.proofs.lemmas.List.{append-nil, append_assoc, reverse-append, reverse-reverse, take-append-drop}
use Rattle.url_canon.specs.Words.{last_part, without_leading, without_trailing, from_first}
use Rattle.url_canon.specs.Cleaning.{is_line_byte, is_hash, is_space, without_fragment, trimmed}
use Rattle.url_canon.specs.Unescaping.{HasNoEscape, unescaped}
use Rattle.url_canon.specs.Escaping.{escape_of, escaped, is_unsafe}
use Rattle.url_canon.specs.Parts.{scheme_of, after_scheme, ends_authority, is_at, authority_of, after_authority, is_question, path_part, query_part}
use Rattle.url_canon.specs.Host.{HostParts, host_of}
use Rattle.url_canon.specs.Path.{path_text, path_of}
use Rattle.url_canon.specs.Url.{Url, query_text, text_of_url}
use Rattle.url_canon.specs.Canonical.{host_in, url_at, url_parts_of, escaped_url, escaped_parts, canonical_of_cleaned, StaysCanonical, IsCanonical}
use Rattle.url_canon.specs.declared.fault.UrlFault.{UrlFault}
use Rattle.url_canon.proofs.Splits.{All_ne-lacking, Lacks, Lacks-slice_split}
use Rattle.url_canon.proofs.Cuts.{split_none, none-before_first, before-and-from, before_first-at, before_first-none, from_first-at, after_first-at, from_first-some}
use Rattle.url_canon.proofs.Trims.{without_leading-not}
use Rattle.url_canon.proofs.Unescapes.{has_escape, unescaped_plain, plain_from_finished}
use Rattle.url_canon.proofs.Escapes.{any-escaped, is_wide, AreBytes, none-escaped, unescaped-escaped, escaped_safe, escaped-append, any-append}
use Rattle.url_canon.proofs.Lacking.{Lacks-append, Lacks-back, Lacks-before_first, Lacks-from_first, Lacks-parts, Lacks-path_text, each-last, ignores_below, ignores_wide, IsPlain, plain-front, plain-back, plain-append, plain-after, plain-parts, parts_off}
use Rattle.url_canon.proofs.Paths.{normal-escaped, some-path_of, path_of-again, each-path_of}
use Rattle.url_canon.proofs.Schemes.{IsScheme, scheme_of-is, scheme_of-again, after_scheme-again, Lacks-scheme, safe-scheme, narrow-scheme, no_percent-scheme, Lacks-after_scheme, plain-after_scheme}
use Rattle.url_canon.proofs.HostAgain.{host_of-again, IsApart, Lacks-host_of, plain-host_of}
use Rattle.url_canon.proofs.Whole.{canonical_of-short, cleaned-some, parts_of-some}

-- cleaning leaves an escaped text

Lacks-or : (p q : ℕ → Bool) (xs : List ℕ) → Lacks p xs → Lacks q xs → Lacks (λ x. p x || q x) xs
Lacks-or p q [] h k = refl
Lacks-or p q (x ∷ xs) h k =
    let in_p = or_parts (p x) (list_any p xs) h in
    let in_q = or_parts (q x) (list_any q xs) k in
    or_from (p x || q x) (list_any (λ x. p x || q x) xs) (or_from (p x) (q x) in_p.0 in_q.0) (Lacks-or p q xs in_p.1 in_q.1)

pub filter_all : (p : ℕ → Bool) (xs : List ℕ) → Lacks p xs → filter (λ x. not (p x)) xs ≡ xs
filter_all p [] h = refl
filter_all p (x ∷ xs) h =
    let parts = or_parts (p x) (list_any p xs) h in
    cond-true (not (p x)) (x ∷ filter (λ x. not (p x)) xs) (filter (λ x. not (p x)) xs) (not_from_false (p x) parts.0) ∙ ap (λ r. x ∷ r) (filter_all p xs parts.1)

keeps_front : (p : ℕ → Bool) (xs : List ℕ) → Lacks p xs → without_leading p xs ≡ xs
keeps_front p [] h = refl
keeps_front p (x ∷ xs) h = without_leading-not p x xs (or_parts (p x) (list_any p xs) h).0

Lacks-reverse : (p : ℕ → Bool) (xs : List ℕ) → Lacks p xs → Lacks p (reverse xs)
Lacks-reverse p [] h = refl
Lacks-reverse p (x ∷ xs) h =
    let parts = or_parts (p x) (list_any p xs) h in
    ap (list_any p) (reverse-append (x ∷ []) xs) ∙ Lacks-append p (reverse xs) (x ∷ []) (Lacks-reverse p xs parts.1) (or_from (p x) false parts.0 refl)

keeps_back : (p : ℕ → Bool) (xs : List ℕ) → Lacks p xs → without_trailing p xs ≡ xs
keeps_back p xs h = ap reverse (keeps_front p (reverse xs) (Lacks-reverse p xs h)) ∙ reverse-reverse xs

gone : (c : ℕ) (text : List ℕ) → c < 36 → is_unsafe c ≡ true → Lacks (λ x. eqb x c) (escaped text)
gone c text small unsafe = none-escaped c text (omega arith) unsafe (λ e. omega arith)

cleaned : (text : List ℕ) → trimmed (without_fragment (escaped text)) ≡ escaped text
unfolding trimmed without_fragment
cleaned text =
    let out = escaped text in
    let lines : Lacks is_line_byte out = Lacks-or (λ x. eqb x 9) (λ x. eqb x 10 || eqb x 13) out (gone 9 text (omega arith) refl) (Lacks-or (λ x. eqb x 10) (λ x. eqb x 13) out (gone 10 text (omega arith) refl) (gone 13 text (omega arith) refl)) in
    let kept : before_first is_hash (filter (λ x. not (is_line_byte x)) out) ≡ out = ap (before_first is_hash) (filter_all is_line_byte out lines) ∙ before_first-none is_hash out (gone 35 text (omega arith) refl) in
    let spaceless = gone 32 text (omega arith) refl in
    ap (λ t. without_trailing is_space (without_leading is_space t)) kept ∙ (ap (without_trailing is_space) (keeps_front is_space out spaceless) ∙ keeps_back is_space out spaceless)

-- the text of the escaped URL is the escaped text of the URL

path_text-escaped : (cs : List (List ℕ)) → escaped (path_text cs) ≡ path_text (map escaped cs)
unfolding escaped
path_text-escaped [] = refl
path_text-escaped (c ∷ cs) =
    ap (λ r. 47 ∷ r) (escaped-append c (path_text cs) ∙ ap (λ r. flat_map escape_of c ++ r) (path_text-escaped cs))

query_text-escaped : (query : Option (List ℕ)) → escaped (query_text query) ≡ query_text (option_map escaped query)
unfolding escaped
query_text-escaped None = refl
query_text-escaped (Some query) = refl

separator_stays : (rest : List ℕ) → escaped (58 ∷ 47 ∷ 47 ∷ rest) ≡ 58 ∷ 47 ∷ 47 ∷ escaped rest
unfolding escaped
separator_stays rest = refl

escaped-text_of : (url : Url) → IsScheme url.scheme → text_of_url (escaped_url url) ≡ escaped (text_of_url url)
escaped-text_of url h =
    let rest = path_text url.path ++ query_text url.query in
    let tail : escaped rest ≡ path_text (map escaped url.path) ++ query_text (option_map escaped url.query) = escaped-append (path_text url.path) (query_text url.query) ∙ (ap (λ r. r ++ escaped (query_text url.query)) (path_text-escaped url.path) ∙ ap (λ r. path_text (map escaped url.path) ++ r) (query_text-escaped url.query)) in
    let later : escaped (url.host ++ rest) ≡ escaped url.host ++ (path_text (map escaped url.path) ++ query_text (option_map escaped url.query)) = escaped-append url.host rest ∙ ap (λ r. escaped url.host ++ r) tail in
    let scheme : escaped url.scheme ≡ url.scheme = escaped_safe url.scheme (Lacks-scheme is_unsafe url.scheme safe-scheme h.bytes) in
    sym (escaped-append url.scheme (58 ∷ 47 ∷ 47 ∷ (url.host ++ rest)) ∙ (ap (λ r. r ++ escaped (58 ∷ 47 ∷ 47 ∷ (url.host ++ rest))) scheme ∙ ap (λ r. url.scheme ++ r) (separator_stays (url.host ++ rest) ∙ ap (λ r. 58 ∷ 47 ∷ 47 ∷ r) later)))

-- what the parts of a text are

-- the parts of a URL that was read, unescaped
pub record IsRead (url : Url) : Type 0 where
  pub scheme : IsScheme url.scheme
  pub host : host_of url.host ≡ Some (record { text = url.host; is_address = url.is_address })
  pub no_end : Lacks ends_authority url.host
  pub no_at : Lacks is_at url.host
  pub narrow_host : Lacks is_wide url.host
  pub plain_host : IsPlain url.host
  pub some_path : 0 < length url.path
  pub path_stays : path_of (path_text url.path) ≡ url.path
  pub no_question : AllByRecursion (Lacks is_question) url.path
  pub narrow_path : AllByRecursion (Lacks is_wide) url.path
  pub plain_path : AllByRecursion IsPlain url.path
  pub narrow_query : Lacks is_wide (query_text url.query)
  pub plain_query : IsPlain (query_text url.query)

path_after : (cs : List (List ℕ)) (query : List ℕ) → 0 < length cs → (first : List ℕ) × (path_text cs ++ query ≡ 47 ∷ first)
path_after [] query some = absurd (omega arith)
path_after (c ∷ cs) query some = ((c ++ path_text cs) ++ query, refl)

path_part-again : (cs : List (List ℕ)) (query : Option (List ℕ)) → AllByRecursion (Lacks is_question) cs → path_part (path_text cs ++ query_text query) ≡ path_text cs
unfolding path_part
path_part-again cs None h = ap (before_first is_question) (append-nil (path_text cs)) ∙ before_first-none is_question (path_text cs) (Lacks-path_text is_question cs refl h)
path_part-again cs (Some query) h = before_first-at is_question (path_text cs) 63 query (Lacks-path_text is_question cs refl h) refl

query_part-again : (cs : List (List ℕ)) (query : Option (List ℕ)) → AllByRecursion (Lacks is_question) cs → query_part (path_text cs ++ query_text query) ≡ query
unfolding query_part
query_part-again cs None h =
    cond-false (list_any is_question (path_text cs ++ [])) (Some (after_first is_question (path_text cs ++ []))) None (ap (list_any is_question) (append-nil (path_text cs)) ∙ Lacks-path_text is_question cs refl h)
query_part-again cs (Some query) h =
    cond-true (list_any is_question (path_text cs ++ 63 ∷ query)) (Some (after_first is_question (path_text cs ++ 63 ∷ query))) None (any-append is_question (path_text cs) (63 ∷ query) ∙ or_right (list_any is_question (path_text cs)) true refl)
    ∙ ap Some (after_first-at is_question (path_text cs) 63 query (Lacks-path_text is_question cs refl h) refl)

authority_of-again : (host first : List ℕ) → Lacks ends_authority host → Lacks is_at host → authority_of (host ++ 47 ∷ first) ≡ host
unfolding authority_of
authority_of-again host first no_end no_at =
    ap (λ a. last_part (slice_split is_at a)) (before_first-at ends_authority host 47 first no_end refl) ∙ ap last_part (split_none is_at host no_at)

after_authority-again : (host first : List ℕ) → Lacks ends_authority host → after_authority (host ++ 47 ∷ first) ≡ 47 ∷ first
unfolding after_authority
after_authority-again host first no_end = from_first-at ends_authority host 47 first no_end refl

abbrev whole : List ℕ → List ℕ → Bool → List (List ℕ) → Option (List ℕ) → Result Url UrlFault
whole scheme host is_address path query = Ok (record { scheme = scheme; host = host; path = path; query = query; is_address = is_address })

same_url : (scheme host : List ℕ) (is_address : Bool) (path path' : List (List ℕ)) (query query' : Option (List ℕ)) → path ≡ path' → query ≡ query' → whole scheme host is_address path query ≡ whole scheme host is_address path' query'
same_url scheme host is_address path path' query query' p q =
    ap (λ cs. whole scheme host is_address cs query) p ∙ ap (λ o. whole scheme host is_address path' o) q

read_again : (url : Url) → IsRead url → url_parts_of (text_of_url url) ≡ Ok url
read_again url h =
    let later = path_text url.path ++ query_text url.query in
    let first = path_after url.path (query_text url.query) h.some_path in
    let rest : after_scheme (text_of_url url) ≡ url.host ++ 47 ∷ first.0 = after_scheme-again url.scheme (url.host ++ later) h.scheme ∙ ap (λ r. url.host ++ r) first.1 in
    let host : host_in (text_of_url url) ≡ Some (record { text = url.host; is_address = url.is_address }) = ap (λ r. host_of (authority_of r)) rest ∙ (ap host_of (authority_of-again url.host first.0 h.no_end h.no_at) ∙ h.host) in
    let tail : after_authority (after_scheme (text_of_url url)) ≡ later = ap after_authority rest ∙ (after_authority-again url.host first.0 h.no_end ∙ sym first.1) in
    let read : HostParts = record { text = url.host; is_address = url.is_address } in
    parts_of-some (text_of_url url) read host
    ∙ (ap (λ s. url_at s (Some read) (after_authority (after_scheme (text_of_url url)))) (scheme_of-again url.scheme (url.host ++ later) h.scheme)
    ∙ (ap (λ t. url_at url.scheme (Some read) t) tail
    ∙ same_url url.scheme url.host url.is_address (path_of (path_part later)) url.path (query_part later) url.query (ap path_of (path_part-again url.path url.query h.no_question) ∙ h.path_stays) (query_part-again url.path url.query h.no_question)))

-- the text is one of bytes, and has no escape

narrow : (url : Url) → IsRead url → AreBytes (text_of_url url)
narrow url h =
    Lacks-append is_wide url.scheme (58 ∷ 47 ∷ 47 ∷ (url.host ++ (path_text url.path ++ query_text url.query))) (Lacks-scheme is_wide url.scheme narrow-scheme h.scheme.bytes)
    (Lacks-append is_wide (58 ∷ 47 ∷ 47 ∷ []) (url.host ++ (path_text url.path ++ query_text url.query)) refl (Lacks-append is_wide url.host (path_text url.path ++ query_text url.query) h.narrow_host (Lacks-append is_wide (path_text url.path) (query_text url.query) (Lacks-path_text is_wide url.path refl h.narrow_path) h.narrow_query)))

query_off : (query : Option (List ℕ)) → parts_off (query_text query) ≡ true
query_off None = refl
query_off (Some query) = refl

path_off : (cs : List (List ℕ)) (query : Option (List ℕ)) → parts_off (path_text cs ++ query_text query) ≡ true
path_off [] query = query_off query
path_off (c ∷ cs) query = refl

plain_tail : (cs : List (List ℕ)) (query : Option (List ℕ)) → AllByRecursion IsPlain cs → IsPlain (query_text query) → IsPlain (path_text cs ++ query_text query)
plain_tail [] query h k = k
plain_tail (c ∷ cs) query h k =
    let more = plain_tail cs query h.1 k in
    ap has_escape (append_assoc (47 ∷ c) (path_text cs) (query_text query)) ∙ plain-after (47 ∷ []) (c ++ (path_text cs ++ query_text query)) refl (plain-append c (path_text cs ++ query_text query) h.0 more (path_off cs query))

escapeless : (url : Url) → IsRead url → IsPlain (text_of_url url)
escapeless url h =
    plain-after url.scheme (58 ∷ 47 ∷ 47 ∷ (url.host ++ (path_text url.path ++ query_text url.query))) (Lacks-scheme (λ x. eqb x 37) url.scheme no_percent-scheme h.scheme.bytes)
    (plain-after (58 ∷ 47 ∷ 47 ∷ []) (url.host ++ (path_text url.path ++ query_text url.query)) refl (plain-append url.host (path_text url.path ++ query_text url.query) h.plain_host (plain_tail url.path url.query h.plain_path h.plain_query) (path_off url.path url.query)))

long_enough : (xs ys : List ℕ) (y : ℕ) → 0 < length (xs ++ y ∷ ys)
long_enough [] ys y = omega arith
long_enough (x ∷ xs) ys y = omega arith

pub stays_read : (url : Url) → IsRead url → StaysCanonical (escaped_url url)
stays_read url h short =
    let text = text_of_url url in
    let out = text_of_url (escaped_url url) in
    let same : out ≡ escaped text = escaped-text_of url h.scheme in
    let some : 0 < length out = long_enough url.scheme _ 58 in
    let clean : trimmed (without_fragment out) ≡ out = ap (λ t. trimmed (without_fragment t)) same ∙ (cleaned text ∙ sym same) in
    let back : unescaped out ≡ text = ap unescaped same ∙ (unescaped-escaped text (narrow url h) ∙ unescaped_plain text (escapeless url h)) in
    canonical_of-short out short ∙ (ap canonical_of_cleaned clean ∙ (cleaned-some out some ∙ (ap (λ t. escaped_parts (url_parts_of t)) back ∙ ap escaped_parts (read_again url h))))

-- what is read is read again

ends_apart : IsApart ends_authority
ends_apart = record {
  ignores = λ x. grind (arith, nat_tests);
  dot = refl;
  close = refl;
  figures = λ x low high. or_from (eqb x 47) (eqb x 63) (ne_eqb x 47 (λ e. omega arith)) (ne_eqb x 63 (λ e. omega arith));
  form = λ x b. or_from (eqb x 47) (eqb x 63) b.no_slash b.no_question;
}

at_apart : IsApart is_at
at_apart = record {
  ignores = ignores_below 64 (omega arith);
  dot = refl;
  close = refl;
  figures = λ x low high. ne_eqb x 64 (λ e. omega arith);
  form = λ x b. b.no_at;
}

wide_apart : IsApart is_wide
wide_apart = record {
  ignores = ignores_wide;
  dot = refl;
  close = refl;
  figures = λ x low high. lt-leb 256 x (omega arith);
  form = λ x b. let small = b.narrow in lt-leb 256 x (omega arith);
}

Lacks-authority_of : (q : ℕ → Bool) (text : List ℕ) → Lacks q (before_first ends_authority text) → Lacks q (authority_of text)
unfolding authority_of
Lacks-authority_of q text h = each-last (Lacks q) (slice_split is_at (before_first ends_authority text)) refl (Lacks-parts q is_at (before_first ends_authority text) h)

no_at-authority_of : (text : List ℕ) → Lacks is_at (authority_of text)
unfolding authority_of
no_at-authority_of text = each-last (Lacks is_at) (slice_split is_at (before_first ends_authority text)) refl (Lacks-slice_split is_at (before_first ends_authority text))

plain-authority_of : (text : List ℕ) → IsPlain text → IsPlain (authority_of text)
unfolding authority_of
plain-authority_of text h =
    each-last IsPlain (slice_split is_at (before_first ends_authority text)) refl (plain-parts is_at (before_first ends_authority text) (plain-front (before_first ends_authority text) (from_first ends_authority text) (ap has_escape (before-and-from ends_authority text) ∙ h)))

Lacks-after_authority : (q : ℕ → Bool) (text : List ℕ) → Lacks q text → Lacks q (after_authority text)
unfolding after_authority
Lacks-after_authority q text h = Lacks-from_first q ends_authority text h

plain-after_authority : (text : List ℕ) → IsPlain text → IsPlain (after_authority text)
unfolding after_authority
plain-after_authority text h = plain-back (before_first ends_authority text) (from_first ends_authority text) (ap has_escape (before-and-from ends_authority text) ∙ h)

-- the components of what stands before the query

Lacks-components : (q : ℕ → Bool) (path : List ℕ) → Lacks q path → AllByRecursion (Lacks q) (path_of path)
Lacks-components q path h =
    each-path_of (Lacks q) path refl (Lacks-parts q (λ x. eqb x 47) (drop 1 path) (Lacks-back q (take 1 path) (drop 1 path) (ap (list_any q) (take-append-drop 1 path) ∙ h)))

plain-components : (path : List ℕ) → IsPlain path → AllByRecursion IsPlain (path_of path)
plain-components path h =
    each-path_of IsPlain path refl (plain-parts (λ x. eqb x 47) (drop 1 path) (plain-back (take 1 path) (drop 1 path) (ap has_escape (take-append-drop 1 path) ∙ h)))

Lacks-path_part : (q : ℕ → Bool) (text : List ℕ) → Lacks q text → Lacks q (path_part text)
unfolding path_part
Lacks-path_part q text h = Lacks-before_first q is_question text h

no_question-path_part : (text : List ℕ) → Lacks is_question (path_part text)
unfolding path_part
no_question-path_part text = none-before_first is_question text

plain-path_part : (text : List ℕ) → IsPlain text → IsPlain (path_part text)
unfolding path_part
plain-path_part text h = plain-front (before_first is_question text) (from_first is_question text) (ap has_escape (before-and-from is_question text) ∙ h)

-- the query with its `?` stands at the end of the text
query_at_end : (text : List ℕ) → path_part text ++ query_text (query_part text) ≡ text
unfolding path_part query_part
query_at_end text =
    ⊎_elim
    (λ some. ap (λ o. before_first is_question text ++ query_text o) (cond-true (list_any is_question text) (Some (after_first is_question text)) None some) ∙ (ap (λ r. before_first is_question text ++ r) (marked text some) ∙ before-and-from is_question text))
    (λ none. ap (λ o. before_first is_question text ++ query_text o) (cond-false (list_any is_question text) (Some (after_first is_question text)) None none) ∙ (append-nil (before_first is_question text) ∙ before_first-none is_question text none))
    (cases_Bool (list_any is_question text))
  where
    marked : (text : List ℕ) → list_any is_question text ≡ true → 63 ∷ after_first is_question text ≡ from_first is_question text
    marked text some = from_first-some is_question text 63 (λ x e. eqb-true x 63 e) some

is_read : (plain : List ℕ) (host : HostParts) → IsPlain plain → AreBytes plain → host_in plain ≡ Some host → IsRead (record { scheme = scheme_of plain; host = host.text; path = path_of (path_part (after_authority (after_scheme plain))); query = query_part (after_authority (after_scheme plain)); is_address = host.is_address })
is_read plain host escapes bytes is =
    let rest = after_scheme plain in
    let tail = after_authority rest in
    let authority = authority_of rest in
    let narrow_rest = Lacks-after_scheme is_wide plain bytes in
    let plain_rest = plain-after_scheme plain escapes in
    let narrow_tail = Lacks-after_authority is_wide rest narrow_rest in
    let plain_tail = plain-after_authority rest plain_rest in
    record {
      scheme = scheme_of-is plain;
      host = host_of-again authority host is;
      no_end = Lacks-host_of ends_authority authority host ends_apart (Lacks-authority_of ends_authority rest (none-before_first ends_authority rest)) is;
      no_at = Lacks-host_of is_at authority host at_apart (no_at-authority_of rest) is;
      narrow_host = Lacks-host_of is_wide authority host wide_apart (Lacks-authority_of is_wide rest (Lacks-before_first is_wide ends_authority rest narrow_rest)) is;
      plain_host = plain-host_of authority host (plain-authority_of rest plain_rest) is;
      some_path = some-path_of (path_part tail);
      path_stays = path_of-again (path_part tail);
      no_question = Lacks-components is_question (path_part tail) (no_question-path_part tail);
      narrow_path = Lacks-components is_wide (path_part tail) (Lacks-path_part is_wide tail narrow_tail);
      plain_path = plain-components (path_part tail) (plain-path_part tail plain_tail);
      narrow_query = Lacks-back is_wide (path_part tail) (query_text (query_part tail)) (ap (list_any is_wide) (query_at_end tail) ∙ narrow_tail);
      plain_query = plain-back (path_part tail) (query_text (query_part tail)) (ap has_escape (query_at_end tail) ∙ plain_tail);
    }

abbrev fine : Url → Result Url UrlFault
fine url = Ok url

same_ok : (a b : Url) → fine a ≡ fine b → a ≡ b
same_ok a b f = cc

slashless-host : (plain : List ℕ) (host : HostParts) → host_in plain ≡ Some host → Lacks (λ x. eqb x 47) (escaped host.text)
slashless-host plain host is =
    let rest = after_scheme plain in
    let no_end = Lacks-host_of ends_authority (authority_of rest) host ends_apart (Lacks-authority_of ends_authority rest (none-before_first ends_authority rest)) is in
    any-escaped 47 host.text (record { safe = refl; below = omega arith; apart = λ e. omega arith }) ∙ no_slash host.text no_end
  where
    no_slash : (text : List ℕ) → Lacks ends_authority text → Lacks (λ x. eqb x 47) text
    no_slash [] h = refl
    no_slash (x ∷ text) h =
        let parts = or_parts (ends_authority x) (list_any ends_authority text) h in
        or_from (eqb x 47) (list_any (λ x. eqb x 47) text) (or_parts (eqb x 47) (eqb x 63) parts.0).0 (no_slash text parts.1)

-- the URL of an unescaped text of bytes is canonical
pub canonical-read : (plain : List ℕ) (host : HostParts) → HasNoEscape plain → AreBytes plain → host_in plain ≡ Some host → IsCanonical (escaped_url (record { scheme = scheme_of plain; host = host.text; path = path_of (path_part (after_authority (after_scheme plain))); query = query_part (after_authority (after_scheme plain)); is_address = host.is_address }))
canonical-read plain host escapes bytes is = record {
  again = stays_read _ (is_read plain host (plain_from_finished plain escapes) bytes is);
  host = All_ne-lacking 47 (escaped host.text) (slashless-host plain host is);
  path = normal-escaped (path_part (after_authority (after_scheme plain)));
}
