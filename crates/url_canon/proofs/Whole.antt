-- The canonical URL of a text, step by step.
use Rattle.std.proofs.Common.{◌≡◌, ◌↔◌, ℕ, ◌≤◌, ◌<◌, List, [], ◌∷◌, ltb, length, Result, Ok, Err, Option, Some, None, refl, sym, ap, ◌∙◌, arith, subst, ⊎_elim}
use Rattle.std.proofs.lemmas.Bool.{cond-true, cond-false, lt-ltb, le-ltb, cases_lt}
use Rattle.url_canon.specs.Cleaning.{without_fragment, trimmed}
use Rattle.url_canon.specs.Unescaping.{unescaped, IsUnescapedOf}
use Rattle.url_canon.proofs.Unescapes.{unescaped_only}
use Rattle.url_canon.specs.Parts.{scheme_of, after_scheme, after_authority}
use Rattle.url_canon.specs.Host.{HostParts}
use Rattle.url_canon.specs.Url.{Url}
use Rattle.url_canon.specs.Canonical.{host_in, url_at, url_parts_of, escaped_parts, canonical_of_cleaned, canonical_of, Answers}
use Rattle.url_canon.specs.declared.fault.UrlFault.{UrlFault}
use Rattle.url_canon.specs.declared.fault.UrlFault.TheVariants.{Empty, NoHost, TooLong, OutOfMemory}

pub canonical_of-long : (text : List ℕ) → 8192 < length text → canonical_of text ≡ Err (TooLong (length text))
unfolding canonical_of
canonical_of-long text h = cond-true (ltb 8192 (length text)) (Err (TooLong (length text))) (canonical_of_cleaned (trimmed (without_fragment text))) (lt-ltb 8192 (length text) h)

pub canonical_of-short : (text : List ℕ) → length text ≤ 8192 → canonical_of text ≡ canonical_of_cleaned (trimmed (without_fragment text))
unfolding canonical_of
canonical_of-short text h = cond-false (ltb 8192 (length text)) (Err (TooLong (length text))) (canonical_of_cleaned (trimmed (without_fragment text))) (le-ltb 8192 (length text) h)

pub cleaned-none : (text : List ℕ) → length text ≡ 0 → canonical_of_cleaned text ≡ Err Empty
cleaned-none [] e = refl
cleaned-none (b ∷ bs) e = absurd (omega arith)

pub cleaned-some : (text : List ℕ) → 0 < length text → canonical_of_cleaned text ≡ escaped_parts (url_parts_of (unescaped text))
cleaned-some [] h = absurd (omega arith)
cleaned-some (b ∷ bs) h = refl

pub parts_of-none : (plain : List ℕ) → host_in plain ≡ None → url_parts_of plain ≡ Err NoHost
unfolding url_parts_of
parts_of-none plain e = ap (λ h. url_at (scheme_of plain) h (after_authority (after_scheme plain))) e

pub parts_of-some : (plain : List ℕ) (host : HostParts) → host_in plain ≡ Some host → url_parts_of plain ≡ url_at (scheme_of plain) (Some host) (after_authority (after_scheme plain))
unfolding url_parts_of
parts_of-some plain host e = ap (λ h. url_at (scheme_of plain) h (after_authority (after_scheme plain))) e

-- which fault a text has

none-fault : (scheme rest : List ℕ) (host : Option HostParts) → escaped_parts (url_at scheme host rest) ≡ Err NoHost → host ≡ None
none-fault scheme rest None e = refl
none-fault scheme rest (Some host) e = absurd (cc)

other-fault : (scheme rest : List ℕ) (host : Option HostParts) (fault : UrlFault) → (fault ≡ NoHost → ⊥) → escaped_parts (url_at scheme host rest) ≡ Err fault → ⊥
other-fault scheme rest None fault other e = other (cc)
other-fault scheme rest (Some host) fault other e = cc

abbrev cleaned : List ℕ → List ℕ
cleaned text = trimmed (without_fragment text)

cleaned_empty : (text : List ℕ) → canonical_of_cleaned text ≡ Err Empty → text ≡ []
unfolding url_parts_of
cleaned_empty [] e = refl
cleaned_empty (b ∷ bs) e =
    let plain = unescaped (b ∷ bs) in
    absurd (other-fault (scheme_of plain) (after_authority (after_scheme plain)) (host_in plain) Empty (λ f. cc) e)

cleaned_no_host : (text : List ℕ) → canonical_of_cleaned text ≡ Err NoHost → (text ≡ [] → ⊥) × (host_in (unescaped text) ≡ None)
unfolding url_parts_of
cleaned_no_host [] e = absurd (cc)
cleaned_no_host (b ∷ bs) e =
    let plain = unescaped (b ∷ bs) in
    (λ f. cc, none-fault (scheme_of plain) (after_authority (after_scheme plain)) (host_in plain) e)

some_no_host : (text : List ℕ) → (text ≡ [] → ⊥) → host_in (unescaped text) ≡ None → canonical_of_cleaned text ≡ Err NoHost
some_no_host [] some e = absurd (some refl)
some_no_host (b ∷ bs) some e = ap escaped_parts (parts_of-none (unescaped (b ∷ bs)) e)

cleaned_short : (text : List ℕ) (n : ℕ) → canonical_of_cleaned text ≡ Err (TooLong n) → ⊥
unfolding url_parts_of
cleaned_short [] n e = cc
cleaned_short (b ∷ bs) n e =
    let plain = unescaped (b ∷ bs) in
    other-fault (scheme_of plain) (after_authority (after_scheme plain)) (host_in plain) (TooLong n) (λ f. cc) e

-- a text that has another fault is short enough
short_where : (text : List ℕ) (fault : UrlFault) → (fault ≡ TooLong (length text) → ⊥) → canonical_of text ≡ Err fault → length text ≤ 8192
short_where text fault other e =
    ⊎_elim (λ long. absurd (other (let f = sym e ∙ canonical_of-long text long in cc))) (λ short. short) (cases_lt 8192 (length text))

pub empty_when : (text : List ℕ) → (canonical_of text ≡ Err Empty) ↔ ((length text ≤ 8192) × (cleaned text ≡ []))
empty_when text = (
  λ e. let short = short_where text Empty (λ f. cc) e in (short, cleaned_empty (cleaned text) (sym (canonical_of-short text short) ∙ e)),
  λ h. canonical_of-short text h.0 ∙ ap canonical_of_cleaned h.1,
)

pub no_host_when : (text : List ℕ) → (canonical_of text ≡ Err NoHost) ↔ ((length text ≤ 8192) × (cleaned text ≡ [] → ⊥) × (host_in (unescaped (cleaned text)) ≡ None))
no_host_when text = (
  λ e. let short = short_where text NoHost (λ f. cc) e in let none = cleaned_no_host (cleaned text) (sym (canonical_of-short text short) ∙ e) in (short, none.0, none.1),
  λ h. canonical_of-short text h.0 ∙ some_no_host (cleaned text) h.1 h.2,
)

pub too_long_when : (text : List ℕ) → (canonical_of text ≡ Err (TooLong (length text))) ↔ (8192 < length text)
too_long_when text = (
  λ e. ⊎_elim (λ long. long) (λ short. absurd (cleaned_short (cleaned text) (length text) (sym (canonical_of-short text short) ∙ e))) (cases_lt 8192 (length text)),
  canonical_of-long text,
)

-- the answer is what the definition says, unless memory was refused
decided : (result wanted : Result Url UrlFault) → Answers result wanted → (result ≡ Err OutOfMemory → ⊥) → wanted ≡ result
decided (Ok url) wanted h some = h
decided (Err Empty) wanted h some = h
decided (Err NoHost) wanted h some = h
decided (Err (TooLong n)) wanted h some = h
decided (Err OutOfMemory) wanted h some = absurd (some refl)

-- what the definition has a fault for, the answer has that fault for
pub decides : (result : Result Url UrlFault) (text : List ℕ) (fault : UrlFault) (P : Type 0) → Answers result (canonical_of text) → ((canonical_of text ≡ Err fault) ↔ P) → (result ≡ Err OutOfMemory → ⊥) → ((result ≡ Err fault) ↔ P)
decides result text fault P h when some =
    let same = decided result (canonical_of text) h some in
    (λ e. when.0 (same ∙ e), λ p. sym same ∙ when.1 p)

-- a fault but want of memory is that of the definition
pub told : (result : Result Url UrlFault) (text : List ℕ) (n : ℕ) → Answers result (canonical_of text) → result ≡ Err (TooLong n) → canonical_of text ≡ Err (TooLong n)
told result text n h e = subst (λ r. Answers r (canonical_of text)) e h

-- whichever steps unescape what is kept of a text, they lead to its URL
pub by_steps : (result : Result Url UrlFault) (text plain : List ℕ) → Answers result (canonical_of text) → length text ≤ 8192 → 0 < length (cleaned text) → IsUnescapedOf (cleaned text) plain → Answers result (escaped_parts (url_parts_of plain))
by_steps result text plain h short some un =
    subst (Answers result) (canonical_of-short text short ∙ (cleaned-some (cleaned text) some ∙ ap (λ p. escaped_parts (url_parts_of p)) (sym (unescaped_only (cleaned text) plain un)))) h
