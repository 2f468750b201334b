use Rattle.std.proofs.Common.{◌≡◌, ℕ, List, not, ◌≤◌, ◌<◌, length, Result, Err, sym, ap, subst, ◌∙◌, arith}
use Rattle.std.specs.List.{before_first, filter}
use Rattle.url_canon.specs.Cleaning.{is_hash, is_line_byte, without_fragment, trimmed}
use Rattle.url_canon.specs.Url.{Url}
use Rattle.url_canon.specs.Canonical.{canonical_of, canonical_of_cleaned, Answers}
use Rattle.url_canon.specs.declared.fault.UrlFault.{UrlFault}
use Rattle.url_canon.specs.declared.fault.UrlFault.TheVariants.{Empty, NoHost, TooLong}
use Rattle.url_canon.proofs.Stays.{filter_all}
use Rattle.url_canon.proofs.Whole.{canonical_of-long, canonical_of-short, empty_when, no_host_when, too_long_when, decides, told, by_steps}
use Rattle.url_canon.proofs.canonicalize.canonical.Goals as goal

from_line : (text line : List ℕ) (result : Result Url UrlFault) → length text ≤ 8192 → line ≡ filter (λ byte. not (is_line_byte byte)) text → Answers result (canonical_of_cleaned (trimmed (before_first is_hash line))) → Answers result (canonical_of text)
unfolding without_fragment
from_line text line result short at h =
    subst (Answers result) (sym (canonical_of-short text short ∙ ap (λ l. canonical_of_cleaned (trimmed (before_first is_hash l))) (sym at))) h

long_only : (text : List ℕ) (result : Result Url UrlFault) → length text ≤ 8192 → Answers result (canonical_of text) → result ≡ Err (TooLong (length text)) → 8192 < length text
long_only text result short h e = (too_long_when text).0 (told result text (length text) h e)

pub returns-then-text-gt-MAX_LEN-clause-exact : goal.returns-then-text-gt-MAX_LEN-clause-exact
returns-then-text-gt-MAX_LEN-clause-exact c = canonical_of-long c.args.text.now c.if-text-gt-MAX_LEN.true

pub returns-then-not-has_line_byte : goal.returns-then-not-has_line_byte
returns-then-not-has_line_byte c =
    let text = c.args.text.now in
    let result = c.canonical_of_line.result in
    let exact = from_line text text result c.if-text-gt-MAX_LEN.false (sym (filter_all is_line_byte text (sym c.if-not-has_line_byte.ensures))) c.canonical_of_line.ensures in
    record {
      exact = exact;
      steps = λ plain. by_steps result text plain exact;
      too_long = (long_only text result c.if-text-gt-MAX_LEN.false exact, λ h. absurd (omega arith));
      empty = decides result text Empty _ exact (empty_when text);
      no_host = decides result text NoHost _ exact (no_host_when text);
    }

pub returns : goal.returns
returns c =
    let text = c.args.text.now in
    let result = c.canonical_of_line-2.result in
    let exact = from_line text c.as_slice.result.now result c.if-text-gt-MAX_LEN.false (c.as_slice.ensures.value ∙ c.in_ok-line.ensures) c.canonical_of_line-2.ensures in
    record {
      exact = exact;
      steps = λ plain. by_steps result text plain exact;
      too_long = (long_only text result c.if-text-gt-MAX_LEN.false exact, λ h. absurd (omega arith));
      empty = decides result text Empty _ exact (empty_when text);
      no_host = decides result text NoHost _ exact (no_host_when text);
    }
