use Rattle.std.proofs.Common.{ap, sym, ◌∙◌, subst, arith}
use Rattle.std.proofs.lemmas.Bool.{eqb-true, eqb-false}
use Rattle.url_canon.specs.Cleaning.{trimmed}
use Rattle.url_canon.specs.Unescaping.{HasNoEscape}
use Rattle.url_canon.specs.Canonical.{url_parts_of, escaped_parts, canonical_of_cleaned, Answers}
use Rattle.url_canon.proofs.Unescapes.{unescaped_is}
use Rattle.url_canon.proofs.Places.{found_any}
use Rattle.url_canon.proofs.Inplace.{is_percent, unescaped-same}
use Rattle.url_canon.proofs.Whole.{cleaned-none, cleaned-some}
use Rattle.url_canon.proofs.canonicalize.canonical_of_line.Goals as goal

pub canonical_of_plain-requires : goal.canonical_of_plain-requires
canonical_of_plain-requires c =
    let kept = c.trimmed-kept.result.now in
    let lacks = sym (found_any is_percent kept c.memchr.result c.memchr.ensures) ∙ c.if-is_none.ensures in
    subst HasNoEscape (unescaped-same kept lacks) (unescaped_is kept).finished

pub returns-then-is_empty : goal.returns-then-is_empty
returns-then-is_empty c =
    let kept = c.trimmed-kept.ensures ∙ ap trimmed c.before_hash.ensures in
    sym (ap canonical_of_cleaned kept) ∙ cleaned-none c.trimmed-kept.result.now (eqb-true _ 0 (sym c.if-is_empty.ensures))

pub returns-then-is_none : goal.returns-then-is_none
returns-then-is_none c =
    let kept = c.trimmed-kept.result.now in
    let at = c.trimmed-kept.ensures ∙ ap trimmed c.before_hash.ensures in
    let some = eqb-false _ 0 (sym c.if-is_empty.ensures) in
    let lacks = sym (found_any is_percent kept c.memchr.result c.memchr.ensures) ∙ c.if-is_none.ensures in
    subst (Answers c.canonical_of_plain.result) (sym (sym (ap canonical_of_cleaned at) ∙ (cleaned-some kept (omega arith) ∙ ap (λ p. escaped_parts (url_parts_of p)) (unescaped-same kept lacks)))) c.canonical_of_plain.ensures

pub canonical_of_plain-requires-2 : goal.canonical_of_plain-requires-2
canonical_of_plain-requires-2 c = subst HasNoEscape (sym c.as_slice.ensures.value) c.in_ok-plain.ensures.unescaped.finished

pub returns : goal.returns
returns c =
    let kept = c.trimmed-kept.result.now in
    let at = c.trimmed-kept.ensures ∙ ap trimmed c.before_hash.ensures in
    let some = eqb-false _ 0 (sym c.if-is_empty.ensures) in
    let plain = c.as_slice.ensures.value ∙ c.in_ok-plain.ensures.value in
    subst (Answers c.canonical_of_plain-2.result) (sym (sym (ap canonical_of_cleaned at) ∙ (cleaned-some kept (omega arith) ∙ sym (ap (λ p. escaped_parts (url_parts_of p)) plain)))) c.canonical_of_plain-2.ensures
