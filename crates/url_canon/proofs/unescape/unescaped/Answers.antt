use Rattle.std.proofs.Common.{◌≡◌, ℕ, List, None, ◌+◌, ◌++◌, take, drop, ap, sym, subst, ◌∙◌, arith}
use Rattle.std.proofs.lemmas.List.{take-append-drop}
use Rattle.memchr.specs.Find.{IsFirstByte}
use Rattle.url_canon.specs.Unescaping.{unescaped, IsUnescapedOf}
use Rattle.url_canon.proofs.Unescapes.{unescaped_is}
use Rattle.url_canon.proofs.Places.{found_any, lacks_before, lacks_after}
use Rattle.url_canon.proofs.Inplace.{is_percent, unescaped-front, unescaped-same, written_back}
use Rattle.url_canon.proofs.unescape.unescaped.Goals as goal

pub unescape_part-top-requires-clause-ended : goal.unescape_part-top-requires-clause-ended
unescape_part-top-requires-clause-ended c =
    let text = c.args.text.now in
    let at : c.as_mut_slice.result.now ≡ text = c.as_mut_slice.ensures.value ∙ c.in_ok-bytes.ensures.items in
    let last = c.in-Some-memrchr.last in
    subst (λ b. unescaped (drop (last + 1) b) ≡ drop (last + 1) b) (sym at) (unescaped-same (drop (last + 1) text) (lacks_after is_percent text last c.in-Some-memrchr.ensures))

none_found : (text items : List ℕ) → items ≡ text → IsFirstByte is_percent text None → items ≡ unescaped text
none_found text items same none = same ∙ sym (unescaped-same text (sym (found_any is_percent text None none)))

pub returns-in_default-clause-value : goal.returns-in_default-clause-value
returns-in_default-clause-value c = none_found c.args.text.now c.in_ok-bytes.bytes.items c.in_ok-bytes.ensures.items c.in_default.ensures

pub returns-in_default-clause-unescaped : goal.returns-in_default-clause-unescaped
returns-in_default-clause-unescaped c =
    let text = c.args.text.now in
    let value = none_found text c.in_ok-bytes.bytes.items c.in_ok-bytes.ensures.items c.in_default.ensures in
    subst (IsUnescapedOf text) (sym value) (unescaped_is text)

pub returns : goal.returns
returns c =
    let text = c.args.text.now in
    let first = c.in-Some.first in
    let top = c.unescape_part-top.result in
    let new = c.unescape_part-top.new.bytes in
    let at : c.as_mut_slice.result.now ≡ text = c.as_mut_slice.ensures.value ∙ c.in_ok-bytes.ensures.items in
    let back = written_back new c.in_ok-bytes.bytes.items c.in_ok-bytes.bytes.len (omega arith) (omega arith) in
    let value = c.remove_places.ensures
    ∙ (ap (λ b. take first b ++ drop top b) back
    ∙ (ap (λ r. r ++ drop top new) (c.unescape_part-top.ensures.front ∙ ap (λ b. take first b) at)
    ∙ (ap (λ r. take first text ++ r) (c.unescape_part-top.ensures.value ∙ ap (λ b. unescaped (drop first b)) at)
    ∙ (sym (unescaped-front (take first text) (drop first text) (lacks_before is_percent text first c.in-Some.ensures)) ∙ ap unescaped (take-append-drop first text))))) in
    record { value = value; unescaped = subst (IsUnescapedOf text) (sym value) (unescaped_is text) }
