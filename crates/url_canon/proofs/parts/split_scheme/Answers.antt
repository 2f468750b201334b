use Rattle.std.proofs.Common.{◌≡◌, ◌+◌, ◌-◌, List, ℕ, true, length, take, drop, sym, ap, ◌∙◌}
use Rattle.std.specs.List.{prefix_len}
use Rattle.std.proofs.lemmas.Bool.{cond-true}
use Rattle.std.proofs.lemmas.List.{drop-drop, take_rest}
use Rattle.url_canon.specs.Parts.{has_scheme, after_scheme, is_scheme_byte}
use Rattle.url_canon.proofs.parts.split_scheme.Goals as goal

later : (text : List ℕ) (len : ℕ) → has_scheme text ≡ true → len ≡ prefix_len is_scheme_byte text → take (length text - (len + 3)) (drop (len + 3) text) ≡ after_scheme text
unfolding after_scheme
later text len has at =
    take_rest text (len + 3) ∙ (sym (drop-drop 3 len text) ∙ (ap (λ k. drop 3 (drop k text)) at ∙ sym (cond-true (has_scheme text) (drop 3 (drop (prefix_len is_scheme_byte text) text)) text has)))

pub returns-in-Some-clause-after : goal.returns-in-Some-clause-after
returns-in-Some-clause-after c =
    let found = c.in-Some.ensures in later c.args.text.now c.in-Some.len found.0 found.1
