use Rattle.std.proofs.Common.{◌≡◌, ◌+◌, ◌-◌, List, ℕ, length, take, drop, sym, ap, ◌∙◌}
use Rattle.std.specs.List.{prefix_len}
use Rattle.std.proofs.lemmas.Bool.{cond-true}
use Rattle.std.proofs.lemmas.List.{drop-drop, take_rest}
use Rattle.http_serving.specs.Targets.{after_scheme_bytes, from_slash, is_absolute, is_scheme_byte}
use Rattle.http_serving.proofs.targets.without_authority.Goals as goal

later : (target : List ℕ) (len : ℕ) → len ≡ prefix_len is_scheme_byte target → take (length target - (len + 3)) (drop (len + 3) target) ≡ drop 3 (after_scheme_bytes target)
later target len at = take_rest target (len + 3) ∙ (sym (drop-drop 3 len target) ∙ ap (λ k. drop 3 (drop k target)) at)

pub returns-in-Some : goal.returns-in-Some
returns-in-Some c =
    let found = c.in-Some.ensures in
    let target = c.args.target.now in
    c.from_slash.ensures ∙ ap from_slash (later target c.in-Some.len found.1)
    ∙ sym (cond-true (is_absolute target) (from_slash (drop 3 (after_scheme_bytes target))) target found.0)
