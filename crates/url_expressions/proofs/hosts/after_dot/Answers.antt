use Rattle.std.proofs.Common.{◌≡◌, ℕ, List, ◌+◌, ◌-◌, ◌≤◌, Some, None, length, take, drop, sym, ap, subst, ◌∙◌, arith, length-drop}
use Rattle.std.proofs.lemmas.List.{take_rest, drop-drop}
use Rattle.memchr.specs.Find.{IsFirstByte}
use Rattle.url_canon.specs.Words.{is_dot}
use Rattle.url_expressions.specs.Expressions.{components}
use Rattle.url_expressions.proofs.Search.{found_position}
use Rattle.url_expressions.proofs.Components.{components_found, components_none}
use Rattle.url_expressions.proofs.hosts.after_dot.Goals as goal

none_after : (host : List ℕ) (place : ℕ) → IsFirstByte is_dot (take (length host - place) (drop place host)) None → length (components (drop place host)) ≡ 1
none_after host place found =
    let there = subst (λ t. IsFirstByte is_dot t None) (take_rest host place) found in
    ap (λ cs. length cs) (components_none (drop place host) (found_position is_dot (drop place host) None there))

found_after : (host : List ℕ) (place dot : ℕ) → place ≤ length host → IsFirstByte is_dot (take (length host - place) (drop place host)) (Some dot) → (place + dot + 1 ≤ length host) × (components (drop (place + dot + 1) host) ≡ drop 1 (components (drop place host)))
found_after host place dot within found =
    let there = subst (λ t. IsFirstByte is_dot t (Some dot)) (take_rest host place) found in
    let high = there.0.high in
    let at : place + dot + 1 ≡ place + (dot + 1) = omega arith in (
      omega (arith, length-drop place host),
      ap (λ n. components (drop n host)) at ∙ (ap components (sym (drop-drop (dot + 1) place host)) ∙ sym (ap (λ cs. drop 1 cs) (components_found (drop place host) dot (found_position is_dot (drop place host) (Some dot) there)))),
    )

pub returns-in-None : goal.returns-in-None
returns-in-None c = record {
  within = c.requires;
  value = λ more. absurd (omega (arith, more, none_after c.args.host.now c.args.place c.in-None.ensures));
}

pub returns-in-Some : goal.returns-in-Some
returns-in-Some c =
    let found = found_after c.args.host.now c.args.place c.in-Some.dot c.requires c.in-Some.ensures in
    record { within = found.0; value = λ _. found.1 }
