use Rattle.std.proofs.Common.{◌≡◌, ◌*◌, List, ◌++◌, length, take, drop, Option, sym, ap, subst, ◌∙◌, arith, All}
use Rattle.std.specs.Prelude.{IfSome, ℕ}
use Rattle.std.proofs.lemmas.List.{take-append-drop}
use Rattle.sb_model.specs.Prefixes.{concatenation}
use Rattle.prefix_set.specs.Limits.{IsPrefixSet}
use Rattle.prefix_set.specs.declared.set.PrefixSet.{PrefixSet}
use Rattle.client_store.proofs.Sets.{read_at_once}
use Rattle.client_store.proofs.prefixes.whole_at.Goals as goal

pub returns-in-Some : goal.returns-in-Some
returns-in-Some c =
    let bytes = c.args.bytes.now in
    let front = c.split_at.result.0.now in
    let rest = c.split_at.result.1.now in
    let set = c.in-Some.set in
    let n = c.args.size * c.args.count in
    let made = subst (λ (found : Option PrefixSet). IfSome found (λ s. IsPrefixSet s × All (λ member. length member ≡ c.args.size) s × (concatenation s ≡ front))) c.in-Some.is c.in_ok-set.ensures.some in
    let parts : bytes ≡ front ++ rest =
    sym (take-append-drop n bytes) ∙ ap (λ (xs : List ℕ). xs ++ drop n bytes) (sym c.split_at.ensures.front) ∙ ap (λ (xs : List ℕ). front ++ xs) (sym c.split_at.ensures.back)
    in
    read_at_once c.args.size c.args.count set bytes front rest c.requires made.0 made.1 made.2 (omega (arith, c.split_at.ensures.front_len)) parts
