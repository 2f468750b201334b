use Rattle.std.proofs.Common.{◌≡◌, ◌<◌, get_or, length, subst, arith, rules}
use Rattle.std.specs.Prelude.{All, Contains}
use Rattle.std.proofs.lemmas.List.{take_all}
use Rattle.std.proofs.lemmas.List.Elements.{All-more}
use Rattle.url_checker.specs.declared.findings.Hit.{Hit}
use Rattle.url_checker.proofs.several.has_each.Goals as goal

pub loop-hit-preserved : goal.loop-hit-preserved
loop-hit-preserved c =
    let below : c.loop-hit.hit-index < length c.args.hits.now = omega arith in
    let hit : Hit = c.hit-item.result in
    let at : hit ≡ get_or c.args.hits.now c.loop-hit.hit-index hit = c.hit-item.is in
    let has : Contains c.args.set.now hit.prefix = search rules in
    All-more (λ (one : Hit). Contains c.args.set.now one.prefix) c.args.hits.now c.loop-hit.hit-index hit below c.loop-hit.invariant
    (subst (λ (one : Hit). Contains c.args.set.now one.prefix) at has)

pub returns : goal.returns
returns c = λ yes.
    subst (All (λ (one : Hit). Contains c.args.set.now one.prefix)) (take_all c.loop-hit.hit-index c.args.hits.now (omega arith)) c.loop-hit.invariant
