use Rattle.std.proofs.Common.{◌≡◌, ◌++◌, List, ap, ◌∙◌, arith}
use Rattle.url_checker.specs.Hits.{hits_at}
use Rattle.url_checker.specs.declared.findings.Hit.{Hit}
use Rattle.url_checker.proofs.HitFacts.{sizes_below, hits_left, hits_past, hits_pushed}
use Rattle.url_checker.proofs.hits.push_hits.Goals as goal
use Rattle.url_checker.proofs.hits.push_hits.Goals.{then-sizes-size+in_ok-push_hit, else-sizes-size}

pub loop-size-preserved : goal.loop-size-preserved
loop-size-preserved c =
    elim c.if-sizes-size.branch [
      | then-sizes-size+in_ok-push_hit w ↦
          hits_pushed c.args.held.now c.args.hash.now c.loop-size.size c.args.hits.now c.loop-size.hits c.if-sizes-size.hits c.loop-size.auto.size c.loop-size.invariant (w.hits-is ∙ w.in_ok-push_hit.ensures)
      | else-sizes-size w ↦
          hits_left c.args.sizes.now c.args.held.now c.args.hash.now c.loop-size.size c.args.hits.now c.loop-size.hits c.if-sizes-size.hits c.loop-size.auto.size (omega arith) c.requires.marked c.requires.whole w.if-sizes-size.false c.loop-size.invariant w.hits-is
    ]

pub returns : goal.returns
returns c =
    let all : c.loop-size.size ≡ c.args.past = omega (arith, c.requires.at_least) in
    c.loop-size.invariant
    ∙ ap (λ size. c.args.hits.now ++ hits_at c.args.held.now c.args.hash.now (sizes_below size)) all
    ∙ ap (λ (hits : List Hit). c.args.hits.now ++ hits)
    (hits_past c.args.sizes.now c.args.held.now c.args.hash.now c.args.past c.requires.at_least c.requires.at_most c.requires.marked c.requires.past c.requires.whole)
