use Rattle.std.proofs.Common.{sym, subst}
use Rattle.crossbeam_queue.specs.Passes.{view}
use Rattle.snapshot_publish.specs.declared.view.View.{View}
use Rattle.snapshot_publish.specs.Publications.{IsPrefixOf}
use Rattle.snapshot_publish.specs.Publishing.{Known, Told}
use Rattle.snapshot_publish.proofs.Prefixes.{both_begin}
use Rattle.snapshot_publish.proofs.Steps.{learns, compares}
use Rattle.snapshot_publish.proofs.ends.End.learn.Goals as goal

pub absorb-requires-clause-rule : goal.absorb-requires-clause-rule
absorb-requires-clause-rule c = learns _ _ _ _

pub learn_as-requires-clause-rule : goal.learn_as-requires-clause-rule
learn_as-requires-clause-rule c = compares _ _

pub returns-clause-own : goal.returns-clause-own
returns-clause-own c =
    let both = both_begin (view c.self.inside.pass) (view c.letter.inside.pass) (view c.absorb.new.pass) c.absorb.ensures.rule c.learn_as.ensures.rule.1 in
    let mine = subst (λ (v : View). IsPrefixOf (view c.self.inside.pass).list v.list) (sym c.learn_as.ensures.queue.1) both.0 in
    subst (λ (k : Known). IsPrefixOf k.view.list (view c.learn_as.new.pass).list) c.self.view_is mine

pub returns-clause-told : goal.returns-clause-told
returns-clause-told c =
    let both = both_begin (view c.self.inside.pass) (view c.letter.inside.pass) (view c.absorb.new.pass) c.absorb.ensures.rule c.learn_as.ensures.rule.1 in
    let theirs = subst (λ (v : View). IsPrefixOf (view c.letter.inside.pass).list v.list) (sym c.learn_as.ensures.queue.1) both.1 in
    subst (λ (t : Told). IsPrefixOf t.list (view c.learn_as.new.pass).list) c.letter.view_is theirs
