use Rattle.std.proofs.Common.{[], sym, subst}
use Rattle.conformance_vectors.specs.Vectors.{AreDecided}
use Rattle.conformance_vectors.proofs.Counts.{decided_more}
use Rattle.conformance_vectors.proofs.run.decide.Goals as goal

pub loop-case-init : goal.loop-case-init
loop-case-init c = subst (AreDecided []) (sym c.in_ok-answers.ensures.items) tt

pub loop-case-preserved : goal.loop-case-preserved
loop-case-preserved c =
    decided_more c.args.cases.now c.loop-case.answers.items c.push.new.self.items c.loop-case.case-index _ c.in_ok-meets.field-0 c.loop-case-test.true c.loop-case.invariant c.in_ok-push.ensures.items c.in_ok-meets.ensures
