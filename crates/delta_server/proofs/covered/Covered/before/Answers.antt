use Rattle.std.proofs.Common.{refl, arith}
use Rattle.delta_server.proofs.CoverFacts.{other_prefix}
use Rattle.delta_server.proofs.covered.Covered.before.Goals as goal

pub returns-clause-stands : goal.returns-clause-stands
returns-clause-stands c = λ end done covers before.
    other_prefix c.args.self c.args.first end done c.args.stretch.now covers before (λ same. omega arith) _ refl refl
