use Rattle.std.proofs.Common.{refl, arith}
use Rattle.delta_server.proofs.CoverFacts.{covers_next, shows_anew}
use Rattle.delta_server.proofs.covered.Covered.next.Goals as goal

pub returns-clause-covers : goal.returns-clause-covers
returns-clause-covers c = λ done some covers before.
    covers_next c.before-earlier.result _ c.args.first c.args.end done c.args.stretch.now (c.before-earlier.ensures.stands c.args.end done covers before)
    (omega arith) (omega arith) refl c.holds.ensures c.before-earlier.ensures.low
    (c.before-earlier.ensures.high c.args.end (omega arith) c.requires.high) c.requires.from before

pub returns-clause-anew : goal.returns-clause-anew
returns-clause-anew c = λ done version low high covers before.
    shows_anew c.before-earlier.result (record { head = c.args.stretch.now.head; begin = c.max-begin.result; reach = c.max.result; held = c.holds.result }) c.args.first c.args.end done c.args.stretch.now (c.before-earlier.ensures.stands c.args.end done covers before)
    (omega arith) (omega arith) version low high
