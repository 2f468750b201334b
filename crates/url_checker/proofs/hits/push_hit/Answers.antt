use Rattle.std.proofs.Common.{ap}
use Rattle.update_client.specs.Held.{Held}
use Rattle.url_checker.proofs.HitFacts.{none_pushed, one_pushed}
use Rattle.url_checker.proofs.hits.push_hit.Goals as goal

pub returns-in_ok-push : goal.returns-in_ok-push
returns-in_ok-push c =
    one_pushed c.args.held.now c.args.hash.now c.args.size c.held.inside.set c.prefix-prefix.result c.has.result c.held.inside.name c.args.hits.now c.push.new.self
    (ap (λ (held : Held). held.set) c.held.view_is) c.prefix-prefix.ensures c.has.ensures c.if-has.true (ap (λ (held : Held). held.name) c.held.view_is) c.in_ok-push.ensures.ok

pub returns-else-has : goal.returns-else-has
returns-else-has c =
    none_pushed c.args.held.now c.args.hash.now c.args.size c.held.inside.set c.prefix-prefix.result c.has.result c.args.hits.now
    (ap (λ (held : Held). held.set) c.held.view_is) c.prefix-prefix.ensures c.has.ensures c.if-has.false
