use Rattle.std.proofs.Common.{ap}
use Rattle.update_client.specs.Held.{Held}
use Rattle.url_checker.proofs.SizeFacts.{marks_own}
use Rattle.url_checker.proofs.sizes.mark_list.Goals as goal

pub returns-clause-marked : goal.returns-clause-marked
returns-clause-marked c = marks_own _ c.args.held.now _ _ (ap (λ (held : Held). held.set) c.held.view_is) c.sizes-own.ensures.occurs c.mark.ensures.marked
