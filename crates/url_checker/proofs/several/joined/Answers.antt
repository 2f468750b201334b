use Rattle.std.proofs.Common.{refl}
use Rattle.url_checker.proofs.SeveralFacts.{joined_has}
use Rattle.url_checker.proofs.several.joined.Goals as goal

pub returns-then-has_each : goal.returns-then-has_each
returns-then-has_each c =
    let law = c.sets_go_by_members.ensures in
    joined_has law.rising law.members law.only c.args.set c.args.hits.now c.requires (c.if-has_each.ensures refl)
