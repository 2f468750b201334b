use Rattle.std.proofs.Common.{◌∙◌}
use Rattle.sb_journal.proofs.RisingSets.{has_is}
use Rattle.sb_journal.proofs.sets.has.Goals as goal

pub returns : goal.returns
returns c =
    c.is_ok.ensures.value
    ∙ has_is c.args.set.now c.args.hash.now c.binary_search.result c.requires c.binary_search.ensures.position c.binary_search.ensures.bound
