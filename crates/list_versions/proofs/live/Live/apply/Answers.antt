use Rattle.std.proofs.Common.{◌∙◌, ap, sym, arith, fold}
use Rattle.sb_model.specs.History.{without_hash}
use Rattle.list_versions.specs.Ends.{ended, restored}
use Rattle.list_versions.proofs.Ended.{length-removed, restored_removed}
use Rattle.list_versions.proofs.Holding.{mapped_ok, length-fold_removed}
use Rattle.list_versions.proofs.live.Live.apply.Goals as goal

pub returns-clause-held : goal.returns-clause-held
returns-clause-held c =
    mapped_ok _ _ c.add_each.result
    (λ adds entries small few holds. adds (fold without_hash entries c.args.removes.now) (omega (arith, length-fold_removed c.args.removes.now entries)) few (c.remove_each.ensures.held entries small holds))
    c.add_each.ensures.held

pub returns-clause-placed : goal.returns-clause-placed
returns-clause-placed c =
    mapped_ok _ _ c.add_each.result
    (λ adds lines few placed. adds (fold (ended c.args.version) lines c.args.removes.now) (omega (arith, few, length-removed c.args.version c.args.removes.now lines)) (c.remove_each.ensures.placed lines placed))
    c.add_each.ensures.placed

pub returns-clause-kept : goal.returns-clause-kept
returns-clause-kept c lines placed few earlier count lt within =
    let gone = fold (ended c.args.version) lines c.args.removes.now in
    let now = c.remove_each.ensures.placed lines placed in
    let long = length-removed c.args.version c.args.removes.now lines in
    c.add_each.ensures.kept gone now (omega (arith, few, long)) earlier count lt (omega (arith, within, long))
    ∙ ap (restored earlier count) now.ends ∙ restored_removed earlier c.args.version count c.args.removes.now lines lt c.requires.version ∙ ap (restored earlier count) (sym placed.ends)
