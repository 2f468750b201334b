use Rattle.mirror_rounds.proofs.ItsPlaces.{named_after}
use Rattle.mirror_rounds.proofs.ending.take_answer.Goals as goal

pub returns-clause-named : goal.returns-clause-named
returns-clause-named g c =
    named_after c.taken_lists_keep_their_names.ensures c.end_round.result c.args.lists.now c.end_round.new.lists c.args.waits.now c.end_round.new.waits
    c.args.plan.now.options c.args.plan.now.target c.args.plan.now.need_digest c.requires.session.0.told (g.N.Line.view c.end_round.new.line).told
    (c.end_round.ensures.made c.args.plan.now.options c.args.plan.now.target c.requires.session.0 c.requires.session.1) c.end_round.ensures.lists_kept
