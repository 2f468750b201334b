use Rattle.sb_round.proofs.running.run_round.Goals as goal

pub returns-clause-made : goal.returns-clause-made
returns-clause-made g c =
    c.end_round.ensures.made c.args.options.now c.args.target.now _ c.in_ok-opening.ensures.opened
