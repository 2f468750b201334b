use Rattle.url_checker.proofs.resolving.find.Goals as goal

pub returns-clause-made : goal.returns-clause-made
returns-clause-made g c = c.end_find.ensures.made c.args.states.now c.args.target.now c.args.now _ c.in_ok-find.ensures.opened

pub returns-clause-stopped : goal.returns-clause-stopped
returns-clause-stopped g c = c.end_find.ensures.stopped c.args.states.now c.args.target.now c.args.now _ c.in_ok-find.ensures.opened
