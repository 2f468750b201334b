use Rattle.proxy_run.proofs.ending.end_open_find.Goals as goal

pub returns-else-is_find_open-clause-goes : goal.returns-else-is_find_open-clause-goes
returns-else-is_find_open-clause-goes g c phase turns now = (now, λ start run. run)
