use Rattle.http_serving.proofs.OpenEntries.{closes_one, opens_one, says_all}
use Rattle.http_serving.proofs.laws.open_entries_are_closed.Goals as goal

pub returns-clause-opens : goal.returns-clause-opens
returns-clause-opens g c = λ run. opens_one (g.S.SaysOfEntries.says run)

pub returns-clause-closes : goal.returns-clause-closes
returns-clause-closes g c = λ run. closes_one (g.S.SaysOfEntries.says run)

pub returns-clause-all : goal.returns-clause-all
returns-clause-all g c = λ run. says_all (g.S.SaysOfEntries.says run)
