use Rattle.client_laws.proofs.RunRows.{holds_of_rows}
use Rattle.client_laws.proofs.runs.rows_hold.Goals as goal

pub returns : goal.returns
returns c = holds_of_rows c.runs_hold.ensures c.stores_begin_runs.ensures
