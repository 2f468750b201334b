use Rattle.client_laws.proofs.Stores.{stores_begin}
use Rattle.client_laws.proofs.runs.stores_begin_runs.Goals as goal

pub returns : goal.returns
returns c = stores_begin
