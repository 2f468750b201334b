use Rattle.find_desk.proofs.Keeping.{events_keep}
use Rattle.find_desk.proofs.laws.desks_keep_to_waits.Goals as goal

pub returns : goal.returns
returns c target need start events now line has = events_keep target need start.waits events has.are
