use Rattle.mirror_finds.proofs.PassedOn.{finds_keep}
use Rattle.mirror_finds.proofs.laws.mirror_finds_keep_to_waits.Goals as goal

pub returns : goal.returns
returns c target need start finds now line has = finds_keep target need start.waits finds has.are
