-- Why a run stops where a keeper did not do what it was asked.
use Rattle.sb_outside.specs.declared.keepers.KeepFault.{KeepFault as Fault}
use Rattle.sb_outside.specs.declared.keepers.KeepFault.TheVariants as fault
use Rattle.update_run.specs.declared.stop.RunStop.{RunStop}
use Rattle.update_run.specs.declared.stop.RunStop.TheVariants.{KeepFault, OutOfMemory}

abbrev pub stop_of : Fault → RunStop
stop_of fault.Failed = KeepFault
stop_of fault.OutOfMemory = OutOfMemory
