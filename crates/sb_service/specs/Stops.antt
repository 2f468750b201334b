-- The exit status of a run, by what ended it.
use Rattle.std.specs.Prelude.{ℕ}
use Rattle.sb_service.specs.declared.stop.Stop.{Stop}
use Rattle.sb_service.specs.declared.stop.Stop.TheVariants as stop

abbrev pub status_of : Stop → ℕ
status_of stop.Done = 0
status_of stop.NoCommand = 1
status_of stop.ReadFault = 2
status_of stop.WriteFault = 3
status_of stop.BadRequest = 5
status_of stop.LongInput = 6
status_of stop.BadJournal = 7
status_of stop.OutOfMemory = 8
status_of stop.DoorFault = 9
