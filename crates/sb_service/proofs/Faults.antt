-- What a journal that is no history leads to.
use Rattle.std.proofs.Common.{◌≢◌, ℕ, List, refl, Option}
use Rattle.list_versions.specs.declared.fault.JournalFault.{JournalFault}
use Rattle.list_versions.specs.declared.fault.JournalFault.TheVariants.{ReadFault, Header, Line, UnknownList, ListTwice, TooMany, TooLarge, OutOfMemory}
use Rattle.sb_service.specs.Printed.{journal_refusal}
use Rattle.sb_service.specs.Answer.{AfterJournalFault, IsWritten}

-- a fault whose cause is told
pub told : (fault : JournalFault) (status : ℕ) (held held' : Option (List ℕ)) → fault ≢ ReadFault → fault ≢ OutOfMemory → IsWritten (journal_refusal fault) status held held' → AfterJournalFault fault status held held'
told ReadFault status held held' read memory written = absurd (read refl)
told Header status held held' read memory written = written
told (Line n) status held held' read memory written = written
told (UnknownList n) status held held' read memory written = written
told (ListTwice n) status held held' read memory written = written
told (TooMany n) status held held' read memory written = written
told (TooLarge n) status held held' read memory written = written
told OutOfMemory status held held' read memory written = absurd (memory refl)
