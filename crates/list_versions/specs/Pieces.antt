-- What the pieces of a journal come to, one after the other.
use Rattle.std.specs.Prelude.{◌≡◌, ℕ, ⊤, Bool, List, [], ◌++◌, Option, None, Result, Ok, Err}
use Rattle.sb_outside.specs.Outside.{GivesFront}
use Rattle.sb_outside.specs.Reading.{ReadsToEnd}
use Rattle.list_versions.specs.declared.fault.JournalFault.{JournalFault}
use Rattle.list_versions.specs.declared.fault.JournalFault.TheVariants as fault
use Rattle.list_versions.specs.declared.heads.Header.{Header}
use Rattle.list_versions.specs.Journal.{Kept, LineReading, kept_of, after_bytes, empty_history}
use Rattle.list_versions.specs.Loaded.{Gives}

-- what is known after a first line
abbrev pub reading_after_header : Header → LineReading
reading_after_header header = record { kept = record { sized = header.sized; versions = empty_history header.epoch; rest = [] }; begun = None }

-- The source gave a first line and the text.
pub record IsBegun (header : Header) (text : List ℕ) (before after : Option (List (List ℕ))) : Type 0 where
  pub given : List ℕ
  pub gives : GivesFront given before after
  pub same : (more : List ℕ) → kept_of (given ++ more) ≡ after_bytes (reading_after_header header) (text ++ more)

-- what a journal comes to by the bytes after some place of it
abbrev pub Further : Type 0
Further = List ℕ → Result Kept JournalFault

-- The source gave bytes up to its end, and nothing in them is bad.
pub record ReadsAll (further : Further) (kept : Kept) (before after : Option (List (List ℕ))) : Type 0 where
  pub given : List ℕ
  pub gives : ReadsToEnd given before after
  pub all : further given ≡ Ok kept

-- a line is bad in the bytes, whatever follows
abbrev pub IsBad : Further → List ℕ → JournalFault → Type 0
IsBad further bytes fault = (more : List ℕ) → further (bytes ++ more) ≡ Err fault

-- why no more bytes are read
abbrev pub FaultAt : Further → List ℕ → JournalFault → Type 0
FaultAt further bytes fault.ReadFault = (kept : Kept) × (further bytes ≡ Ok kept)
FaultAt further bytes fault.OutOfMemory = ⊤
FaultAt further bytes fault.Header = ⊥
FaultAt further bytes (fault.Line n) = IsBad further bytes (fault.Line n)
FaultAt further bytes (fault.UnknownList n) = IsBad further bytes (fault.UnknownList n)
FaultAt further bytes (fault.ListTwice n) = IsBad further bytes (fault.ListTwice n)
FaultAt further bytes (fault.TooMany n) = IsBad further bytes (fault.TooMany n)
FaultAt further bytes (fault.TooLarge n) = IsBad further bytes (fault.TooLarge n)

-- The source gave some bytes, with its end or without, and no more are read.
pub record StopsAt (further : Further) (fault : JournalFault) (before after : Option (List (List ℕ))) : Type 0 where
  pub given : List ℕ
  pub ended : Bool
  pub gives : Gives given ended before after
  pub why : FaultAt further given fault
