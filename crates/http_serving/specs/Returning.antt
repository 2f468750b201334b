-- Connections that a door handed out, and that are given back, in any order.
use Rattle.std.specs.Prelude.{◌≡◌, ◌<◌, ℕ, List, [], length, Option, Some, IfSome, option_map, slice_set}
use Rattle.sb_outside.specs.Outside.{IfTold}
use Rattle.sb_outside.specs.declared.doors.Connection.{Connection}

-- A wire with which nothing was done yet, and which has these pieces to give.
pub record IsFresh (pieces : List (List ℕ)) (start left : Option (List (List ℕ))) (contents : Option (List ℕ)) (read_faults write_faults : ℕ) : Type 0 where
  pub some : 0 < length pieces
  pub started : IfTold start (Some pieces)
  pub remains : IfTold left (Some pieces)
  pub nothing : IfTold contents (Some [])
  pub no_reads : read_faults ≡ 0
  pub no_writes : write_faults ≡ 0

-- A connection was given back: where the log is told, its entry of this number says such a thing, and each other entry is as
-- it was.
pub record IsReturned (Says : Connection → Type 0) (number : ℕ) (log log' : Option (List Connection)) : Type 0 where
  pub entry : Connection
  pub logged : IfTold log' (option_map (λ entries. slice_set entries number entry) log)
  pub says : IfSome log' (λ _. Says entry)
