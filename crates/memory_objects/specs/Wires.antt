-- The wire and the door in memory, as contracts see them.
use Rattle.std.specs.Prelude.{ℕ, List, [], Option, Some, map}
use Rattle.sb_outside.specs.Connections.{open_connection, pieces_of_wire}
use Rattle.sb_outside.specs.Outside.{raised}
use Rattle.sb_outside.specs.declared.doors.Connection.{Connection}
use Rattle.memory_objects.specs.Logs.{logged}

-- a wire in memory, which gives some bytes and then the end of input
pub record WireInMemory : Type 0 where
  pub number : ℕ
  -- the bytes that it had to give at first
  pub sends : List ℕ
  -- what is left of them: they and the end, or nothing after the end was answered
  pub left : List (List ℕ)
  -- the bytes that were written to it, and how many it holds at most
  pub written : List ℕ
  pub room : ℕ
  -- the numbers of the reads and of the writes that fail, each counted from 1
  pub failing_reads : List ℕ
  pub failing_writes : List ℕ
  pub reads : ℕ
  pub writes : ℕ
  pub read_faults : ℕ
  pub write_faults : ℕ
  -- how many bytes a call gives or takes at most
  pub step : ℕ

-- the wire as its door hands it out: with its number, and with nothing given, written or counted
abbrev pub fresh : ℕ → WireInMemory → WireInMemory
fresh number wire = record wire { number = number; left = pieces_of_wire wire.sends; written = []; reads = 0; writes = 0; read_faults = 0; write_faults = 0 }

-- a door in memory
pub record DoorInMemory : Type 0 where
  -- the connections that come
  pub coming : List WireInMemory
  pub log : Option (List Connection)
  -- how many connections it logs at most
  pub room : ℕ
  -- the numbers of the calls that fail, counted from 1
  pub failing : List ℕ
  -- and of those of `next_before` at which the moment comes first
  pub late : List ℕ
  pub calls : ℕ
  pub faults : ℕ

-- the pieces of each connection that is to come
abbrev pub pieces_to_come : List WireInMemory → Option (List (List (List ℕ)))
pieces_to_come coming = Some (map (λ (wire : WireInMemory). pieces_of_wire wire.sends) coming)

-- the door after a call that took a connection: these are still to come, and an open entry was logged
abbrev pub after_taking : DoorInMemory → List WireInMemory → DoorInMemory
after_taking door coming = record door { coming = coming; log = logged door.room door.log open_connection; calls = raised door.calls }
