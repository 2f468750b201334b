-- The connections that a mirror puts off: each asks a find, and is open until the fate of the find is known.
use Rattle.std.specs.Prelude.{◌≡◌, ℕ, List, ◌++◌, length, map, All, Option, Some, Ok, IfSome, option_map, slice_get, Result}
use Rattle.std.specs.Option.{option_to_list}
use Rattle.sb_model.specs.declared.time.Moment.{Moment}
use Rattle.hash_messages.specs.Messages.{AskedHashes}
use Rattle.http_edge.specs.declared.faults.RequestFault.{RequestFault}
use Rattle.http_edge.specs.declared.messages.HttpRequest.{HttpRequest}
use Rattle.http_serving.specs.Hearing.{IsHeard}
use Rattle.mirror_serving.specs.HeardFind.{IsHeardFind}
use Rattle.mirror_connections.specs.declared.connections.HeardFind.{HeardFind}
use Rattle.mirror_connections.specs.declared.connections.WaitingFind.{WaitingFind}
use Rattle.mirror_connections.specs.Over.{DoorSeen, HasGiven, OpenPlace, OverConnection}

-- how many finds wait at most
abbrev pub most_waiting : ℕ
most_waiting = 256

-- A wire as it is seen: the place of its connection in the door's log, what it had to give and has left, what was written to it, and how many
-- reads and writes failed.
pub record WireSeen : Type 0 where
  pub place : ℕ
  pub start : Option (List (List ℕ))
  pub left : Option (List (List ℕ))
  pub contents : Option (List ℕ)
  pub read_faults : ℕ
  pub write_faults : ℕ

abbrev pub wire_seen : ℕ → (start left : Option (List (List ℕ))) → Option (List ℕ) → (read_faults write_faults : ℕ) → WireSeen
wire_seen place start left contents read_faults write_faults =
    record { place = place; start = start; left = left; contents = contents; read_faults = read_faults; write_faults = write_faults }

-- A connection that asks a find: which it was of those that were taken, counted from 0, its request, and its wire.
pub record FindSeen : Type 0 where
  pub number : ℕ
  pub request : HttpRequest
  pub wire : WireSeen

-- One that waits for its turn: what it asks, and when it was heard.
pub record WaitingSeen : Type 0 where
  pub find : FindSeen
  pub asked : AskedHashes
  pub heard : Moment

-- both by how a wire is seen
abbrev pub find_seen : {W : Type 0} → (W → WireSeen) → HeardFind W → FindSeen
find_seen view find = record { number = find.number; request = find.request; wire = view find.wire }

abbrev pub waiting_seen : {W : Type 0} → (W → WireSeen) → WaitingFind W → WaitingSeen
waiting_seen view one = record { find = find_seen view one.find; asked = one.asked; heard = one.heard }

-- The connections of a mirror at one moment: how many were taken, the one whose find was begun, and those that wait, the one that waits
-- longest first.
pub record ConnectionsSeen : Type 0 where
  pub taken : ℕ
  pub begun : Option FindSeen
  pub waiting : List WaitingSeen

abbrev pub place_of : FindSeen → OpenPlace
place_of find = record { number = find.number; place = find.wire.place }

-- those that are open, with the places of their entries in the door's log
abbrev pub open_places : ConnectionsSeen → List OpenPlace
open_places now = option_to_list (option_map place_of now.begun) ++ map (λ (one : WaitingSeen). place_of one.find) now.waiting

-- ---- what is known of one

-- This was heard of the connection with this number, and nothing was written to it yet.
pub record IsOpenStill (taken : List (List (List ℕ))) (number : ℕ) (received : Result HttpRequest RequestFault) (wire : WireSeen) : Type 0 where
  pub pieces : List (List ℕ)
  pub gave : slice_get taken number ≡ Some pieces
  pub heard : IsHeard received pieces wire.start wire.left wire.contents wire.read_faults wire.write_faults

-- The same of one that asks a find.
abbrev pub IsFindOpen : List (List (List ℕ)) → FindSeen → Type 0
IsFindOpen taken find = IsOpenStill taken find.number (Ok find.request) find.wire

-- It waits, and this is what its request asks.
pub record IsFindWaiting (taken : List (List (List ℕ))) (one : WaitingSeen) : Type 0 where
  pub open_still : IsFindOpen taken one.find
  pub asks : IsHeardFind (Ok one.find.request) one.asked

-- ---- all of them

-- Since a moment a door gave connections that had these pieces to give. Those that are over are these, and each other one asks a find and was
-- put off.
pub record HasConnections (start : DoorSeen) (taken : List (List (List ℕ))) (over : List OverConnection) (now : ConnectionsSeen) (door : DoorSeen) : Type 0 where
  pub count : now.taken ≡ length taken
  pub given : HasGiven start taken over (open_places now) door
  pub begun : IfSome now.begun (IsFindOpen taken)
  pub waiting : All (IsFindWaiting taken) now.waiting
