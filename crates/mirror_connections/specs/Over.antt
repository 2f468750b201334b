-- The connections that a door gave a mirror, and those of them that are over, as the door tells them.
use Rattle.std.specs.Prelude.{◌≡◌, ◌⊎◌, ◌+◌, ℕ, List, ◌++◌, length, map, All, Contains, Option, Some, IfSome, option_map, slice_get}
use Rattle.sb_outside.specs.declared.doors.Connection.{Connection}
use Rattle.http_serving.specs.Serving.{IsServed}
use Rattle.http_serving.specs.declared.ends.ConnectionEnd.{ConnectionEnd}
use Rattle.mirror_serving.specs.Response.{IsMirrorResponseTo, MirrorServed}

-- ---- one that is over

-- A connection that is over: which it was of those that were taken, counted from 0, the mirror as it was then, with its places, the wait that
-- it told and the fate of the find, how the connection ended, and what the door's log has of it.
pub record OverConnection : Type 0 where
  pub number : ℕ
  pub server : MirrorServed
  pub how : ConnectionEnd
  pub entry : Connection

-- It was answered rightly, by its entry, if those that were taken had these pieces to give.
pub record IsOver (taken : List (List (List ℕ))) (one : OverConnection) : Type 0 where
  pub pieces : List (List ℕ)
  pub gave : slice_get taken one.number ≡ Some pieces
  pub served : IsServed (IsMirrorResponseTo one.server.places one.server.wait one.server.fate) one.how pieces one.entry

-- ---- what a door's log says

-- A connection that is open: which it was of those that were taken, and the place of its entry in the door's log.
pub record OpenPlace : Type 0 where
  pub number : ℕ
  pub place : ℕ

-- The entry at a place of the log is that of a connection that is over.
pub record IsEntryOver (earlier : List Connection) (taken : List (List (List ℕ))) (over : List OverConnection) (place : ℕ) (entry : Connection) : Type 0 where
  pub one : OverConnection
  pub among : Contains over one
  pub stands : place ≡ length earlier + one.number
  pub is : entry ≡ one.entry
  pub right : IsOver taken one

-- It stood there before, or it is of a connection that is over, or that is open yet.
abbrev pub IsEntrySaid : List Connection → List (List (List ℕ)) → List OverConnection → List OpenPlace → ℕ → Connection → Type 0
IsEntrySaid earlier taken over opens place entry =
    (slice_get earlier place ≡ Some entry) ⊎ IsEntryOver earlier taken over place entry
    ⊎ Contains (map (λ (one : OpenPlace). one.place) opens) place

-- The log that was so before has an entry more for each connection that was taken, in their order.
pub record HasEntries (log : Option (List Connection)) (taken : List (List (List ℕ))) (over : List OverConnection) (opens : List OpenPlace) (entries : List Connection) : Type 0 where
  pub earlier : List Connection
  pub was : log ≡ Some earlier
  pub count : length entries ≡ length earlier + length taken
  pub placed : All (λ (one : OpenPlace). one.place ≡ length earlier + one.number) opens
  pub said : (place : ℕ) (entry : Connection) → slice_get entries place ≡ Some entry → IsEntrySaid earlier taken over opens place entry

-- ---- what a door tells

-- A door as it is seen: its log, and what the connections that were not taken yet have to give.
pub record DoorSeen : Type 0 where
  pub log : Option (List Connection)
  pub coming : Option (List (List (List ℕ)))

abbrev pub door_seen : Option (List Connection) → Option (List (List (List ℕ))) → DoorSeen
door_seen log coming = record { log = log; coming = coming }

-- Since a moment a door gave connections that had these pieces to give. Each is over or open: these are over, and these open.
pub record HasGiven (start : DoorSeen) (taken : List (List (List ℕ))) (over : List OverConnection) (opens : List OpenPlace) (door : DoorSeen) : Type 0 where
  pub came : start.coming ≡ option_map (λ later. taken ++ later) door.coming
  pub all : length over + length opens ≡ length taken
  pub logged : IfSome door.log (HasEntries start.log taken over opens)
