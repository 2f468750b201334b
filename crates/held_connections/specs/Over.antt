-- The connections that a door gave a server, and those of them that are over, as the door tells them. What a right answer to a request is, of a
-- server that was so before it and is so after it, is a parameter: a relation `Right`.
use Rattle.std.specs.Prelude.{◌≡◌, ◌⊎◌, ◌+◌, ℕ, List, ◌++◌, length, map, All, Contains, Option, Some, IfSome, option_map, slice_get}
use Rattle.sb_outside.specs.declared.doors.Connection.{Connection}
use Rattle.http_edge.specs.declared.messages.HttpRequest.{HttpRequest}
use Rattle.http_edge.specs.declared.messages.ResponseFields.{ResponseFields}
use Rattle.http_edge.specs.declared.messages.Status.{Status}
use Rattle.http_serving.specs.Routes.{Route, RoutedAnswer}
use Rattle.http_serving.specs.Serving.{IsServed}
use Rattle.http_serving.specs.declared.ends.ConnectionEnd.{ConnectionEnd}

-- ---- one that is over

-- what is right of a server's responses
abbrev pub RightOf : Type 0 → Type 1
RightOf S = S → S → HttpRequest → Status → ResponseFields → (body cause : List ℕ) → Type 0

-- the same by a table of routes, and by what is right of each
abbrev pub right_by : {S : Type 0} → List Route → (S → S → ℕ → HttpRequest → Status → ResponseFields → (body cause : List ℕ) → Type 0) → RightOf S
right_by routes Right before after = RoutedAnswer routes (Right before after)

-- A connection that is over: which it was of those that were taken, counted from 0, the server as it was before it answered and after, how the
-- connection ended, and what the door's log has of it.
pub record ServedConnection (S : Type 0) : Type 0 where
  pub number : ℕ
  pub server : S
  pub after : S
  pub how : ConnectionEnd
  pub entry : Connection

-- It was answered rightly, by its entry, if those that were taken had these pieces to give.
pub record HasEndedRightly {S : Type 0} (Right : RightOf S) (taken : List (List (List ℕ))) (one : ServedConnection S) : Type 0 where
  pub pieces : List (List ℕ)
  pub gave : slice_get taken one.number ≡ Some pieces
  pub served : IsServed (Right one.server one.after) one.how pieces one.entry

-- ---- what a door's log says

-- A connection that is open: which it was of those that were taken, and the place of its entry in the door's log.
pub record HeldPlace : Type 0 where
  pub number : ℕ
  pub place : ℕ

-- The entry at a place of the log is that of a connection that is over.
pub record IsEntryOfEnded {S : Type 0} (Right : RightOf S) (earlier : List Connection) (taken : List (List (List ℕ))) (over : List (ServedConnection S)) (place : ℕ) (entry : Connection) : Type 0 where
  pub one : ServedConnection S
  pub among : Contains over one
  pub stands : place ≡ length earlier + one.number
  pub is : entry ≡ one.entry
  pub right : HasEndedRightly Right taken one

-- It stood there before, or it is of a connection that is over, or that is open yet.
abbrev pub IsKnownEntry : {S : Type 0} → RightOf S → List Connection → List (List (List ℕ)) → List (ServedConnection S) → List HeldPlace → ℕ → Connection → Type 0
IsKnownEntry Right earlier taken over opens place entry =
    (slice_get earlier place ≡ Some entry) ⊎ IsEntryOfEnded Right earlier taken over place entry
    ⊎ Contains (map (λ (one : HeldPlace). one.place) opens) place

-- The log that was so before has an entry more for each connection that was taken, in their order.
pub record HasEntryOfEach {S : Type 0} (Right : RightOf S) (log : Option (List Connection)) (taken : List (List (List ℕ))) (over : List (ServedConnection S)) (opens : List HeldPlace)
    (entries : List Connection) : Type 0 where
  pub earlier : List Connection
  pub was : log ≡ Some earlier
  pub count : length entries ≡ length earlier + length taken
  pub placed : All (λ (one : HeldPlace). one.place ≡ length earlier + one.number) opens
  pub said : (place : ℕ) (entry : Connection) → slice_get entries place ≡ Some entry → IsKnownEntry Right earlier taken over opens place entry

-- ---- what a door tells

-- A door as it is seen: its log, and what the connections that were not taken yet have to give.
pub record DoorView : Type 0 where
  pub log : Option (List Connection)
  pub coming : Option (List (List (List ℕ)))

abbrev pub door_view : Option (List Connection) → Option (List (List (List ℕ))) → DoorView
door_view log coming = record { log = log; coming = coming }

-- Since a moment a door gave connections that had these pieces to give. Each is over or open: these are over, and these open.
pub record HasHandedOut {S : Type 0} (Right : RightOf S) (start : DoorView) (taken : List (List (List ℕ))) (over : List (ServedConnection S)) (opens : List HeldPlace) (door : DoorView) : Type 0 where
  pub came : start.coming ≡ option_map (λ later. taken ++ later) door.coming
  pub all : length over + length opens ≡ length taken
  pub logged : IfSome door.log (HasEntryOfEach Right start.log taken over opens)
