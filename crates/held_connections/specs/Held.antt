-- The connections that a server holds: each was heard, and is open until it is answered. One is in hand, and the others wait.
use Rattle.std.specs.Prelude.{◌≡◌, ℕ, List, ◌++◌, length, map, All, Option, Some, IfSome, option_map, slice_get, Result}
use Rattle.std.specs.Option.{option_to_list}
use Rattle.http_edge.specs.declared.faults.RequestFault.{RequestFault}
use Rattle.http_edge.specs.declared.messages.HttpRequest.{HttpRequest}
use Rattle.http_serving.specs.Hearing.{IsHeard}
use Rattle.held_connections.specs.declared.held.HeardConnection.{HeardConnection}
use Rattle.held_connections.specs.declared.held.WaitingConnection.{WaitingConnection}
use Rattle.held_connections.specs.Over.{DoorView, HasHandedOut, HeldPlace, ServedConnection, RightOf}

-- how many connections wait at most
abbrev pub waiting_limit : ℕ
waiting_limit = 256

-- A wire as it is seen: the place of its connection in the door's log, what it had to give and has left, what was written to it, and how many
-- reads and writes failed.
pub record WireView : Type 0 where
  pub place : ℕ
  pub start : Option (List (List ℕ))
  pub left : Option (List (List ℕ))
  pub contents : Option (List ℕ)
  pub read_faults : ℕ
  pub write_faults : ℕ

abbrev pub wire_view : ℕ → (start left : Option (List (List ℕ))) → Option (List ℕ) → (read_faults write_faults : ℕ) → WireView
wire_view place start left contents read_faults write_faults =
    record { place = place; start = start; left = left; contents = contents; read_faults = read_faults; write_faults = write_faults }

-- A connection that was heard: which it was of those that were taken, counted from 0, what was heard of it, and its wire.
pub record HeardView : Type 0 where
  pub number : ℕ
  pub received : Result HttpRequest RequestFault
  pub wire : WireView

-- One that waits, and for what.
pub record WaitingView (P : Type 0) : Type 0 where
  pub heard : HeardView
  pub wait : P

-- both by how a wire is seen
abbrev pub heard_view : {W : Type 0} → (W → WireView) → HeardConnection W → HeardView
heard_view view heard = record { number = heard.number; received = heard.received; wire = view heard.wire }

abbrev pub waiting_view : {W P : Type 0} → (W → WireView) → WaitingConnection W P → WaitingView P
waiting_view view one = record { heard = heard_view view one.heard; wait = one.wait }

-- The connections that a server holds at one moment: how many were taken, the one in hand, and those that wait, the first of them first.
pub record HeldView (P : Type 0) : Type 0 where
  pub taken : ℕ
  pub hand : Option HeardView
  pub waiting : List (WaitingView P)

abbrev pub held_place : HeardView → HeldPlace
held_place heard = record { number = heard.number; place = heard.wire.place }

-- those that are open, with the places of their entries in the door's log
abbrev pub held_places : {P : Type 0} → HeldView P → List HeldPlace
held_places {P} now = option_to_list (option_map held_place now.hand) ++ map (λ (one : WaitingView P). held_place one.heard) now.waiting

-- ---- what is known of one

-- This was heard of it, and nothing was written to it yet.
pub record IsUnanswered (taken : List (List (List ℕ))) (heard : HeardView) : Type 0 where
  pub pieces : List (List ℕ)
  pub gave : slice_get taken heard.number ≡ Some pieces
  pub is : IsHeard heard.received pieces heard.wire.start heard.wire.left heard.wire.contents heard.wire.read_faults heard.wire.write_faults

-- ---- all of them

-- Since a moment a door gave connections that had these pieces to give. Those that are over are these, and each other one was heard and is held.
pub record HoldsConnections {S P : Type 0} (Right : RightOf S) (start : DoorView) (taken : List (List (List ℕ))) (over : List (ServedConnection S)) (now : HeldView P) (door : DoorView) : Type 0 where
  pub count : now.taken ≡ length taken
  pub given : HasHandedOut Right start taken over (held_places now) door
  pub hand : IfSome now.hand (IsUnanswered taken)
  pub waiting : All (λ (one : WaitingView P). IsUnanswered taken one.heard) now.waiting
