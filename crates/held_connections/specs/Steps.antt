-- What a step leaves of the connections that a server holds.
use Rattle.std.specs.Prelude.{◌≡◌, ◌+◌, ℕ, List, [], ◌∷◌, ◌++◌, length, Option, Some, None, IfSome, option_map}
use Rattle.sb_outside.specs.Connections.{open_connection}
use Rattle.sb_outside.specs.Outside.{IfTold, with_entry}
use Rattle.http_serving.specs.Hearing.{Hears}
use Rattle.http_serving.specs.Returning.{IsFresh}
use Rattle.http_serving.specs.declared.ends.ConnectionEnd.{ConnectionEnd}
use Rattle.held_connections.specs.Held.{HoldsConnections, HeardView, HeldView, WaitingView, WireView}
use Rattle.held_connections.specs.Over.{DoorView, ServedConnection, RightOf}

-- A door gave a connection that had these pieces to give, as this wire, with which nothing was done yet.
pub record HandsOutWire (pieces : List (List ℕ)) (before door : DoorView) (wire : WireView) : Type 0 where
  pub came : before.coming ≡ option_map (λ later. pieces ∷ later) door.coming
  pub opened : IfTold door.log (with_entry before.log open_connection)
  pub placed : IfSome before.log (λ entries. wire.place ≡ length entries)
  pub fresh : IsFresh pieces wire.start wire.left wire.contents wire.read_faults wire.write_faults

-- A connection that was taken was heard, and is in hand. `left` is what it had to give.
pub record TakesInHand {P : Type 0} (left : Option (List (List ℕ))) (before after : HeldView P) : Type 0 where
  pub heard : HeardView
  pub hears : Hears heard.received left heard.wire.left
  pub numbered : heard.number ≡ before.taken
  pub is : after ≡ record { taken = before.taken + 1; hand = Some heard; waiting = before.waiting }

-- The one in hand was put behind those that wait, for this.
pub record PutsHandOff {P : Type 0} (wait : P) (before after : HeldView P) : Type 0 where
  pub heard : HeardView
  pub was : before.hand ≡ Some heard
  pub is : after ≡ record { taken = before.taken; hand = None; waiting = before.waiting ++ record { heard = heard; wait = wait } ∷ [] }

-- The first of those that waited is in hand, and this is for what it waited.
pub record TakesFirstInHand {P : Type 0} (wait : P) (before after : HeldView P) : Type 0 where
  pub first : WaitingView P
  pub rest : List (WaitingView P)
  pub waited : before.waiting ≡ first ∷ rest
  pub wait_is : wait ≡ first.wait
  pub is : after ≡ record { taken = before.taken; hand = Some first.heard; waiting = rest }

-- The connection with this number is over more, as this server answered it, which is so after it.
pub record AnswersHand {S P : Type 0} (Right : RightOf S) (number : ℕ) (server server' : S) (how : ConnectionEnd) (start : DoorView) (taken : List (List (List ℕ))) (over : List (ServedConnection S))
    (after : HeldView P) (door : DoorView) : Type 0 where
  pub one : ServedConnection S
  pub number_is : one.number ≡ number
  pub server_is : one.server ≡ server
  pub after_is : one.after ≡ server'
  pub how_is : one.how ≡ how
  pub has : HoldsConnections Right start taken (over ++ one ∷ []) after door
