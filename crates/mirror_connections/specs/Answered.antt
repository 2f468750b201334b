-- What a step leaves of the connections of a mirror: one is over more, or one is put off.
use Rattle.std.specs.Prelude.{◌≡◌, ◌⊎◌, ℕ, List, [], ◌∷◌, ◌++◌, length, Option, Some, IfSome, option_map, Result}
use Rattle.sb_model.specs.declared.time.Moment.{Moment}
use Rattle.sb_outside.specs.Connections.{open_connection}
use Rattle.sb_outside.specs.Outside.{IfTold, with_entry}
use Rattle.hash_messages.specs.Messages.{AskedHashes}
use Rattle.http_edge.specs.declared.faults.RequestFault.{RequestFault}
use Rattle.http_edge.specs.declared.messages.HttpRequest.{HttpRequest}
use Rattle.http_serving.specs.Hearing.{Hears}
use Rattle.http_serving.specs.Returning.{IsFresh}
use Rattle.http_serving.specs.declared.ends.ConnectionEnd.{ConnectionEnd}
use Rattle.http_serving.specs.declared.ends.ConnectionEnd.TheVariants as end
use Rattle.mirror_serving.specs.HeardFind.{IsHeardFind}
use Rattle.mirror_serving.specs.Response.{MirrorServed}
use Rattle.mirror_connections.specs.Open.{most_waiting, ConnectionsSeen, HasConnections, WaitingSeen, WireSeen}
use Rattle.mirror_connections.specs.Over.{DoorSeen, OverConnection}

-- The connection with this number is over more, as this server answered it.
pub record AnswersOne (number : ℕ) (server : MirrorServed) (how : ConnectionEnd) (start : DoorSeen) (taken : List (List (List ℕ))) (over : List OverConnection)
    (after : ConnectionsSeen) (door : DoorSeen) : Type 0 where
  pub one : OverConnection
  pub number_is : one.number ≡ number
  pub server_is : one.server ≡ server
  pub how_is : one.how ≡ how
  pub has : HasConnections start taken (over ++ one ∷ []) after door

-- A connection was answered in the turn in which it was taken: what was heard of it is no find, or as many finds wait as may, or memory was
-- refused. `left` is what it had to give.
pub record IsAnsweredAtOnce (waiting : List WaitingSeen) (how : ConnectionEnd) (left : Option (List (List ℕ))) : Type 0 where
  pub received : Result HttpRequest RequestFault
  pub rest : Option (List (List ℕ))
  pub hears : Hears received left rest
  pub because : ((message : AskedHashes) → ¬ IsHeardFind received message) ⊎ (length waiting ≡ most_waiting) ⊎ (how ≡ end.OutOfMemory)

-- A connection that was taken is put off behind those that wait: it asks a find, and this is when it was heard.
pub record PutsOff (now : Moment) (start : DoorSeen) (taken : List (List (List ℕ))) (over : List OverConnection) (before after : ConnectionsSeen) (door : DoorSeen) : Type 0 where
  pub last : WaitingSeen
  pub waits : after.waiting ≡ before.waiting ++ last ∷ []
  pub heard : last.heard ≡ now
  pub number : last.find.number ≡ before.taken
  pub begun : after.begun ≡ before.begun
  pub has : HasConnections start taken over after door

-- The find that waited longest was taken from those that wait: its connection is the one whose find was begun.
pub record BeginsFirst (asked : AskedHashes) (before after : ConnectionsSeen) : Type 0 where
  pub first : WaitingSeen
  pub rest : List WaitingSeen
  pub waited : before.waiting ≡ first ∷ rest
  pub asks : asked ≡ first.asked
  pub left : after ≡ record { taken = before.taken; begun = Some first.find; waiting = rest }

-- The find that waited longest is taken from those that wait: its connection has this number, and those behind it go on waiting.
pub record TakesFirstWaiting (number : ℕ) (before after : ConnectionsSeen) : Type 0 where
  pub first : WaitingSeen
  pub rest : List WaitingSeen
  pub waited : before.waiting ≡ first ∷ rest
  pub numbered : number ≡ first.find.number
  pub left : after ≡ record before { waiting = rest }

-- A door gave a connection that had these pieces to give, as this wire, with which nothing was done yet.
pub record GivesWire (pieces : List (List ℕ)) (before door : DoorSeen) (wire : WireSeen) : Type 0 where
  pub came : before.coming ≡ option_map (λ later. pieces ∷ later) door.coming
  pub opened : IfTold door.log (with_entry before.log open_connection)
  pub placed : IfSome before.log (λ entries. wire.place ≡ length entries)
  pub fresh : IsFresh pieces wire.start wire.left wire.contents wire.read_faults wire.write_faults
