-- One connection of a house: what is gathered of it, and what is left of its answer.
use Rattle.std.specs.Prelude.{◌≡◌, ◌≤◌, ◌⊎◌, ◌++◌, ℕ, List, [], length, drop, Option, Some, None}
use Rattle.gathering.specs.Deadlines.{moment}
use Rattle.gathering.specs.Wires.{Leaving, WireInHand, all_left}
use Rattle.gathering.specs.declared.phases.Phase.TheVariants.{InTurn}
use Rattle.gathering.specs.declared.steps.Sent.{Sent}
use Rattle.gathering.specs.declared.steps.Sent.TheVariants.{Taken, Fault}
use Rattle.tcp_door.specs.declared.guests.Guest.{Guest}

-- what is gathered once a piece came, behind what came before
abbrev pub gathered_with : Option (List ℕ) → List ℕ → Option (List ℕ)
gathered_with None piece = None
gathered_with (Some bytes) piece = Some (bytes ++ piece)

-- what is left of an answer, where there is one
abbrev pub left_of : Option Leaving → List ℕ
left_of None = []
left_of (Some answer) = all_left answer

-- bytes of which some at the front are gone, and all others are as they were
pub record IsRest (rest whole : List ℕ) : Type 0 where
  pub count : ℕ
  pub is : rest ≡ drop count whole

-- a try to send says how many bytes were taken, unless it failed
abbrev pub SaysTaken : Sent → ℕ → Type 0
SaysTaken (Taken n) count = n ≡ moment count
SaysTaken Fault count = Unit

-- What is left to send, after a try, is what was not taken.
pub record IsLeftAfterTry (before after : List ℕ) (sent : Sent) : Type 0 where
  pub count : ℕ
  pub within : count ≤ length before
  pub rest : after ≡ drop count before
  pub said : SaysTaken sent count

-- A connection goes on: nothing more is gathered of it, and its answer is as it was, or is over.
pub record IsSettled (was guest : Guest) : Type 0 where
  pub serial : guest.serial ≡ was.serial
  pub gathered : guest.gathered ≡ was.gathered
  pub answer : (guest.answer ≡ was.answer) ⊎ (guest.answer ≡ None)

-- a piece more is gathered than before, which may be empty
pub record IsLonger (before after : Option (List ℕ)) : Type 0 where
  pub piece : List ℕ
  pub is : after ≡ gathered_with before piece

-- A connection was worked for: what came of it is behind what came before, and of its answer a rest is left to send.
pub record IsServedGuest (was guest : Guest) : Type 0 where
  pub serial : guest.serial ≡ was.serial
  pub gathered : IsLonger was.gathered guest.gathered
  pub answer : IsRest (left_of guest.answer) (left_of was.answer)

-- A wire has the number, the bytes and the end of a connection.
pub record StandsForGuest (wire : WireInHand) (guest : Guest) : Type 0 where
  pub serial : wire.serial ≡ guest.serial
  pub bytes : guest.gathered ≡ Some wire.sends
  pub ended : wire.ended ≡ guest.has_ended
  pub ending : wire.ending ≡ guest.ending

-- a connection has its turn by this wire
pub record HasTurnBy (wire : WireInHand) (guest : Guest) : Type 0 where
  pub serial : guest.serial ≡ wire.serial
  pub phase : guest.phase ≡ InTurn

-- What is left to send to a connection that had its turn by a wire is what this wire wrote, or a rest of it. Another is as it was.
pub record IsAnsweredByWire (wire : WireInHand) (was guest : Guest) : Type 0 where
  pub serial : guest.serial ≡ was.serial
  pub answer : HasTurnBy wire was → IsRest (left_of guest.answer) wire.written
  pub other : HasTurnBy wire was ⊎ (guest ≡ was)
