-- What a call does to the connections of a house, by their slots.
use Rattle.std.specs.Prelude.{◌≡◌, ◌≢◌, ℕ, List, Some}
use Rattle.slab.specs.Slab.{Slab, get}
use Rattle.gathering.specs.Wires.{WireInHand}
use Rattle.gathering.specs.declared.phases.Phase.{Phase}
use Rattle.tcp_door.specs.Guests.{gathered_with, left_of, IsRest, IsSettled, IsServedGuest, IsAnsweredByWire, StandsForGuest, HasTurnBy}
use Rattle.tcp_door.specs.declared.guests.Guest.{Guest}

-- Whoever is there afterwards was there before, in that slot and just so: some may be closed, and nothing else happens.
pub record OnlyCloses (before after : Slab Guest) : Type 0 where
  pub was : (slot : ℕ) (guest : Guest) → get after slot ≡ Some guest → get before slot ≡ Some guest

-- The same of all but one.
pub record OnlyClosesOthers (before after : Slab Guest) (slot : ℕ) : Type 0 where
  pub was : (other : ℕ) → other ≢ slot → (guest : Guest) → get after other ≡ Some guest → get before other ≡ Some guest

-- Whoever is in a slot afterwards was there before, and this holds of before and after.
abbrev pub StaysInSlot : (Guest → Guest → Type 0) → Slab Guest → Slab Guest → ℕ → Type 0
StaysInSlot Is before after slot = (guest : Guest) → get after slot ≡ Some guest → (was : Guest) × (get before slot ≡ Some was) × Is was guest

-- A connection moves to a phase, or is closed. Of the others some may be closed.
pub record MovesToPhase (before after : Slab Guest) (slot : ℕ) (phase : Phase) : Type 0 where
  pub own : StaysInSlot (λ was guest. guest ≡ record was { phase = phase }) before after slot
  pub others : OnlyClosesOthers before after slot

-- A connection goes on as it is, or is closed. Of the others some may be closed.
pub record Settles (before after : Slab Guest) (slot : ℕ) : Type 0 where
  pub own : StaysInSlot IsSettled before after slot
  pub others : OnlyClosesOthers before after slot

-- A piece is gathered of a connection, or it is closed. Of the others some may be closed.
pub record GathersPiece (before after : Slab Guest) (slot : ℕ) (piece : List ℕ) : Type 0 where
  pub own : StaysInSlot (λ was guest. guest ≡ record was { gathered = gathered_with was.gathered piece; held = guest.held }) before after slot
  pub others : OnlyClosesOthers before after slot

-- A connection is worked for, or is closed. Of the others some may be closed.
pub record WorksFor (before after : Slab Guest) (slot : ℕ) : Type 0 where
  pub own : StaysInSlot IsServedGuest before after slot
  pub others : OnlyClosesOthers before after slot

-- Each connection is worked for, some times, or is closed.
pub record WorksForAll (before after : Slab Guest) : Type 0 where
  pub own : (slot : ℕ) → StaysInSlot IsServedGuest before after slot

-- An answer begins to be sent to a connection, or it is closed. Of the others some may be closed.
pub record BeginsAnswer (before after : Slab Guest) (slot : ℕ) (answer : List ℕ) : Type 0 where
  pub own : StaysInSlot (λ was guest. (guest.serial ≡ was.serial) × IsRest (left_of guest.answer) answer) before after slot
  pub others : OnlyClosesOthers before after slot

-- A wire stands for the connection in its slot.
pub record HandsOut (before : Slab Guest) (wire : WireInHand) : Type 0 where
  pub guest : Guest
  pub there : get before wire.slot ≡ Some guest
  pub stands : StandsForGuest wire guest

-- The connection in the slot of a wire has its turn by it.
pub record IsOut (after : Slab Guest) (wire : WireInHand) : Type 0 where
  pub guest : Guest
  pub there : get after wire.slot ≡ Some guest
  pub turn : HasTurnBy wire guest

-- What a wire wrote is for the connection in its slot. Of the others some may be closed.
pub record TakesBack (before after : Slab Guest) (wire : WireInHand) : Type 0 where
  pub own : StaysInSlot (IsAnsweredByWire wire) before after wire.slot
  pub others : OnlyClosesOthers before after wire.slot
