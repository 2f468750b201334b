-- How many connections may be open. Moments are those of the door's clock, in milliseconds.
use Rattle.std.specs.Prelude.{ℕ, zero, suc, ◌+◌, ◌-◌, ◌*◌, ◌/◌, min, max}
use Rattle.gathering.specs.declared.limits.DoorLimits.{DoorLimits}
use Rattle.gathering.specs.declared.rooms.HouseRoom.{HouseRoom}

-- room for as many as the limits say
abbrev pub whole_room : DoorLimits → HouseRoom
whole_room limits = record { most = limits.connections; since = 0 }

-- With each whole minute in which the system had room a quarter more may be open, and one more at least, up to the limit.
abbrev pub next_most : DoorLimits → ℕ → ℕ
next_most limits most = min (most + max (most / 4) 1) limits.connections

abbrev pub most_after : (minutes : ℕ) → DoorLimits → ℕ → ℕ
most_after zero limits most = most
most_after (suc minutes) limits most = most_after minutes limits (next_most limits most)

-- how many whole minutes lie between two moments
abbrev pub whole_minutes : (since now : ℕ) → ℕ
whole_minutes since now = (now - since) / 60000

-- the room at a later moment, which counts on from the last whole minute
abbrev pub risen_room : DoorLimits → HouseRoom → (now : ℕ) → HouseRoom
risen_room limits room now = record {
  most = most_after (whole_minutes room.since now) limits room.most;
  since = room.since + whole_minutes room.since now * 60000;
}
