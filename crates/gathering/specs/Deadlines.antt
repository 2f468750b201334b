-- Until when a connection has time. Moments are those of the door's clock, in milliseconds.
use Rattle.std.specs.Prelude.{ℕ, ◌+◌, ◌-◌, ◌*◌, ◌/◌, ◌^◌, min, max, Bool, false, Option, Some, None, nat_le}
use Rattle.gathering.specs.declared.limits.DoorLimits.{DoorLimits}
use Rattle.gathering.specs.declared.phases.Phase.{Phase}
use Rattle.gathering.specs.declared.phases.Phase.TheVariants.{Gathering, Decided, InTurn, Sending, Past}

-- a moment, at most the greatest u64
abbrev pub moment : ℕ → ℕ
moment n = min n (2 ^ 64 - 1)

-- an answer's time in all: a second more for each so many bytes that were taken
abbrev pub whole_time : DoorLimits → ℕ → ℕ
whole_time limits taken = limits.answer + 1000 * (taken / max limits.bytes_a_second 1)

-- The moment at which the time of a connection is up. One that has its turn has no such moment.
abbrev pub deadline : DoorLimits → Phase → Option ℕ
deadline limits (Gathering since) = Some (moment (since + limits.request))
deadline limits (Decided since) = Some (moment (since + limits.turn))
deadline limits InTurn = None
deadline limits (Sending since last taken ended) = Some (moment (min (last + limits.stall) (since + whole_time limits taken)))
deadline limits (Past since read) = Some (moment (since + limits.rest))

-- whether a moment has come, where there is one
abbrev pub has_passed : Option ℕ → ℕ → Bool
has_passed (Some due) now = nat_le due now
has_passed None now = false

-- How much of a stretch between two looks at the clock counts, in nanoseconds: at most a second.
abbrev pub counted_stretch : (stretch : ℕ) → ℕ
counted_stretch stretch = min stretch 1000000000
