-- What becomes of a connection: with what is read of it, with what is sent to it, and after its turn.
use Rattle.std.specs.Prelude.{ℕ, zero, suc, ◌+◌, Bool, true, false, nat_le, if◌then◌else◌}
use Rattle.gathering.specs.Deadlines.{deadline, has_passed, moment}
use Rattle.gathering.specs.declared.limits.DoorLimits.{DoorLimits}
use Rattle.gathering.specs.declared.phases.Phase.{Phase}
use Rattle.gathering.specs.declared.phases.Phase.TheVariants.{Gathering, Decided, InTurn, Sending, Past}
use Rattle.gathering.specs.declared.phases.Ending.{Ending}
use Rattle.gathering.specs.declared.phases.Ending.TheVariants as ending
use Rattle.gathering.specs.declared.steps.Heard.{Heard}
use Rattle.gathering.specs.declared.steps.Heard.TheVariants as heard
use Rattle.gathering.specs.declared.steps.Sent.{Sent}
use Rattle.gathering.specs.declared.steps.Sent.TheVariants as sent
use Rattle.gathering.specs.declared.steps.Step.{Step}
use Rattle.gathering.specs.declared.steps.Step.TheVariants.{On, HandOut, Rest, Close}

-- A connection that is past its answer, or is sent one, ends where its time is up.
abbrev pub unless_due : DoorLimits → Phase → ℕ → Step
unless_due limits phase now = if has_passed (deadline limits phase) now then Close else On phase

-- A connection has its turn once something of its request came. One that has sent nothing is closed.
abbrev pub turn_step : (gathered : ℕ) → Ending → Step
turn_step zero ending = Close
turn_step (suc gathered) ending = HandOut ending

-- A connection whose request is undecided goes on until its time is up. Then it has its turn, and after its bytes a read fails.
abbrev pub waits_on : DoorLimits → Phase → (gathered now : ℕ) → Step
waits_on limits phase gathered now = if has_passed (deadline limits phase) now then turn_step gathered ending.Fault else On phase

-- A connection whose request is gathered has its turn once its bytes decide the request, its peer has ended, or it failed.
abbrev pub gathering_step : DoorLimits → Phase → Heard → Bool → (gathered now : ℕ) → Step
gathering_step limits phase heard.End decided gathered now = turn_step gathered ending.End
gathering_step limits phase heard.Fault decided gathered now = turn_step gathered ending.Fault
gathering_step limits phase heard.Nothing decided gathered now = waits_on limits phase gathered now
gathering_step limits phase (heard.Bytes count) true gathered now = HandOut ending.End
gathering_step limits phase (heard.Bytes count) false gathered now = waits_on limits phase gathered now

-- A connection that waits for its turn ends where it has failed, and where its time is up. If its peer has ended, it keeps its turn.
abbrev pub waiting_step : DoorLimits → Phase → Heard → ℕ → Step
waiting_step limits phase heard.Fault now = Close
waiting_step limits phase (heard.Bytes count) now = unless_due limits phase now
waiting_step limits phase heard.End now = unless_due limits phase now
waiting_step limits phase heard.Nothing now = unless_due limits phase now

-- What is read of a connection that is sent its answer is forgotten. Where its peer has ended, that is kept.
abbrev pub sending_step : ℕ → ℕ → ℕ → Bool → Heard → Step
sending_step since last taken ended (heard.Bytes count) = On (Sending since last taken ended)
sending_step since last taken ended heard.Nothing = On (Sending since last taken ended)
sending_step since last taken ended heard.End = On (Sending since last taken true)
sending_step since last taken ended heard.Fault = Close

abbrev pub sending_read : Phase → Heard → Step
sending_read (Sending since last taken ended) heard = sending_step since last taken ended heard
sending_read phase heard = On phase

-- Past its answer a connection ends with its peer, at a fault, with the last byte that is forgotten, or where its time is up.
abbrev pub rest_step : DoorLimits → ℕ → ℕ → Heard → ℕ → Step
rest_step limits since read heard.End now = Close
rest_step limits since read heard.Fault now = Close
rest_step limits since read heard.Nothing now = unless_due limits (Past since read) now
rest_step limits since read (heard.Bytes count) now =
    if nat_le limits.rest_bytes (moment (read + count)) then Close else unless_due limits (Past since (moment (read + count))) now

-- What becomes of a connection whose socket was read. One that has its turn stays so, whatever comes.
abbrev pub read_step : DoorLimits → Phase → Heard → Bool → (gathered now : ℕ) → Step
read_step limits (Gathering since) heard decided gathered now = gathering_step limits (Gathering since) heard decided gathered now
read_step limits (Decided since) heard decided gathered now = waiting_step limits (Decided since) heard now
read_step limits InTurn heard decided gathered now = On InTurn
read_step limits (Sending since last taken ended) heard decided gathered now = sending_step since last taken ended heard
read_step limits (Past since read) heard decided gathered now = rest_step limits since read heard now

-- A connection of whose answer nothing is left is past it, or ends where its peer has.
abbrev pub past_step : Bool → ℕ → Step
past_step true now = Close
past_step false now = Rest (Past now 0)

-- The system took so many bytes of an answer, of which so many are left: none, some with none taken, and some with some taken.
abbrev pub taken_step : DoorLimits → ℕ → ℕ → ℕ → Bool → (count left now : ℕ) → Step
taken_step limits since last taken ended count zero now = past_step ended now
taken_step limits since last taken ended zero (suc left) now = unless_due limits (Sending since last taken ended) now
taken_step limits since last taken ended (suc count) (suc left) now = unless_due limits (Sending since now (moment (taken + suc count)) ended) now

-- What becomes of a connection whose answer was tried to be sent.
abbrev pub write_step : DoorLimits → Phase → Sent → (left now : ℕ) → Step
write_step limits (Sending since last taken ended) (sent.Taken count) left now = taken_step limits since last taken ended count left now
write_step limits (Sending since last taken ended) sent.Fault left now = Close
write_step limits (Gathering since) sent left now = On (Gathering since)
write_step limits (Decided since) sent left now = On (Decided since)
write_step limits InTurn sent left now = On InTurn
write_step limits (Past since read) sent left now = On (Past since read)

-- What becomes of a connection after its turn, with so many bytes to send.
abbrev pub answer_step : (left : ℕ) → Bool → ℕ → Step
answer_step zero ended now = past_step ended now
answer_step (suc left) ended now = On (Sending now now 0 ended)
