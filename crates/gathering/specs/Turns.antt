-- Whose turn it is, and who gives way in a full house: the first of some by their keys, which are lists of numbers.
use Rattle.std.specs.Prelude.{ℕ, ◌-◌, ◌^◌, List, [], ◌∷◌, Bool, true, false}
use Rattle.std.specs.Ordering.{nat_cmp, is_lt}
use Rattle.std.specs.Cmp.Lexicographic.{slice_cmp}
use Rattle.gathering.specs.Addresses.{address_cmp}
use Rattle.gathering.specs.Counts.{Taken, share_of, count_of}
use Rattle.gathering.specs.declared.addresses.Address.{Address}
use Rattle.gathering.specs.declared.turns.InLine.{InLine}
use Rattle.gathering.specs.declared.turns.Candidate.{Candidate}
use Rattle.gathering.specs.declared.phases.Phase.{Phase}
use Rattle.gathering.specs.declared.phases.Phase.TheVariants.{Gathering, Decided, InTurn, Sending, Past}

-- one list of numbers comes before another, by the first in which they differ
abbrev pub is_before : List ℕ → List ℕ → Bool
is_before a b = is_lt (slice_cmp nat_cmp a b)

-- Those in line have their turn by how long the answers of their addresses took, the least first, then by since when they wait,
-- and by when they came.
abbrev pub turn_key : Taken → InLine → List ℕ
turn_key taken one = share_of taken one.address ∷ one.since ∷ one.serial ∷ []

abbrev pub turn_before : Taken → InLine → InLine → Bool
turn_before taken one other = is_before (turn_key taken one) (turn_key taken other)

-- One that waits for its turn does not give way, nor one that has it.
abbrev pub may_yield : Phase → Bool
may_yield (Decided since) = false
may_yield InTurn = false
may_yield (Gathering since) = true
may_yield (Sending since last taken ended) = true
may_yield (Past since read) = true

-- how many connections of an address are open
abbrev pub OpenOf : Type 0
OpenOf = List (Address × ℕ)

-- the fewer, the more are open
abbrev pub few : OpenOf → Address → ℕ
few counts address = 2 ^ 64 - 1 - count_of address_cmp counts address

-- There gives way first one that may; of the address that has the most open; one that is past its answer, before one that gathers,
-- before one that is sent its answer; by since when it is so, or when a byte was last taken; and by when it came.
abbrev pub phase_key : (few serial : ℕ) → Phase → List ℕ
phase_key few serial (Past since read) = 0 ∷ few ∷ 0 ∷ since ∷ serial ∷ []
phase_key few serial (Gathering since) = 0 ∷ few ∷ 1 ∷ since ∷ serial ∷ []
phase_key few serial (Sending since last taken ended) = 0 ∷ few ∷ 2 ∷ last ∷ serial ∷ []
phase_key few serial (Decided since) = 1 ∷ few ∷ 3 ∷ since ∷ serial ∷ []
phase_key few serial InTurn = 1 ∷ few ∷ 4 ∷ 0 ∷ serial ∷ []

abbrev pub yield_key : OpenOf → Candidate → List ℕ
yield_key counts one = phase_key (few counts one.address) one.serial one.phase

abbrev pub yield_before : OpenOf → Candidate → Candidate → Bool
yield_before counts one other = is_before (yield_key counts one) (yield_key counts other)
