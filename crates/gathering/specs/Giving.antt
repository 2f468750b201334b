-- Who gives way, of connections that stand in rows: each row is in order, the longest there first.
use Rattle.std.specs.Prelude.{◌≡◌, ◌⊎◌, ℕ, ◌+◌, List, [], ◌∷◌, Option, Some, None, nat_le, if◌then◌else◌}
use Rattle.std.specs.BTreeMap.{insert_entry, is_at}
use Rattle.std.specs.List.Sorted.{IsStrictlySortedBy}
use Rattle.std.specs.Map.{keys_of, remove_entry}
use Rattle.std.specs.Ordering.{nat_cmp, ordering_then}
use Rattle.std.specs.declared.cmp.Ordering.{Ordering}
use Rattle.gathering.specs.Deadlines.{deadline, moment}
use Rattle.gathering.specs.declared.limits.DoorLimits.{DoorLimits}
use Rattle.gathering.specs.declared.phases.Phase.{Phase}
use Rattle.gathering.specs.declared.phases.Phase.TheVariants.{Gathering, Decided, InTurn, Sending, Past}
use Rattle.gathering.specs.declared.rows.Place.{Place}

-- The connections by their slots: those that gather, by when they began; those that are sent an answer, by when a byte of it was
-- last taken; and all that have one, by when their time is up.
pub record Standing : Type 0 where
  pub gathering : List (Place × ℕ)
  pub sending : List (Place × ℕ)
  pub due : List (Place × ℕ)

-- the first of a row
abbrev pub first_place : List (Place × ℕ) → Option ℕ
first_place [] = None
first_place (one ∷ others) = Some one.1

-- Where so many bytes of answers wait: whose answer is cut next, until they are within their sum.
abbrev pub cut_next : DoorLimits → (waiting : ℕ) → Standing → Option ℕ
cut_next limits waiting rows = if nat_le waiting limits.answer_bytes then None else first_place rows.sending

-- Where so many bytes are gathered, and so many come: who gives way to them next, until all are within their sum.
abbrev pub drop_next : DoorLimits → (gathered more : ℕ) → Standing → Option ℕ
drop_next limits gathered more rows = if nat_le (moment (gathered + more)) limits.gathered_bytes then None else first_place rows.gathering

-- when the time of some connection is up first, and of which
abbrev pub first_due : List (Place × ℕ) → Option (ℕ × ℕ)
first_due [] = None
first_due (one ∷ others) = Some (one.0.at, one.1)

-- which of two places is first: by the moment, and then by the number of the connection
abbrev pub place_cmp : Place → Place → Ordering
place_cmp a b = ordering_then (nat_cmp a.at b.at) (nat_cmp a.serial b.serial)

-- a row is in order: each place comes after those before it
abbrev pub IsRow : List (Place × ℕ) → Type 0
IsRow row = IsStrictlySortedBy place_cmp (keys_of row)

-- the place of the connection of this number at a moment
abbrev pub place : (at serial : ℕ) → Place
place at serial = record { at = at; serial = serial }

-- a row with a slot at a place, and without what stands at a place; the others stay, in order
abbrev pub put : List (Place × ℕ) → Place → ℕ → List (Place × ℕ)
put row at slot = insert_entry place_cmp row at slot

abbrev pub without_place : List (Place × ℕ) → Place → List (Place × ℕ)
without_place row at = remove_entry (is_at (place_cmp at)) row

-- The rows with a connection in that of its phase: gathering by when it began, sent an answer by when a byte of it was last
-- taken. In another phase it stands in none.
abbrev pub with_its_phase : Phase → (serial slot : ℕ) → Standing → Standing
with_its_phase (Gathering since) serial slot rows = record rows { gathering = put rows.gathering (place since serial) slot }
with_its_phase (Decided since) serial slot rows = rows
with_its_phase InTurn serial slot rows = rows
with_its_phase (Sending since last taken ended) serial slot rows = record rows { sending = put rows.sending (place last serial) slot }
with_its_phase (Past since read) serial slot rows = rows

-- and among all, by when its time is up, where there is such a moment
abbrev pub with_its_time : Option ℕ → (serial slot : ℕ) → Standing → Standing
with_its_time (Some at) serial slot rows = record rows { due = put rows.due (place at serial) slot }
with_its_time None serial slot rows = rows

-- the rows once a connection has entered
abbrev pub entered : DoorLimits → Phase → (serial slot : ℕ) → Standing → Standing
entered limits phase serial slot rows = with_its_time (deadline limits phase) serial slot (with_its_phase phase serial slot rows)

-- what is left where memory is refused for it: it stands in no row, or in that of its phase alone
abbrev pub IsHalfEntered : Phase → (serial slot : ℕ) → Standing → Standing → Type 0
IsHalfEntered phase serial slot rows rows' = (rows' ≡ rows) ⊎ (rows' ≡ with_its_phase phase serial slot rows)

-- The rows without a connection in that of its phase, and without it among all.
abbrev pub without_its_phase : Phase → (serial : ℕ) → Standing → Standing
without_its_phase (Gathering since) serial rows = record rows { gathering = without_place rows.gathering (place since serial) }
without_its_phase (Decided since) serial rows = rows
without_its_phase InTurn serial rows = rows
without_its_phase (Sending since last taken ended) serial rows = record rows { sending = without_place rows.sending (place last serial) }
without_its_phase (Past since read) serial rows = rows

abbrev pub without_its_time : Option ℕ → (serial : ℕ) → Standing → Standing
without_its_time (Some at) serial rows = record rows { due = without_place rows.due (place at serial) }
without_its_time None serial rows = rows

-- the rows once a connection has left
abbrev pub left : DoorLimits → Phase → (serial : ℕ) → Standing → Standing
left limits phase serial rows = without_its_time (deadline limits phase) serial (without_its_phase phase serial rows)
