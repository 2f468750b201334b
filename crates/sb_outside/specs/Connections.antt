-- The log of a door: a list of connections, in the order in which they came.
use Rattle.std.specs.Prelude.{◌≡◌, ℕ, ◌<◌, ◌≤◌, ◌↔◌, List, [], ◌∷◌, ◌++◌, length, drop, Option, Some, None, false, IfSome, IsTrue, slice_set}
use Rattle.std.specs.List.{concat}
use Rattle.std.specs.Option.{option_map}
use Rattle.sb_outside.specs.Outside.{IfTold}
use Rattle.sb_outside.specs.declared.doors.Arrival.{Arrival}
use Rattle.sb_outside.specs.declared.doors.Arrival.TheVariants.{Connected, NoMore, TimedOut}
use Rattle.sb_outside.specs.declared.doors.Connection.{Connection}

-- a connection of which nothing is known yet
abbrev pub open_connection : Connection
open_connection = record { given = []; ended = false; written = []; read_fault = false; write_fault = false }

-- the wire of an arrival, where it is one
abbrev pub connected : {W : Type 0} → Arrival W → Option W
connected (Connected wire) = Some wire
connected NoMore = None
connected TimedOut = None

-- the pieces of a wire that gives these bytes: there is one end of input
abbrev pub pieces_of_wire : List ℕ → List (List ℕ)
pieces_of_wire bytes = bytes ∷ []

-- The first of the connections that were to come is taken: these are its pieces. There is one at least, which may be
-- empty: bytes and the end of input after them, or that end alone.
pub record TakesFirst (before after : Option (List (List (List ℕ)))) (start left : Option (List (List ℕ))) : Type 0 where
  pub pieces : List (List ℕ)
  pub some : 0 < length pieces
  pub first : before ≡ option_map (λ later. pieces ∷ later) after
  pub started : IfTold start (Some pieces)
  pub remains : IfTold left (Some pieces)

-- an end of input was answered, and no byte after it
abbrev pub HasEnded : List (List ℕ) → List (List ℕ) → Type 0
HasEnded pieces left = (n : ℕ) × (0 < n) × (n ≤ length pieces) × (left ≡ drop n pieces)

-- What an entry says of a connection: the bytes that it gave, whether it answered an end after them, what was written to
-- it, and whether it counted faults.
pub record IsEntryOf (entry : Connection) (start left : Option (List (List ℕ))) (contents : Option (List ℕ)) (read_faults write_faults : ℕ) : Type 0 where
  pub pieces : List (List ℕ)
  pub rest : List (List ℕ)
  pub started : start ≡ Some pieces
  pub remains : left ≡ Some rest
  pub given : concat pieces ≡ entry.given ++ concat rest
  pub ended : IsTrue entry.ended ↔ HasEnded pieces rest
  pub written : contents ≡ Some entry.written
  pub read_fault : IsTrue entry.read_fault ↔ (0 < read_faults)
  pub write_fault : IsTrue entry.write_fault ↔ (0 < write_faults)

-- The log after a connection was taken back: where it is told, the entry of that number says what came of it, and each other entry is as it was.
pub record Returns (before after : Option (List Connection)) (number : ℕ) (start left : Option (List (List ℕ))) (contents : Option (List ℕ)) (read_faults write_faults : ℕ) : Type 0 where
  pub entry : Connection
  pub log : IfTold after (option_map (λ entries. slice_set entries number entry) before)
  pub says : IfSome after (λ _. IsEntryOf entry start left contents read_faults write_faults)
