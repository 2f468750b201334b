-- What waits to be sent, and the wire that is handed out, as contracts see them.
use Rattle.std.specs.Prelude.{◌≡◌, ℕ, zero, suc, ◌+◌, ◌<◌, ◌⊎◌, Option, Some, None, Bool, true, List, [], ◌∷◌, ◌++◌, length, drop}
use Rattle.std.specs.List.{All, concat}
use Rattle.sb_outside.specs.Connections.{pieces_of_wire}
use Rattle.http_edge.specs.Deciding.{IsDecided}
use Rattle.gathering.specs.declared.phases.Ending.{Ending}
use Rattle.gathering.specs.declared.phases.Ending.TheVariants.{Fault}

-- What of an answer's own bytes waits to be sent: what is left of its first piece, and the bytes after that piece.
pub record Waiting : Type 0 where
  pub front : List ℕ
  pub rest : List ℕ

-- all these bytes, in order
abbrev pub bytes_waiting : Waiting → List ℕ
bytes_waiting waiting = waiting.front ++ waiting.rest

-- nothing waits
abbrev pub nothing : Waiting
nothing = record { front = []; rest = [] }

-- the first of the pieces, of which the last is kept apart, and the bytes after it
abbrev pub first_of_pieces : List (List ℕ) → List ℕ → List ℕ
first_of_pieces [] last = last
first_of_pieces (piece ∷ pieces) last = piece

abbrev pub pieces_after_first : List (List ℕ) → List ℕ → List ℕ
pieces_after_first [] last = []
pieces_after_first (piece ∷ pieces) last = concat pieces ++ last

-- Some of the first piece is not sent, unless nothing waits, each other piece has a byte, and so many bytes wait.
pub record IsOutgoing (full : List (List ℕ)) (last : List ℕ) (sent left : ℕ) : Type 0 where
  pub going : (sent ≡ 0) ⊎ (sent < length (first_of_pieces full last))
  pub filled : All (λ piece. 0 < length piece) full
  pub count : left ≡ length (drop sent (first_of_pieces full last) ++ pieces_after_first full last)

-- An answer that leaves: what is left of its own bytes before the text that it shares, of that text, and of its own bytes behind it;
-- how many bytes are sent next; and the number and the length of that text, where it holds one.
pub record Leaving : Type 0 where
  pub before : List ℕ
  pub text : List ℕ
  pub behind : List ℕ
  pub front : ℕ
  pub held : Option (ℕ × ℕ)

-- no bytes
abbrev pub nothing_leaves : Leaving
nothing_leaves = record { before = []; text = []; behind = []; front = 0; held = None }

-- all bytes that are left, in order
abbrev pub all_left : Leaving → List ℕ
all_left answer = answer.before ++ (answer.text ++ answer.behind)

-- how many of them are its own, and not of a text that others hold too
abbrev pub own_left : Leaving → ℕ
own_left answer = length answer.before + length answer.behind

-- a text of this length is held, whatever its number
abbrev pub HoldsSize : Option (ℕ × ℕ) → ℕ → Type 0
HoldsSize held size = (number : ℕ) × (held ≡ Some (number, size))

-- the bytes of a text, where there is one
abbrev pub bytes_of_text : Option (List ℕ) → List ℕ
bytes_of_text None = []
bytes_of_text (Some text) = text

-- its number and its length
abbrev pub held_of : ℕ → Option (List ℕ) → Option (ℕ × ℕ)
held_of number None = None
held_of number (Some text) = Some (number, length text)

-- the first of three lengths that is not 0
abbrev pub first_length : (a b c : ℕ) → ℕ
first_length zero zero c = c
first_length zero (suc b) c = suc b
first_length (suc a) b c = suc a

-- own bytes, then what is left of a text, then own bytes
abbrev pub leaving : Waiting → List ℕ → Waiting → Option (ℕ × ℕ) → Leaving
leaving head shared tail held = record {
  before = bytes_waiting head;
  text = shared;
  behind = bytes_waiting tail;
  front = first_length (length head.front) (length shared) (length tail.front);
  held = held;
}

-- a connection that is handed out
pub record WireInHand : Type 0 where
  pub number : ℕ
  -- the place of its connection in the house, and the number of the connection there
  pub slot : ℕ
  pub serial : ℕ
  -- the bytes that were gathered, and whether its peer has said that it sends no more
  pub sends : List ℕ
  pub ended : Bool
  -- what is left of them: they and the end, or nothing after the end was answered
  pub left : List (List ℕ)
  -- what a read answers after them
  pub ending : Ending
  pub written : List ℕ
  pub read_faults : ℕ
  pub write_faults : ℕ

-- A wire of this number as the door hands it out: all its bytes are to come, and nothing is written or counted.
pub record IsFreshWire (number : ℕ) (wire : WireInHand) : Type 0 where
  pub numbered : wire.number ≡ number
  pub whole : wire.left ≡ pieces_of_wire wire.sends
  pub unwritten : wire.written ≡ []
  pub read_faults : wire.read_faults ≡ 0
  pub write_faults : wire.write_faults ≡ 0

-- A connection has its turn only where its bytes decide its request, or its peer has ended, or a read fails after its bytes: it
-- failed, or its time has passed.
abbrev pub HasItsTurn : WireInHand → Type 0
HasItsTurn wire = IsDecided wire.sends ⊎ (wire.ended ≡ true) ⊎ (wire.ending ≡ Fault)
