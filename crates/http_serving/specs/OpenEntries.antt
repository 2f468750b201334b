-- A door's log of which any entries are open yet: their connections were taken and not given back.
use Rattle.std.specs.Prelude.{◌≡◌, ◌==◌, ℕ, Bool, true, false, not, List, [], ◌∷◌, ◌++◌, length, filter, slice_get, Option, Some, IfSome}
use Rattle.std.specs.List.{list_any}
use Rattle.sb_outside.specs.Outside.{IfTold, with_entry}
use Rattle.sb_outside.specs.Connections.{open_connection}
use Rattle.sb_outside.specs.declared.doors.Connection.{Connection}
use Rattle.http_serving.specs.Returning.{IsReturned}

-- whether the entry with a number is open, of those with these numbers
abbrev pub is_entry_open : ℕ → List ℕ → Bool
is_entry_open number opens = list_any (λ other. other == number) opens

-- the numbers without this one
abbrev pub without_entry : ℕ → List ℕ → List ℕ
without_entry number opens = filter (λ other. not (other == number)) opens

-- The entries with these numbers are open: they are as they were when their connections were handed out. Each other entry says such
-- a thing, by its number.
pub record HasOpen (Says : ℕ → Connection → Type 0) (opens : List ℕ) (entries : List Connection) : Type 0 where
  pub opened : (number : ℕ) → is_entry_open number opens ≡ true → slice_get entries number ≡ Some open_connection
  pub closed : (number : ℕ) (entry : Connection) → is_entry_open number opens ≡ false → slice_get entries number ≡ Some entry → Says number entry

-- the same of a log, where it is told
abbrev pub IsOpenLog : (ℕ → Connection → Type 0) → List ℕ → Option (List Connection) → Type 0
IsOpenLog Says opens log = IfSome log (HasOpen Says opens)

-- A connection that is taken gets the next number, and its entry is open.
abbrev pub OpensOne : (ℕ → Connection → Type 0) → Type 0
OpensOne Says =
    (opens : List ℕ) (number : ℕ) (log log' : Option (List Connection)) → IsOpenLog Says opens log
    → IfSome log (λ entries. number ≡ length entries) → IfTold log' (with_entry log open_connection) → IsOpenLog Says (opens ++ number ∷ []) log'

-- A connection that is given back, whichever it is, says in its entry what it is to say, and each other entry stays as it is.
abbrev pub ClosesOne : (ℕ → Connection → Type 0) → Type 0
ClosesOne Says =
    (opens : List ℕ) (number : ℕ) (log log' : Option (List Connection)) → IsOpenLog Says opens log
    → IsReturned (Says number) number log log' → IsOpenLog Says (without_entry number opens) log'

-- Where none is open, each entry says it.
abbrev pub SaysAll : (ℕ → Connection → Type 0) → Type 0
SaysAll Says =
    (log : Option (List Connection)) → IsOpenLog Says [] log
    → IfSome log (λ entries. (number : ℕ) (entry : Connection) → slice_get entries number ≡ Some entry → Says number entry)
