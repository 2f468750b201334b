-- What the errors of `accept` say, by their numbers on Linux (errno(3)).
use Rattle.std.specs.Prelude.{ℕ, List, [], ◌∷◌, Option, Some, None, ◌==◌, if◌then◌else◌}
use Rattle.std.specs.List.{list_any}
use Rattle.gathering.specs.declared.accepting.AcceptFault.{AcceptFault}
use Rattle.gathering.specs.declared.accepting.AcceptFault.TheVariants.{NoneWaits, OfOne, NoRoom, OfTheDoor}

-- EAGAIN: no connection waits
abbrev pub none_waits : ℕ
none_waits = 11

-- EPERM, EINTR, ENONET, EPROTO, ENOPROTOOPT, EOPNOTSUPP, ENETDOWN, ENETUNREACH, ECONNABORTED, ECONNRESET, ETIMEDOUT, EHOSTDOWN,
-- EHOSTUNREACH: one connection was lost
abbrev pub of_one_connection : List ℕ
of_one_connection = 1 ∷ 4 ∷ 64 ∷ 71 ∷ 92 ∷ 95 ∷ 100 ∷ 101 ∷ 103 ∷ 104 ∷ 110 ∷ 112 ∷ 113 ∷ []

-- ENOMEM, ENFILE, EMFILE, ENOBUFS: there is no room
abbrev pub want_of_room : List ℕ
want_of_room = 12 ∷ 23 ∷ 24 ∷ 105 ∷ []

-- what an error says, by its number
abbrev pub meaning : ℕ → AcceptFault
meaning number =
    if number == none_waits then NoneWaits
    else if list_any (λ n. n == number) of_one_connection then OfOne
    else if list_any (λ n. n == number) want_of_room then NoRoom
    else OfTheDoor

-- Any other error, and one without a number, is the door's.
abbrev pub accept_fault_of : Option ℕ → AcceptFault
accept_fault_of (Some number) = meaning number
accept_fault_of None = OfTheDoor
