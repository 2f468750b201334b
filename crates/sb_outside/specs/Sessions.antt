-- The log of a link: a list of sessions, of which the last is the one that calls speak of.
use Rattle.std.specs.Prelude.{◌≡◌, ℕ, List, [], ◌∷◌, ◌++◌, Option, None, Some, true, false, refl}
use Rattle.std.specs.Option.{option_map}
use Rattle.std.proofs.Common.{ap}
use Rattle.sb_model.specs.declared.time.Moment.{Moment}
use Rattle.sb_outside.specs.declared.links.Kind.{Kind}
use Rattle.sb_outside.specs.declared.links.Session.{Session}

-- a session that has begun, and one whose beginning failed
abbrev pub begun_session : Moment → Kind → Session
begun_session at kind = record { kind = kind; begun = at; began = true; sent = []; received = []; ended = false; failed = false; closed = None }

abbrev pub refused_session : Moment → Kind → Session
refused_session at kind = record { kind = kind; begun = at; began = false; sent = []; received = []; ended = false; failed = true; closed = None }

-- what becomes of a session where bytes are sent or received, at its end, at a fault, and where it is closed
abbrev pub with_sent : List ℕ → Session → Session
with_sent bytes session = record session { sent = session.sent ++ bytes }

abbrev pub with_received : List ℕ → Session → Session
with_received bytes session = record session { received = session.received ++ bytes }

abbrev pub with_end : Session → Session
with_end session = record session { ended = true }

abbrev pub with_failure : Session → Session
with_failure session = record session { failed = true }

abbrev pub with_close : Moment → Session → Session
with_close at session = record session { closed = Some at }

-- the last of the list changed, or the empty list
abbrev pub change_last : (Session → Session) → Session → List Session → List Session
change_last change session [] = change session ∷ []
change_last change session (next ∷ sessions) = session ∷ change_last change next sessions

abbrev pub on_last : (Session → Session) → List Session → List Session
on_last change [] = []
on_last change (session ∷ sessions) = change_last change session sessions

-- the log with its last session changed, where it is told
abbrev pub last_changed : (Session → Session) → Option (List Session) → Option (List Session)
last_changed change log = option_map (on_last change) log

-- the last of a list with one more is that one
pub change_last-push : (change : Session → Session) (first last : Session) (sessions : List Session) → change_last change first (sessions ++ last ∷ []) ≡ first ∷ (sessions ++ change last ∷ [])
change_last-push change first last [] = refl
change_last-push change first last (next ∷ sessions) = ap (λ rest. first ∷ rest) (change_last-push change next last sessions)

pub on_last-push : (change : Session → Session) (last : Session) (sessions : List Session) → on_last change (sessions ++ last ∷ []) ≡ sessions ++ change last ∷ []
on_last-push change last [] = refl
on_last-push change last (first ∷ sessions) = change_last-push change first last sessions
