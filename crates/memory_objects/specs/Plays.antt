-- The link in memory, as contracts see it.
use Rattle.std.specs.Prelude.{ℕ, ◌+◌, ◌-◌, ◌≤◌, ◌==◌, List, [], ◌∷◌, ◌++◌, length, drop, Option, is_none, None, Some, Bool, true, ◌&&◌, IsTrue, Contains, option_to_list}
use Rattle.std.specs.Option.{option_map}
use Rattle.sb_outside.specs.Outside.{raised}
use Rattle.memory_objects.specs.Logs.{logged}
use Rattle.sb_model.specs.declared.time.Moment.{Moment}
use Rattle.sb_outside.specs.Sessions.{with_received, with_close}
use Rattle.sb_outside.specs.declared.links.Session.{Session}

-- a session to be played: the bytes that it gives before its end, how many it takes at most, the numbers of its calls
-- that fail, and how often it says first that it is not answered yet. `begin` is call 1, and `close` is none; to ask
-- whether it is answered is none either.
pub record PlayInMemory : Type 0 where
  pub gives : List ℕ
  pub room : ℕ
  pub failing : List ℕ
  pub asks : ℕ

-- a session that is played: its entry in the log, what it has left to give, how many calls there were, and how often it
-- says yet that it is not answered
pub record SessionInMemory : Type 0 where
  pub session : Session
  pub left : List ℕ
  pub room : ℕ
  pub failing : List ℕ
  pub calls : ℕ
  pub asks : ℕ

-- a link in memory
pub record LinkInMemory : Type 0 where
  -- the sessions that come
  pub coming : List PlayInMemory
  -- the sessions before the last one
  pub past : Option (List Session)
  pub last : Option SessionInMemory
  -- how many sessions it logs at most
  pub entries : ℕ
  pub faults : ℕ
  -- how many bytes a call gives at most
  pub step : ℕ

-- all sessions
abbrev pub log_of : LinkInMemory → Option (List Session)
log_of link = option_map (λ past. past ++ option_to_list (option_map (λ last. last.session) link.last)) link.past

-- the sessions before a new one, of which the last is logged now
abbrev pub past_of : ℕ → Option (List Session) → Option SessionInMemory → Option (List Session)
past_of entries past None = past
past_of entries past (Some last) = logged entries past last.session

-- a session begins where one comes whose call 1 does not fail
abbrev pub CanBeginSession : List PlayInMemory → Type 0
CanBeginSession [] = ⊥
CanBeginSession (play ∷ plays) = ¬ Contains play.failing 1

-- the session began, and is not closed
abbrev pub is_session_open : Session → Bool
is_session_open session = session.began && is_none session.closed

-- a call of a session does what it is asked where the session is open and the call is not listed
abbrev pub CanCall : SessionInMemory → Type 0
CanCall played = IsTrue (is_session_open played.session) × ¬ Contains played.failing (raised played.calls)

-- and bytes are sent where they have room
abbrev pub CanSend : ℕ → SessionInMemory → Type 0
CanSend n played = CanCall played × (length played.session.sent + n ≤ played.room)

-- a session after a call that changed its entry
abbrev pub after_call : (Session → Session) → SessionInMemory → SessionInMemory
after_call change played = record played { session = change played.session; calls = raised played.calls }

-- a session after it gave these bytes, and after it was closed
abbrev pub after_giving : List ℕ → SessionInMemory → SessionInMemory
after_giving bytes played = record (after_call (with_received bytes) played) { left = drop (length bytes) played.left }

abbrev pub closed_at : Moment → SessionInMemory → SessionInMemory
closed_at at played = record played { session = with_close at played.session }

-- a session is answered once it was asked so often, and no session is not open for an answer
abbrev pub is_session_answered : Option SessionInMemory → Bool
is_session_answered None = true
is_session_answered (Some played) = played.asks == 0

abbrev pub after_ask : SessionInMemory → SessionInMemory
after_ask played = record played { asks = played.asks - 1 }
