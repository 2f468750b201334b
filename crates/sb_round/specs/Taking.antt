-- What is known of a round on the way through it.
use Rattle.std.specs.Prelude.{◌≡◌, ℕ, Bool, List, [], Result}
use Rattle.sb_outside.specs.declared.links.Kind.TheVariants.{Update}
use Rattle.update_client.specs.Step.{after_updates}
use Rattle.http_edge.specs.declared.faults.ExchangeFault.{ExchangeFault}
use Rattle.http_edge.specs.declared.messages.Target.{Target}
use Rattle.wait_rules.specs.declared.waits.WaitState.{WaitState}
use Rattle.client_line.specs.Lines.{LineView}
use Rattle.timed_sessions.specs.Told.{Outside, Grows}
use Rattle.timed_sessions.specs.Timed.{TimedSession, IsTimedSession, IsHeldToEnd, trace_of}
use Rattle.timed_sessions.specs.Waiting.{HasSettled}
use Rattle.timed_sessions.specs.declared.timing.Talk.{Talk}
use Rattle.sb_round.specs.Round.{RoundState, IsRoundAnswerOf, round_bids, updates_of, taken_from}
use Rattle.sb_round.specs.declared.rounds.RoundEnd.{RoundEnd}
use Rattle.sb_round.specs.declared.asking.Asked.{Asked}

-- A session was held to its end.
pub record HasTalked (waits : WaitState) (target : Target) (body : List ℕ) (need : Bool) (before after : Outside) (talk : Talk) : Type 0 where
  pub session : TimedSession
  pub is : IsTimedSession waits target Update body session
  pub held : IsHeldToEnd target Update body need session.entry talk.answer
  pub told : Grows before after (trace_of waits session [])
  pub begins : session.begun ≡ talk.begun
  pub closes : session.closed ≡ talk.closed

-- The same, and its outcome comes to this answer.
pub record HearsRound (waits : WaitState) (target : Target) (body : List ℕ) (need : Bool) (before after : Outside) (asked : Asked) : Type 0 where
  pub outcome : Result (List ℕ) ExchangeFault
  pub talked : HasTalked waits target body need before after (record { begun = asked.begun; closed = asked.closed; answer = outcome })
  pub answers : IsRoundAnswerOf outcome asked.answer

-- The answer of a round was taken, and its session settled.
pub record HasTaken (state state' : RoundState) (before after : LineView) (asked : Asked) (end : RoundEnd) : Type 0 where
  pub settled : HasSettled state.waits state'.waits asked.closed (round_bids asked.answer) before after
  pub lists_after : state'.lists ≡ after_updates state.lists (updates_of asked.answer)
  pub begins : end.begun ≡ asked.begun
  pub taken : end.taken ≡ taken_from state.lists asked.answer
