-- What a resolution does to the kept answers, to the state of waiting and to the objects outside.
use Rattle.std.specs.Prelude.{◌≡◌, ℕ, ◌⊎◌, Bool, List, [], Err}
use Rattle.sb_model.specs.declared.time.Moment.{Moment}
use Rattle.sb_outside.specs.Outside.{Rose}
use Rattle.sb_outside.specs.declared.links.Kind.TheVariants.{Find}
use Rattle.http_edge.specs.declared.faults.ExchangeFault.TheVariants.{Link}
use Rattle.http_edge.specs.declared.messages.Target.{Target}
use Rattle.wait_rules.specs.declared.waits.WaitState.{WaitState}
use Rattle.timed_sessions.specs.Told.{Outside, Grows}
use Rattle.timed_sessions.specs.Timed.{TimedSession, IsTimedSession, trace_of}
use Rattle.verdict_report.specs.declared.verdicts.Cause.TheVariants.{Exchange}
use Rattle.verdict_report.specs.declared.verdicts.Verdict.{Verdict}
use Rattle.url_checker.specs.Resolving.{Resolution, IsResolution, find_body_asked, hits_asked, verdict_of, pairs_after, waits_after_finding, trace_of_finding, trace_of_reading, answer_in}
use Rattle.url_checker.specs.declared.findings.Hit.{Hit}
use Rattle.url_checker.specs.declared.finds.Finds.{Finds}

-- What is to be resolved: the hits of a finding, and the states that a find for them carries.
pub record Unresolved : Type 0 where
  pub states : List (List ℕ)
  pub hits : List Hit

abbrev pub unresolved : List (List ℕ) → List Hit → Unresolved
unresolved states hits = record { states = states; hits = hits }

-- the link failed in the session of a finding
abbrev pub LinkFailed : WaitState → Resolution → Type 0
LinkFailed waits r = answer_in waits r.talk ≡ Err (Exchange Link)

-- The hits of a finding were resolved: this is what it left, what is told more, and what it came to. A fault of the link is counted,
-- and nothing else is.
pub record Resolves (what : Unresolved) (patience : ℕ) (target : Target) (need : Bool) (finds finds' : Finds) (before after : Outside) (verdict : Verdict) : Type 0 where
  pub resolution : Resolution
  pub is : IsResolution what.states patience target need what.hits finds.cache finds.waits resolution
  pub told : Grows before after (trace_of_finding finds.waits resolution)
  pub pairs_are : finds'.cache ≡ pairs_after what.states what.hits finds.cache resolution
  pub waits_are : finds'.waits ≡ waits_after_finding finds.waits resolution
  pub verdict_is : verdict ≡ verdict_of finds.cache finds.waits what.hits resolution
  pub failed : LinkFailed finds.waits resolution → Rose before.faults after.faults
  pub kept : (LinkFailed finds.waits resolution → ⊥) → after.faults ≡ before.faults

-- A session that asks for some hits was held and closed, if it was not held to its end.
pub record HoldsFindSession (waits : WaitState) (target : Target) (body : List ℕ) (now : Moment) (before after : Outside) : Type 0 where
  pub session : TimedSession
  pub is : IsTimedSession waits target Find body session
  pub reading : session.read ≡ now
  pub told : Grows before after (trace_of waits session [])

-- A resolution was broken off for want of memory: after the clock was read, or after the session of its find was closed.
pub record StopsResolving (what : Unresolved) (target : Target) (finds : Finds) (before after : Outside) : Type 0 where
  pub now : Moment
  pub told : Grows before after (trace_of_reading now)
      ⊎ HoldsFindSession finds.waits target (find_body_asked what.states (hits_asked finds.cache now what.hits)) now before after
