-- The sessions of URLs that were judged: finds alone, at most one for each, none of them before its allowed moment.
use Rattle.std.specs.Prelude.{◌≡◌, ℕ, ◌≤◌, List, [], length, map, Ok, Err}
use Rattle.std.specs.List.{flat_map}
use Rattle.sb_outside.specs.declared.links.Session.{Session}
use Rattle.snapshot_publish.specs.Publications.{Publications}
use Rattle.timed_sessions.specs.Waiting.{ClosedSession, KeepToWaits}
use Rattle.url_checker.specs.Resolving.{closed_in}
use Rattle.url_checker.specs.declared.finds.Finds.{Finds}
use Rattle.judge_run.specs.Judging.{Case, AreCases, trace_of_cases}
use Rattle.judge_run.specs.declared.plan.JudgePlan.{JudgePlan}

-- the session of a URL, if one was held for it
abbrev pub case_sessions : Case → List ClosedSession
case_sessions (Ok answered) = closed_in answered.resolution.talk
case_sessions (Err fault) = []

abbrev pub sessions_of_cases : List Case → List ClosedSession
sessions_of_cases cases = flat_map case_sessions cases

abbrev pub logged_entry : ClosedSession → Session
logged_entry closed = closed.session.entry

-- What the log of the link has more are these sessions, and each keeps to its wait.
pub record KeepToTheirWaits (finds : Finds) (published : Publications) (cases : List Case) : Type 0 where
  pub keep : KeepToWaits finds.waits (sessions_of_cases cases)
  pub are : (trace_of_cases published finds cases).sessions ≡ map logged_entry (sessions_of_cases cases)
  pub few : length (sessions_of_cases cases) ≤ length cases

abbrev pub CasesKeepToWaits : Type 0
CasesKeepToWaits = (plan : JudgePlan) (published : Publications) (finds : Finds) (lines : List (List ℕ)) (cases : List Case)
    → AreCases plan published finds lines cases → KeepToTheirWaits finds published cases
