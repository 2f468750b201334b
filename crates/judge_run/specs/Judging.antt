-- What becomes of URLs, one after the other: each is refused, or found and resolved from what the finds before it left.
use Rattle.std.specs.Prelude.{◌≡◌, ◌<◌, ◌⊎◌, ℕ, List, [], ◌∷◌, ◌++◌, length, slice_index_or, Result, Ok, Err}
use Rattle.std.specs.List.{fold}
use Rattle.sb_outside.specs.Outside.{Rose}
use Rattle.update_client.specs.Held.{Held, tokens_of}
use Rattle.snapshot_publish.specs.Publications.{Publications}
use Rattle.wait_rules.specs.declared.waits.WaitState.{WaitState}
use Rattle.timed_sessions.specs.Told.{Outside, Trace, no_trace, then_trace, Grows}
use Rattle.url_canon.specs.Canonical.{canonical_of}
use Rattle.url_canon.specs.declared.fault.UrlFault.{UrlFault}
use Rattle.url_checker.specs.Checking.{IsFindingOf}
use Rattle.url_checker.specs.Resolving.{Resolution, IsResolution, verdict_of, pairs_after, waits_after_finding, trace_of_finding}
use Rattle.url_checker.specs.Resolved.{LinkFailed, StopsResolving, unresolved}
use Rattle.url_checker.specs.declared.findings.Finding.{Finding}
use Rattle.url_checker.specs.declared.findings.Checked.{Checked}
use Rattle.url_checker.specs.declared.findings.Checked.TheVariants.{Found, Refused}
use Rattle.url_checker.specs.declared.finds.Finds.{Finds}
use Rattle.verdict_report.specs.declared.verdicts.Judged.{Judged}
use Rattle.verdict_report.specs.declared.verdicts.Judged.TheVariants as judged
use Rattle.judge_run.specs.declared.plan.JudgePlan.{JudgePlan}

-- ---- one URL

-- what was found of a URL, and how that was resolved
pub record Answered : Type 0 where
  pub finding : Finding
  pub resolution : Resolution

-- what became of a URL: this, or why it has no canonical form
abbrev pub Case : Type 0
Case = Result Answered UrlFault

-- the lists of a finding, those of the publication that it names
abbrev pub lists_of_finding : Publications → Finding → List Held
lists_of_finding published finding = slice_index_or published finding.number []

-- A finding of a line names one of the publications, and is what its lists have of the line.
pub record IsFoundIn (published : Publications) (line : List ℕ) (finding : Finding) : Type 0 where
  pub there : finding.number < length published
  pub is : IsFindingOf (lists_of_finding published finding) finding.number line finding

-- A URL is refused for its fault where it has no canonical form, and else its hits on the lists of a publication are resolved. A find
-- carries the tokens of these lists.
abbrev pub IsCase : JudgePlan → Publications → Finds → List ℕ → Case → Type 0
IsCase plan published finds line (Ok answered) =
    IsFoundIn published line answered.finding
    × IsResolution (tokens_of (lists_of_finding published answered.finding)) plan.patience plan.updates.target plan.updates.need_digest answered.finding.hits finds.cache finds.waits answered.resolution
IsCase plan published finds line (Err fault) = canonical_of line ≡ Err fault

-- what it leaves for the next find
abbrev pub finds_after : Publications → Finds → Case → Finds
finds_after published finds (Ok answered) =
    record {
      cache = pairs_after (tokens_of (lists_of_finding published answered.finding)) answered.finding.hits finds.cache answered.resolution;
      waits = waits_after_finding finds.waits answered.resolution;
    }
finds_after published finds (Err fault) = finds

-- what is told more of it
abbrev pub trace_of_case : Finds → Case → Trace
trace_of_case finds (Ok answered) = trace_of_finding finds.waits answered.resolution
trace_of_case finds (Err fault) = no_trace

-- what is said of it: its verdict with its canonical text, or its fault
abbrev pub judged_of : Finds → Case → Judged
judged_of finds (Ok answered) =
    judged.Verdict answered.finding.number answered.finding.text (verdict_of finds.cache finds.waits answered.finding.hits answered.resolution)
judged_of finds (Err fault) = judged.Refused fault

-- the link failed in the session of its find
abbrev pub LinkFailedIn : Finds → Case → Type 0
LinkFailedIn finds (Ok answered) = LinkFailed finds.waits answered.resolution
LinkFailedIn finds (Err fault) = ⊥

-- the check of a URL that it goes back to
abbrev pub check_of : Case → Checked
check_of (Ok answered) = Found answered.finding
check_of (Err fault) = Refused fault

-- ---- URLs in order

-- Each is the case of its line, from what those before it left.
abbrev pub AreCases : JudgePlan → Publications → Finds → List (List ℕ) → List Case → Type 0
AreCases plan published finds [] [] = Unit {0}
AreCases plan published finds [] (case ∷ cases) = ⊥
AreCases plan published finds (line ∷ lines) [] = ⊥
AreCases plan published finds (line ∷ lines) (case ∷ cases) =
    IsCase plan published finds line case × AreCases plan published (finds_after published finds case) lines cases

abbrev pub finds_after_all : Publications → Finds → List Case → Finds
finds_after_all published finds cases = fold (finds_after published) finds cases

abbrev pub trace_of_cases : Publications → Finds → List Case → Trace
trace_of_cases published finds [] = no_trace
trace_of_cases published finds (case ∷ cases) =
    then_trace (trace_of_case finds case) (trace_of_cases published (finds_after published finds case) cases)

abbrev pub judged_of_all : Publications → Finds → List Case → List Judged
judged_of_all published finds [] = []
judged_of_all published finds (case ∷ cases) = judged_of finds case ∷ judged_of_all published (finds_after published finds case) cases

-- the link failed in one of them
abbrev pub LinkFailedInSome : Publications → Finds → List Case → Type 0
LinkFailedInSome published finds [] = ⊥
LinkFailedInSome published finds (case ∷ cases) = LinkFailedIn finds case ⊎ LinkFailedInSome published (finds_after published finds case) cases

-- ---- what is seen of it

-- A URL was judged: this is told more, this is left and this is said. The link's count of faults rises where it failed, and nowhere else.
pub record JudgesLine (plan : JudgePlan) (published : Publications) (finds finds' : Finds) (before after : Outside) (line : List ℕ) (one : Judged) : Type 0 where
  pub case : Case
  pub is : IsCase plan published finds line case
  pub told : Grows before after (trace_of_case finds case)
  pub finds_are : finds' ≡ finds_after published finds case
  pub judged_is : one ≡ judged_of finds case
  pub failed : LinkFailedIn finds case → Rose before.faults after.faults
  pub kept : (LinkFailedIn finds case → ⊥) → after.faults ≡ before.faults

-- The same, and this check was what it went by.
pub record JudgesCheck (plan : JudgePlan) (published : Publications) (finds finds' : Finds) (before after : Outside) (line : List ℕ) (check : Checked) (one : Judged) : Type 0 where
  pub judges : JudgesLine plan published finds finds' before after line one
  pub checked : check_of judges.case ≡ check

-- URLs were judged in order.
pub record JudgesLines (plan : JudgePlan) (published : Publications) (finds finds' : Finds) (before after : Outside) (lines : List (List ℕ)) (all : List Judged) : Type 0 where
  pub cases : List Case
  pub are : AreCases plan published finds lines cases
  pub told : Grows before after (trace_of_cases published finds cases)
  pub finds_are : finds' ≡ finds_after_all published finds cases
  pub judged_are : all ≡ judged_of_all published finds cases
  pub failed : LinkFailedInSome published finds cases → Rose before.faults after.faults
  pub kept : (LinkFailedInSome published finds cases → ⊥) → after.faults ≡ before.faults

-- nothing is kept before the first find, which has to wait for so long
abbrev pub first_finds : WaitState → Finds
first_finds waits = record { cache = []; waits = waits }

-- The same from there on.
pub record HasJudged (plan : JudgePlan) (published : Publications) (waits : WaitState) (before after : Outside) (lines : List (List ℕ)) (all : List Judged) : Type 0 where
  pub finds : Finds
  pub judges : JudgesLines plan published (first_finds waits) finds before after lines all

-- ---- where memory was refused

-- A URL was found, and its resolution was broken off.
pub record BreaksOffFinding (plan : JudgePlan) (published : Publications) (finds : Finds) (before after : Outside) (line : List ℕ) : Type 0 where
  pub finding : Finding
  pub found : IsFoundIn published line finding
  pub stops : StopsResolving (unresolved (tokens_of (lists_of_finding published finding)) finding.hits) plan.updates.target finds before after

-- Nothing more is told of the next URL, or it was found and its resolution was broken off.
abbrev pub BreaksOffLine : JudgePlan → Publications → Finds → Outside → Outside → List (List ℕ) → Type 0
BreaksOffLine plan published finds before after [] = after ≡ before
BreaksOffLine plan published finds before after (line ∷ lines) = (after ≡ before) ⊎ BreaksOffFinding plan published finds before after line

-- Some URLs were judged, and the judging was broken off at the next, in which the link did not fail.
pub record StopsJudging (plan : JudgePlan) (published : Publications) (finds : Finds) (before after : Outside) (lines : List (List ℕ)) : Type 0 where
  pub first : List (List ℕ)
  pub left : List (List ℕ)
  pub lines_are : first ++ left ≡ lines
  pub between : Outside
  pub finds_now : Finds
  pub all : List Judged
  pub judges : JudgesLines plan published finds finds_now before between first all
  pub breaks : BreaksOffLine plan published finds_now between after left
  pub unmoved : after.faults ≡ between.faults
