-- Findings that are resolved one after the other, from any kept pairs and any state of waiting.
use Rattle.std.specs.Prelude.{◌≡◌, ℕ, Bool, List, [], ◌∷◌, ◌++◌}
use Rattle.std.specs.List.{fold, flat_map}
use Rattle.full_hash_cache.specs.Cache.{Pairs}
use Rattle.http_edge.specs.declared.messages.Target.{Target}
use Rattle.wait_rules.specs.declared.waits.WaitState.{WaitState}
use Rattle.timed_sessions.specs.Told.{Outside, Trace, no_trace, then_trace, Grows}
use Rattle.timed_sessions.specs.Waiting.{ClosedSession, KeepToWaits}
use Rattle.verdict_report.specs.declared.verdicts.Verdict.{Verdict}
use Rattle.url_checker.specs.Resolving.{Resolution, IsResolution, pairs_after, waits_after_finding, trace_of_finding, verdict_of, closed_in}
use Rattle.url_checker.specs.Resolved.{Resolves, unresolved}
use Rattle.url_checker.specs.declared.findings.Hit.{Hit}
use Rattle.url_checker.specs.declared.finds.Finds.{Finds}

-- A finding that was resolved: the states that its find carries, its hits, and the resolution.
pub record Resolved : Type 0 where
  pub states : List (List ℕ)
  pub hits : List Hit
  pub resolution : Resolution

abbrev pub resolved : List (List ℕ) → List Hit → Resolution → Resolved
resolved states hits resolution = record { states = states; hits = hits; resolution = resolution }

-- the kept pairs and the state of waiting after one finding, and after any number of them
abbrev pub pairs_after_one : Pairs → Resolved → Pairs
pairs_after_one pairs one = pairs_after one.states one.hits pairs one.resolution

abbrev pub waits_after_one : WaitState → Resolved → WaitState
waits_after_one waits one = waits_after_finding waits one.resolution

abbrev pub pairs_after_all : Pairs → List Resolved → Pairs
pairs_after_all pairs all = fold pairs_after_one pairs all

abbrev pub waits_after_findings : WaitState → List Resolved → WaitState
waits_after_findings waits all = fold waits_after_one waits all

-- what is told more of any number of findings
abbrev pub trace_of_all : WaitState → List Resolved → Trace
trace_of_all waits [] = no_trace
trace_of_all waits (one ∷ all) = then_trace (trace_of_finding waits one.resolution) (trace_of_all (waits_after_one waits one) all)

-- the verdicts, in order
abbrev pub verdicts_of : Pairs → WaitState → List Resolved → List Verdict
verdicts_of pairs waits [] = []
verdicts_of pairs waits (one ∷ all) =
    verdict_of pairs waits one.hits one.resolution ∷ verdicts_of (pairs_after_one pairs one) (waits_after_one waits one) all

-- Each is a resolution from the kept pairs and the state of waiting that those before it left.
abbrev pub AreResolutions : ℕ → Target → Bool → Pairs → WaitState → List Resolved → Type 0
AreResolutions patience target need pairs waits [] = Unit {0}
AreResolutions patience target need pairs waits (one ∷ all) =
    IsResolution one.states patience target need one.hits pairs waits one.resolution
    × AreResolutions patience target need (pairs_after_one pairs one) (waits_after_one waits one) all

-- These findings were resolved: this is what they left, what is told more, and what they came to.
pub record ResolvesAll (patience : ℕ) (target : Target) (need : Bool) (finds finds' : Finds) (before after : Outside) (all : List Resolved) (verdicts : List Verdict) : Type 0 where
  pub are : AreResolutions patience target need finds.cache finds.waits all
  pub told : Grows before after (trace_of_all finds.waits all)
  pub pairs_are : finds'.cache ≡ pairs_after_all finds.cache all
  pub waits_are : finds'.waits ≡ waits_after_findings finds.waits all
  pub verdicts_are : verdicts ≡ verdicts_of finds.cache finds.waits all

-- the sessions of the finds, in order
abbrev pub sessions_of : List Resolved → List ClosedSession
sessions_of all = flat_map (λ (one : Resolved). closed_in one.resolution.talk) all

-- Nothing is resolved with no finding.
abbrev pub BeginsFindings : Type 0
BeginsFindings = (patience : ℕ) (target : Target) (need : Bool) (finds : Finds) (before : Outside)
    → ResolvesAll patience target need finds finds before before [] []

-- Findings and one more are findings.
abbrev pub GoesOnWithFindings : Type 0
GoesOnWithFindings = (patience : ℕ) (target : Target) (need : Bool) (finds finds' finds'' : Finds) (before between after : Outside) (all : List Resolved) (verdicts : List Verdict) (states : List (List ℕ)) (hits : List Hit) (verdict : Verdict)
    → ResolvesAll patience target need finds finds' before between all verdicts
    → (next : Resolves (unresolved states hits) patience target need finds' finds'' between after verdict)
    → ResolvesAll patience target need finds finds'' before after (all ++ resolved states hits next.resolution ∷ []) (verdicts ++ verdict ∷ [])

-- No find's session precedes its allowed moment.
abbrev pub FindingsKeepToWaits : Type 0
FindingsKeepToWaits = (patience : ℕ) (target : Target) (need : Bool) (pairs : Pairs) (waits : WaitState) (all : List Resolved)
    → AreResolutions patience target need pairs waits all → KeepToWaits waits (sessions_of all)
