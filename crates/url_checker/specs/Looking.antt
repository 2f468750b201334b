-- The hits of a finding once they are looked up, each with what the kept answers say of it; and a find that is open.
use Rattle.std.specs.Prelude.{◌≡◌, ℕ, List, map, filter, Option, Some, None, Result, Ok, Err}
use Rattle.sb_model.specs.declared.names.ListName.{ListName}
use Rattle.sb_model.specs.declared.time.Moment.{Moment}
use Rattle.sb_outside.specs.declared.links.Kind.TheVariants.{Find}
use Rattle.full_hash_cache.specs.Cache.{Pairs}
use Rattle.hash_messages.specs.declared.response.FindResponse.{FindResponse}
use Rattle.http_edge.specs.declared.messages.Target.{Target}
use Rattle.http_edge.specs.Exchanges.{CountsSendFault}
use Rattle.wait_rules.specs.declared.waits.WaitState.{WaitState}
use Rattle.timed_sessions.specs.Timed.{IsTimedOpening}
use Rattle.verdict_report.specs.declared.verdicts.Cause.{Cause}
use Rattle.client_line.specs.Lines.{LineView}
use Rattle.verdict_report.specs.declared.verdicts.Verdict.{Verdict}
use Rattle.url_checker.specs.Resolving.{said_of, is_ask, is_unsafe_by, lists_hit, verdict_from, find_asked, find_body_asked}
use Rattle.url_checker.specs.declared.findings.Hit.{Hit}
use Rattle.url_checker.specs.declared.asking.OpenFind.{OpenFind}
use Rattle.url_checker.specs.declared.looking.Looked.{Looked}
use Rattle.url_checker.specs.declared.looking.Looks.{Looks}

abbrev pub looked_of : Pairs → Moment → Hit → Looked
looked_of pairs now hit = record { hit = hit; said = said_of pairs now hit }

abbrev pub asked_in : List Looked → List Hit
asked_in looked = map (λ (one : Looked). one.hit) (filter (λ (one : Looked). is_ask one.said) looked)

abbrev pub unsafe_in : Option FindResponse → List Looked → List Hit
unsafe_in message looked = map (λ (one : Looked). one.hit) (filter (λ (one : Looked). is_unsafe_by message one.said one.hit) looked)

-- The session of a find for these hits is open: it begins when it may, and nothing was received in it yet. A fault of the link is counted.
pub record IsOpenFind (states : List (List ℕ)) (target : Target) (now : Moment) (asked : List Hit) (waits : WaitState) (before after : LineView) (find : OpenFind) : Type 0 where
  pub request : find.request ≡ find_asked states asked
  pub opened : IsTimedOpening waits now target Find (find_body_asked states asked) before.told after.told find.opening
  pub last : after.last ≡ find.opening.begun.0
  pub counts : CountsSendFault find.opening.sent before.told.faults after.told.faults

-- the verdict by an answer: with a message by what it has, and without one by what was told before
abbrev pub verdict_after : List ListName → List Looked → Result FindResponse Cause → Verdict
verdict_after told looked (Ok message) = verdict_from (lists_hit (unsafe_in (Some message) looked)) None
verdict_after told looked (Err cause) = verdict_from told (Some cause)
