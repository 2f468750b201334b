-- The resolution of one finding: what the kept answers say of its hits, the find that asks for the others, and the verdict. It
-- begins with any kept pairs and any state of waiting, and leaves those for the next finding.
use Rattle.std.specs.Prelude.{◌≡◌, ℕ, ◌&&◌, ◌==◌, nat_le, is_some, Bool, true, false, List, [], ◌∷◌, map, filter, codes, Option, Some, None, Result, Ok, Err, IfSome}
use Rattle.std.specs.List.{fold, list_any}
use Rattle.std.specs.Str.{bytes_eq}
use Rattle.sb_model.specs.declared.names.ListName.{ListName}
use Rattle.sb_model.specs.declared.time.Moment.{Moment}
use Rattle.sb_model.specs.Names.{threats, platforms, entries, threat_code, platform_code, entry_code, same_name}
use Rattle.sb_model.specs.Time.{later_than}
use Rattle.sb_outside.specs.declared.links.Kind.TheVariants.{Find}
use Rattle.hash_messages.specs.Messages.{AskedHashes}
use Rattle.hash_messages.specs.declared.response.FindResponse.{FindResponse}
use Rattle.update_client.specs.Held.{in_order}
use Rattle.full_hash_cache.specs.Cache.{Pairs, pair_of, cached_of, asked_pairs, taken}
use Rattle.full_hash_cache.specs.declared.pair.Cached.{Cached}
use Rattle.full_hash_cache.specs.declared.pair.Cached.TheVariants as cached
use Rattle.http_edge.specs.declared.faults.ExchangeFault.{ExchangeFault}
use Rattle.http_edge.specs.declared.messages.Target.{Target}
use Rattle.wait_rules.specs.declared.waits.WaitState.{WaitState}
use Rattle.timed_sessions.specs.Told.{Trace}
use Rattle.timed_sessions.specs.Timed.{TimedSession, IsTimedSession, IsHeldToEnd, trace_of}
use Rattle.timed_sessions.specs.Waiting.{ClosedSession, IsDrawnFor, drawn_of, waits_after}
use Rattle.verdict_report.specs.declared.verdicts.Cause.{Cause}
use Rattle.verdict_report.specs.declared.verdicts.Cause.TheVariants.{NotBefore}
use Rattle.verdict_report.specs.declared.verdicts.Verdict.{Verdict}
use Rattle.verdict_report.specs.declared.verdicts.Verdict.TheVariants.{Safe, Unsafe, Undecided}
use Rattle.find_sessions.specs.Asking.{find_body, IsFindAnswerOf, find_bids}
use Rattle.url_checker.specs.Hits.{prefixes_hit}
use Rattle.url_checker.specs.declared.findings.Hit.{Hit}

-- ---- what the kept answers say

-- what the kept pairs say of a hit
abbrev pub said_of : Pairs → Moment → Hit → Cached
said_of pairs now hit = cached_of pairs now (pair_of hit.list hit.prefix) hit.hash

abbrev pub is_ask : Cached → Bool
is_ask cached.Unsafe = false
is_ask cached.Safe = false
is_ask cached.Ask = true

-- the hits of which the server has to be asked
abbrev pub hits_asked : Pairs → Moment → List Hit → List Hit
hits_asked pairs now hits = filter (λ hit. is_ask (said_of pairs now hit)) hits

-- the kept pairs once each hit was looked up
abbrev pub looked_up_pairs : Pairs → List Hit → Pairs
looked_up_pairs pairs hits = fold (λ kept (hit : Hit). asked_pairs kept (pair_of hit.list hit.prefix)) pairs hits

-- ---- the find

-- The find for some hits: the three kinds of types of their lists, each in the order of its table; their prefixes, rising, each
-- once; and the states of the client's lists.
abbrev pub find_asked : List (List ℕ) → List Hit → AskedHashes
find_asked states hits = record {
  client = record { id = codes "sblist"; version = codes "1" };
  states = states;
  threats = filter (λ one. list_any (λ (hit : Hit). threat_code hit.list.threat == threat_code one) hits) threats;
  platforms = filter (λ one. list_any (λ (hit : Hit). platform_code hit.list.platform == platform_code one) hits) platforms;
  entries = filter (λ one. list_any (λ (hit : Hit). entry_code hit.list.entry == entry_code one) hits) entries;
  prefixes = prefixes_hit hits;
}

-- the body of the request for some hits
abbrev pub find_body_asked : List (List ℕ) → List Hit → List ℕ
find_body_asked states hits = find_body (find_asked states hits)

-- the lists of some hits, in the order of their names, each once
abbrev pub lists_hit : List Hit → List ListName
lists_hit hits = in_order (map (λ (hit : Hit). hit.list) hits)

-- A find: its session, the message that it brought, or why it brought none, and the word that was drawn.
pub record FindTalk : Type 0 where
  pub session : TimedSession
  pub answer : Result FindResponse Cause
  pub word : Option ℕ

-- One session asks for these hits at the first moment that is allowed after the clock read this, is read no further than its
-- answer, and that answer is read.
pub record IsFindTalk (states : List (List ℕ)) (target : Target) (need : Bool) (waits : WaitState) (asked : List Hit) (now : Moment) (talk : FindTalk) : Type 0 where
  pub session : IsTimedSession waits target Find (find_body_asked states asked) talk.session
  pub outcome : Result (List ℕ) ExchangeFault
  pub held : IsHeldToEnd target Find (find_body_asked states asked) need talk.session.entry outcome
  pub answers : IsFindAnswerOf outcome talk.answer
  pub drawn : IsDrawnFor (find_bids talk.answer) talk.word
  pub reading : talk.session.read ≡ now

-- ---- the resolution

-- What the clock read for a finding, and the find that was made, if one was.
pub record Resolution : Type 0 where
  pub now : Moment
  pub talk : Option FindTalk

-- whether the allowed moment is at most so many milliseconds away
abbrev pub is_in_reach : WaitState → ℕ → Moment → Bool
is_in_reach waits patience now = nat_le waits.allowed_at.0 (later_than now patience).0

abbrev pub is_any : List Hit → Bool
is_any [] = false
is_any (hit ∷ hits) = true

-- A find is made exactly where there is a hit to be asked and the allowed moment is in reach.
abbrev pub makes_find : WaitState → ℕ → Moment → List Hit → Bool
makes_find waits patience now asked = is_any asked && is_in_reach waits patience now

pub record IsResolution (states : List (List ℕ)) (patience : ℕ) (target : Target) (need : Bool) (hits : List Hit) (pairs : Pairs) (waits : WaitState) (r : Resolution) : Type 0 where
  pub asks : is_some r.talk ≡ makes_find waits patience r.now (hits_asked pairs r.now hits)
  pub talks : IfSome r.talk (IsFindTalk states target need waits (hits_asked pairs r.now hits) r.now)

-- ---- the verdict

-- whether a message has the list and the hash of a hit
abbrev pub is_returned : FindResponse → Hit → Bool
is_returned message hit = list_any (λ found. same_name found.name hit.list && bytes_eq found.hash.bytes hit.hash.bytes) message.matches

-- A hit is unsafe where the kept answers say so; one that was asked, where there is a message that has it.
abbrev pub is_unsafe_by : Option FindResponse → Cached → Hit → Bool
is_unsafe_by message cached.Unsafe hit = true
is_unsafe_by message cached.Safe hit = false
is_unsafe_by (Some message) cached.Ask hit = is_returned message hit
is_unsafe_by None cached.Ask hit = false

-- what was answered in this call, or why nothing was: no find was allowed in time
abbrev pub answer_in : WaitState → Option FindTalk → Result FindResponse Cause
answer_in waits None = Err (NotBefore waits.allowed_at)
answer_in waits (Some talk) = talk.answer

abbrev pub message_in : Result FindResponse Cause → Option FindResponse
message_in (Ok message) = Some message
message_in (Err cause) = None

-- the names of the unsafe lists, in their order
abbrev pub unsafe_lists : Pairs → Moment → Option FindResponse → List Hit → List ListName
unsafe_lists pairs now message hits = lists_hit (filter (λ hit. is_unsafe_by message (said_of pairs now hit) hit) hits)

-- the cause of open hits, where there are any
abbrev pub open_cause : Result FindResponse Cause → List Hit → Option Cause
open_cause (Ok message) asked = None
open_cause (Err cause) [] = None
open_cause (Err cause) (hit ∷ asked) = Some cause

-- Unsafe lists decide; else an open hit leaves the verdict open.
abbrev pub verdict_from : List ListName → Option Cause → Verdict
verdict_from (name ∷ names) cause = Unsafe (name ∷ names)
verdict_from [] (Some cause) = Undecided cause
verdict_from [] None = Safe

abbrev pub verdict_by : Pairs → Moment → Result FindResponse Cause → List Hit → Verdict
verdict_by pairs now answer hits = verdict_from (unsafe_lists pairs now (message_in answer) hits) (open_cause answer (hits_asked pairs now hits))

abbrev pub verdict_of : Pairs → WaitState → List Hit → Resolution → Verdict
verdict_of pairs waits hits r = verdict_by pairs r.now (answer_in waits r.talk) hits

-- ---- what is left

-- A message that was received at a moment is kept for these lists. Where there is none, nothing is.
abbrev pub kept_by : Moment → List ListName → AskedHashes → Result FindResponse Cause → Pairs → Pairs
kept_by at lists asked (Ok message) pairs = taken at lists asked message pairs
kept_by at lists asked (Err cause) pairs = pairs

-- It is kept for the lists of the hits that were asked.
abbrev pub pairs_after_talk : List (List ℕ) → List Hit → Option FindTalk → Pairs → Pairs
pairs_after_talk states asked None pairs = pairs
pairs_after_talk states asked (Some talk) pairs = kept_by talk.session.closed (lists_hit asked) (find_asked states asked) talk.answer pairs

-- the kept pairs after a finding
abbrev pub pairs_after : List (List ℕ) → List Hit → Pairs → Resolution → Pairs
pairs_after states hits pairs r = pairs_after_talk states (hits_asked pairs r.now hits) r.talk (looked_up_pairs pairs hits)

-- a find as a session that was closed
abbrev pub closed_find : FindTalk → ClosedSession
closed_find talk = record { session = talk.session; bids = find_bids talk.answer; word = talk.word }

-- the sessions of a finding
abbrev pub closed_in : Option FindTalk → List ClosedSession
closed_in None = []
closed_in (Some talk) = closed_find talk ∷ []

-- the state of waiting after a finding
abbrev pub waits_after_finding : WaitState → Resolution → WaitState
waits_after_finding waits r = fold waits_after waits (closed_in r.talk)

-- what is told of one reading of the clock
abbrev pub trace_of_reading : Moment → Trace
trace_of_reading now = record { sessions = []; readings = now ∷ []; waits = []; drawn = [] }

-- what is told more of a finding
abbrev pub trace_of_talk : WaitState → Moment → Option FindTalk → Trace
trace_of_talk waits now None = trace_of_reading now
trace_of_talk waits now (Some talk) = trace_of waits talk.session (drawn_of talk.word)

abbrev pub trace_of_finding : WaitState → Resolution → Trace
trace_of_finding waits r = trace_of_talk waits r.now r.talk
