-- One find for the open hits of several findings. Each look at the kept answers says which hits of its finding are open; the find asks for
-- those of as many findings as it may, in their order; and its answer decides each look.
use Rattle.std.specs.Prelude.{◌≡◌, ◌≢◌, ℕ, ◌+◌, ◌<◌, ◌≤◌, Bool, List, map, length, take, Result, Err}
use Rattle.std.specs.List.{flat_map}
use Rattle.sb_model.specs.declared.time.Moment.{Moment}
use Rattle.sb_outside.specs.Outside.{Rose}
use Rattle.full_hash_cache.specs.Cache.{Pairs}
use Rattle.hash_messages.specs.Messages.{most_prefixes}
use Rattle.hash_messages.specs.declared.response.FindResponse.{FindResponse}
use Rattle.http_edge.specs.declared.faults.ExchangeFault.TheVariants.{Link}
use Rattle.http_edge.specs.declared.messages.Target.{Target}
use Rattle.timed_sessions.specs.Told.{Outside, Grows}
use Rattle.timed_sessions.specs.Timed.{trace_after}
use Rattle.timed_sessions.specs.Waiting.{drawn_of, waits_after}
use Rattle.verdict_report.specs.declared.verdicts.Cause.{Cause}
use Rattle.verdict_report.specs.declared.verdicts.Cause.TheVariants.{Exchange}
use Rattle.verdict_report.specs.declared.verdicts.Verdict.{Verdict}
use Rattle.url_checker.specs.Hits.{prefixes_hit}
use Rattle.url_checker.specs.Looking.{looked_of, verdict_after}
use Rattle.url_checker.specs.Resolving.{lists_hit, hits_asked, FindTalk, IsFindTalk, find_asked, kept_by, closed_find}
use Rattle.url_checker.specs.declared.findings.Hit.{Hit}
use Rattle.url_checker.specs.declared.finds.Finds.{Finds}
use Rattle.url_checker.specs.declared.looking.Looks.{Looks}
use Rattle.url_checker.specs.declared.several.Together.{Together}

-- ---- what one find may ask for

-- the open hits of several looks, in their order
abbrev pub all_asked : List Looks → List Hit
all_asked looks = flat_map (λ (look : Looks). look.asked) looks

-- how many prefixes the open hits of the first looks have together, so many of them
abbrev pub prefixes_of_first : ℕ → List Looks → ℕ
prefixes_of_first count looks = length (prefixes_hit (all_asked (take count looks)))

-- The open hits of as many of the first looks as have no more prefixes together than one request may have.
pub record AreTogether (looks : List Looks) (together : Together) : Type 0 where
  pub within : together.count ≤ length looks
  pub asked : together.asked ≡ all_asked (take together.count looks)
  pub few : prefixes_of_first together.count looks ≤ most_prefixes
  pub most : together.count < length looks → most_prefixes < prefixes_of_first (together.count + 1) looks

-- ---- the find

-- What a find for some hits asks with: the states that it carries, whom it asks, whether a digest is needed, and what the clock read.
pub record AskedFind : Type 0 where
  pub states : List (List ℕ)
  pub target : Target
  pub need : Bool
  pub now : Moment
  pub asked : List Hit

abbrev pub asked_find : List (List ℕ) → Target → Bool → Moment → List Hit → AskedFind
asked_find states target need now asked = record { states = states; target = target; need = need; now = now; asked = asked }

-- A find was made and ended: this is what was answered, what it left, and what is told more. Its answer is kept for the lists of all hits
-- that were asked. A fault of the link is counted, and nothing else is.
pub record MakesFindFor (find : AskedFind) (finds finds' : Finds) (before after : Outside) (answer : Result FindResponse Cause) : Type 0 where
  pub talk : FindTalk
  pub is : IsFindTalk find.states find.target find.need finds.waits find.asked find.now talk
  pub told : Grows before after (trace_after finds.waits talk.session (drawn_of talk.word))
  pub answered : answer ≡ talk.answer
  pub pairs_are : finds'.cache ≡ kept_by talk.session.closed (lists_hit find.asked) (find_asked find.states find.asked) talk.answer finds.cache
  pub waits_are : finds'.waits ≡ waits_after finds.waits (closed_find talk)
  pub failed : talk.answer ≡ Err (Exchange Link) → Rose before.faults after.faults
  pub kept : talk.answer ≢ Err (Exchange Link) → after.faults ≡ before.faults

-- A find was made for the hits of a look and ended, and the look has this verdict by its answer.
pub record MakesFind (find : AskedFind) (look : Looks) (finds finds' : Finds) (before after : Outside) (verdict : Verdict) : Type 0 where
  pub answer : Result FindResponse Cause
  pub made : MakesFindFor find finds finds' before after answer
  pub verdict_is : verdict ≡ verdict_after look.told look.looked answer

-- ---- what it says of a look

-- A look at a moment of hits, by these kept pairs.
pub record IsLookOf (pairs : Pairs) (now : Moment) (hits : List Hit) (look : Looks) : Type 0 where
  pub looked : look.looked ≡ map (looked_of pairs now) hits
  pub asked : look.asked ≡ hits_asked pairs now hits
