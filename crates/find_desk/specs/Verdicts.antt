-- The verdicts of a desk: each goes back to one look, and, if that left hits open, to one find after it that asked for all of them.
use Rattle.std.specs.Prelude.{◌≡◌, ◌⊎◌, Bool, true, false, List, ◌∷◌, ◌++◌, take, All, Contains, Err}
use Rattle.find_desk.specs.Desk.{DeskStart, looked_up}
use Rattle.find_desk.specs.Events.{DeskEvent, Found, MadeFind, kept_after_events, waits_after_events}
use Rattle.find_desk.specs.declared.desk.EndedFind.{EndedFind}
use Rattle.full_hash_cache.specs.Cache.{Pairs}
use Rattle.sb_model.specs.declared.time.Moment.{Moment}
use Rattle.url_checker.specs.Resolving.{hits_asked, verdict_by}
use Rattle.url_checker.specs.Several.{AreTogether, IsLookOf}
use Rattle.url_checker.specs.declared.findings.Hit.{Hit}
use Rattle.url_checker.specs.declared.looking.Looks.{Looks}
use Rattle.url_checker.specs.declared.several.Together.{Together}
use Rattle.verdict_report.specs.declared.verdicts.Cause.TheVariants.{NotBefore}
use Rattle.verdict_report.specs.declared.verdicts.Verdict.{Verdict}
use Rattle.verdict_report.specs.declared.verdicts.Verdict.TheVariants.{Safe, Unsafe, Undecided}

-- One of these events is that these hits were looked up, and this is what was said of them.
pub record IsLookIn (start : DeskStart) (events : List DeskEvent) (hits : List Hit) (look : Looks) : Type 0 where
  pub before : List DeskEvent
  pub after : List DeskEvent
  pub now : Moment
  pub splits : events ≡ before ++ looked_up now hits ∷ after
  pub is : IsLookOf (kept_after_events start.kept before) now hits look

-- A look that is among some events is among those and more.
abbrev pub LooksStay : Type 0
LooksStay = (start : DeskStart) (events more : List DeskEvent) (hits : List Hit) (look : Looks)
    → IsLookIn start events hits look → IsLookIn start (events ++ more) hits look

-- ---- what finds ask for

-- One of these events is that a hit was looked up, and what was kept then left it open.
pub record WasLeftOpen (start : DeskStart) (events : List DeskEvent) (hit : Hit) : Type 0 where
  pub before : List DeskEvent
  pub after : List DeskEvent
  pub now : Moment
  pub hits : List Hit
  pub splits : events ≡ before ++ looked_up now hits ∷ after
  pub was_open : Contains (hits_asked (kept_after_events start.kept before) now hits) hit

-- Each of these looks is among these events.
abbrev pub AreLooksIn : DeskStart → List DeskEvent → List Looks → Type 0
AreLooksIn start events looks = All (λ look. (hits : List Hit) × IsLookIn start events hits look) looks

-- A find for looks that are among some events asks for nothing but hits that were left open.
abbrev pub AskForOpenHits : Type 0
AskForOpenHits = (start : DeskStart) (events : List DeskEvent) (looks : List Looks) (together : Together)
    → AreLooksIn start events looks → AreTogether looks together → All (λ hit. WasLeftOpen start events hit) together.asked

-- A find asks for each hit that a look left open.
abbrev pub HasAskedFor : List Hit → Looks → Type 0
HasAskedFor asked look = All (λ hit. Contains asked hit) look.asked

-- It asks for all open hits of each of the first looks, so many of them.
abbrev pub AskForFirstLooks : Type 0
AskForFirstLooks = (looks : List Looks) (together : Together)
    → AreTogether looks together → All (λ look. HasAskedFor together.asked look) (take together.count looks)

-- ---- what is given

-- One of these events is a find that asked for each hit that was left open at a moment, and this is the verdict by its answer.
pub record IsByFind (after : List DeskEvent) (kept : Pairs) (now : Moment) (hits : List Hit) (verdict : Verdict) : Type 0 where
  pub one : MadeFind
  pub found : Contains after (Found one)
  pub asked : All (λ hit. Contains one.asked hit) (hits_asked kept now hits)
  pub verdict_is : verdict ≡ verdict_by kept now one.talk.answer hits

-- This is the verdict by what was kept at a moment, without a find: hits that it left open stay open until the allowed moment.
abbrev pub IsByKept : Moment → Pairs → Moment → List Hit → Verdict → Type 0
IsByKept allowed kept now hits verdict = verdict ≡ verdict_by kept now (Err (NotBefore allowed)) hits

-- One of these events is that these hits were looked up. The verdict on them is by what was kept then, and by one find after it or by none.
pub record IsVerdictIn (start : DeskStart) (events : List DeskEvent) (hits : List Hit) (verdict : Verdict) : Type 0 where
  pub before : List DeskEvent
  pub after : List DeskEvent
  pub now : Moment
  pub splits : events ≡ before ++ looked_up now hits ∷ after
  pub is : IsByKept (waits_after_events start.waits events).allowed_at (kept_after_events start.kept before) now hits verdict
      ⊎ IsByFind after (kept_after_events start.kept before) now hits verdict

-- whether a verdict leaves hits open
abbrev pub is_left_undecided : Verdict → Bool
is_left_undecided Safe = false
is_left_undecided (Unsafe lists) = false
is_left_undecided (Undecided cause) = true

-- The verdict on hits by a find: they were looked up before it, it asked for each of them that was left open, and this is the verdict by its
-- answer.
pub record IsVerdictByFind (start : DeskStart) (events : List DeskEvent) (hits : List Hit) (one : MadeFind) (verdict : Verdict) : Type 0 where
  pub before : List DeskEvent
  pub after : List DeskEvent
  pub now : Moment
  pub splits : events ≡ before ++ looked_up now hits ∷ after
  pub found : Contains after (Found one)
  pub asked : All (λ hit. Contains one.asked hit) (hits_asked (kept_after_events start.kept before) now hits)
  pub verdict_is : verdict ≡ verdict_by (kept_after_events start.kept before) now one.talk.answer hits

-- The verdict on hits by a look alone: hits that it left open are open, until some moment at which a find may be sent.
pub record IsVerdictByLook (start : DeskStart) (events : List DeskEvent) (hits : List Hit) (verdict : Verdict) : Type 0 where
  pub before : List DeskEvent
  pub after : List DeskEvent
  pub now : Moment
  pub splits : events ≡ before ++ looked_up now hits ∷ after
  pub allowed : Moment
  pub verdict_is : IsByKept allowed (kept_after_events start.kept before) now hits verdict

-- A find of the desk was ended and given back so.
pub record IsEndOf (one : MadeFind) (ended : EndedFind) : Type 0 where
  pub asked : ended.asked ≡ one.asked
  pub answered : ended.answer ≡ one.talk.answer
