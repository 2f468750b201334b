-- What decides the URLs of a look-up: a find that asked for their open hits, or a look at what is kept.
use Rattle.std.specs.Prelude.{◌≡◌, ◌≢◌, ◌⊎◌, Bool, List, [], ◌∷◌, ◌++◌, All, drop, length, map, Option, Some, None, ⊤}
use Rattle.client_line.specs.Lines.{LineView}
use Rattle.find_desk.specs.Desk.{DeskSeen, DeskStart, HasKeptDesk, looked_up}
use Rattle.find_desk.specs.Events.{DeskEvent, Forgot, Found, MadeFind}
use Rattle.find_desk.specs.Verdicts.{HasAskedFor, IsEndOf, IsLookIn, IsVerdictByFind, IsVerdictByLook}
use Rattle.find_desk.specs.declared.desk.EndedFind.{EndedFind}
use Rattle.http_edge.specs.declared.messages.Target.{Target}
use Rattle.proxy_looks.specs.declared.settling.Settled.{Settled}
use Rattle.proxy_looks.specs.declared.urls.LookUrl.{LookUrl}
use Rattle.proxy_looks.specs.Urls.{open_hits, open_hits_of}
use Rattle.sb_model.specs.declared.time.Moment.{Moment}
use Rattle.url_checker.specs.declared.findings.Hit.{Hit}
use Rattle.url_checker.specs.declared.looking.Looks.{Looks}
use Rattle.verdict_report.specs.declared.verdicts.Verdict.{Verdict}

-- ---- looks

-- Each of these hits was looked up among these events, and this is the look, in the same order.
abbrev pub AreLooksOf : DeskStart → List DeskEvent → List (List Hit) → List Looks → Type 0
AreLooksOf start events [] [] = ⊤
AreLooksOf start events (hits ∷ all) (look ∷ looks) = IsLookIn start events hits look × AreLooksOf start events all looks
AreLooksOf start events [] (look ∷ looks) = ⊥
AreLooksOf start events (hits ∷ all) [] = ⊥

-- The same as far as there are both.
abbrev pub AreLooksAsFar : DeskStart → List DeskEvent → List (List Hit) → List Looks → Type 0
AreLooksAsFar start events [] looks = ⊤
AreLooksAsFar start events (hits ∷ all) [] = ⊤
AreLooksAsFar start events (hits ∷ all) (look ∷ looks) = IsLookIn start events hits look × AreLooksAsFar start events all looks

-- the looks at some hits at a moment, as events
abbrev pub looks_at : Moment → List (List Hit) → List DeskEvent
looks_at now hits = map (looked_up now) hits

-- Nothing but looks at this moment happened, or that what is kept was dropped.
abbrev pub IsOnlyLook : Moment → DeskEvent → Type 0
IsOnlyLook now event = ((hits : List Hit) × (event ≡ looked_up now hits)) ⊎ (event ≡ Forgot)

abbrev pub AreOnlyLooks : Moment → List DeskEvent → Type 0
AreOnlyLooks now events = All (IsOnlyLook now) events

-- ---- a find that was ended

-- Among these events is a find that was ended so. It asked for the open hits of each of these looks, which were made before it of the first of
-- these hits.
pub record WereAsked (start : DeskStart) (events : List DeskEvent) (hits : List (List Hit)) (asked : List Looks) (ended : EndedFind) (one : MadeFind) : Type 0 where
  pub before : List DeskEvent
  pub after : List DeskEvent
  pub splits : events ≡ before ++ Found one ∷ after
  pub ends : IsEndOf one ended
  pub looks : AreLooksAsFar start before hits asked

-- There is such a find, or none.
abbrev pub AreAskedBy : DeskStart → List DeskEvent → List (List Hit) → List Looks → Option EndedFind → Option MadeFind → Type 0
AreAskedBy start events hits asked None by = by ≡ None
AreAskedBy start events hits asked (Some ended) by = (one : MadeFind) × (by ≡ Some one) × WereAsked start events hits asked ended one

-- A find that was ended asked for the open hits of each of these looks; and if none was, there is no such look.
abbrev pub HasAskedForAll : List Looks → Option EndedFind → Type 0
HasAskedForAll asked None = asked ≡ []
HasAskedForAll asked (Some ended) = All (HasAskedFor ended.asked) asked

-- ---- one URL

-- The hits of a URL that is open were looked up anew, and the look decided it, as it left no hit open.
pub record IsDecidedByLook (start : DeskStart) (events : List DeskEvent) (hits : List Hit) (verdict : Option Verdict) (looks : List Looks) : Type 0 where
  pub look : Looks
  pub is : IsLookIn start events hits look
  pub closed : look.asked ≡ []
  pub none : looks ≡ []
  pub given : Verdict
  pub verdict_is : verdict ≡ Some given
  pub by : IsVerdictByLook start events hits given

-- Or it is open still, and this is its look.
pub record StaysOpen (start : DeskStart) (events : List DeskEvent) (hits : List Hit) (verdict : Option Verdict) (looks : List Looks) : Type 0 where
  pub look : Looks
  pub is : IsLookIn start events hits look
  pub opened : look.asked ≢ []
  pub its : looks ≡ look ∷ []
  pub undecided : verdict ≡ None

-- It was decided by a find that asked for it, whatever that brought.
pub record IsDecidedByFind (start : DeskStart) (events : List DeskEvent) (hits : List Hit) (one : MadeFind) (verdict : Option Verdict) (looks : List Looks) : Type 0 where
  pub none : looks ≡ []
  pub given : Verdict
  pub verdict_is : verdict ≡ Some given
  pub by : IsVerdictByFind start events hits one given

-- What became of a URL with these hits and this verdict: one without hits, or that has a verdict, stays as it is; one that is open is decided by
-- the find that asked for it, if one did, and else looked up anew.
abbrev pub IsUrlSettled : DeskStart → List DeskEvent → Option MadeFind → Option (List Hit) → (verdict verdict' : Option Verdict) → List Looks → Type 0
IsUrlSettled start events by None verdict verdict' looks = (verdict' ≡ verdict) × (looks ≡ [])
IsUrlSettled start events by (Some hits) (Some verdict) verdict' looks = (verdict' ≡ Some verdict) × (looks ≡ [])
IsUrlSettled start events (Some one) (Some hits) None verdict' looks = IsDecidedByFind start events hits one verdict' looks
IsUrlSettled start events None (Some hits) None verdict' looks = IsDecidedByLook start events hits verdict' looks ⊎ StaysOpen start events hits verdict' looks

-- ---- all of them

-- the find that asked for the next URL that is open, if looks are left for which it asked
abbrev pub find_for : Option MadeFind → List Looks → Option MadeFind
find_for by [] = None
find_for by (look ∷ looks) = by

-- the looks that are left after a URL
abbrev pub asked_after : List Looks → LookUrl → List Looks
asked_after asked one = drop (length (open_hits_of one.hits one.verdict)) asked

-- One URL became another, and its looks are these.
pub record SettlesUrl (start : DeskStart) (events : List DeskEvent) (by : Option MadeFind) (one one' : LookUrl) (looks : List Looks) : Type 0 where
  pub url : one'.url ≡ one.url
  pub hits : one'.hits ≡ one.hits
  pub settled : IsUrlSettled start events by one.hits one.verdict one'.verdict looks

-- URLs became others, one after the other. For the first that are open a find asked, whose looks these are; `looks` has those of the URLs that
-- are open still.
abbrev pub AreUrlsSettled : DeskStart → List DeskEvent → Option MadeFind → (asked : List Looks) → (urls urls' : List LookUrl) → (looks : List Looks) → Type 0
AreUrlsSettled start events by asked [] [] looks = looks ≡ []
AreUrlsSettled start events by asked (one ∷ urls) (one' ∷ urls') looks =
    (first : List Looks) × (rest : List Looks) × (looks ≡ first ++ rest) × SettlesUrl start events (find_for by asked) one one' first
    × AreUrlsSettled start events by (asked_after asked one) urls urls' rest
AreUrlsSettled start events by asked [] (one' ∷ urls') looks = ⊥
AreUrlsSettled start events by asked (one ∷ urls) [] looks = ⊥

-- URLs that were settled and are open still have the looks that are given back with them, in their order.
abbrev pub SettledKeepLooks : Type 0
SettledKeepLooks = (start : DeskStart) (events : List DeskEvent) (by : Option MadeFind) (asked : List Looks) (urls urls' : List LookUrl) (looks : List Looks)
    → AreUrlsSettled start events by asked urls urls' looks → AreLooksOf start events (open_hits urls') looks

-- ---- what it leaves of the desk

-- A desk at which these events happened since it began so, and that is looked at now. Its line tells this.
pub record DeskAt : Type 0 where
  pub target : Target
  pub need : Bool
  pub start : DeskStart
  pub events : List DeskEvent
  pub now : Moment
  pub line : LineView

abbrev pub desk_at : Target → Bool → DeskStart → List DeskEvent → Moment → LineView → DeskAt
desk_at target need start events now line = record { target = target; need = need; start = start; events = events; now = now; line = line }

-- Looks at this moment are further events, or that what is kept was dropped, and nothing else was done.
pub record GoesOnLooking (at : DeskAt) (desk : DeskSeen) : Type 0 where
  pub more : List DeskEvent
  pub only : AreOnlyLooks at.now more
  pub has : HasKeptDesk at.target at.need at.start (at.events ++ more) desk at.line

-- One URL was settled at it, whose looks are appended. The desk looked at its hits exactly if it was open and no find asked for it, and nothing
-- else happened.
pub record SettlesOne (at : DeskAt) (by : Option MadeFind) (asked : List Looks) (one one' : LookUrl) (looks looks' : List Looks) (desk : DeskSeen) : Type 0 where
  pub goes : GoesOnLooking at desk
  pub first : List Looks
  pub appended : looks' ≡ looks ++ first
  pub is : SettlesUrl at.start (at.events ++ goes.more) (find_for by asked) one one' first
  pub looked : goes.more ≡ looks_at at.now (drop (length asked) (open_hits_of one.hits one.verdict))

-- The hits of a URL that is open were settled at it. The desk looked at them exactly if no find asked for them, and nothing else happened.
pub record SettlesHits (at : DeskAt) (by : Option MadeFind) (asked : List Looks) (hits : List Hit) (verdict : Option Verdict) (looks looks' : List Looks) (desk : DeskSeen) : Type 0 where
  pub goes : GoesOnLooking at desk
  pub first : List Looks
  pub appended : looks' ≡ looks ++ first
  pub is : IsUrlSettled at.start (at.events ++ goes.more) (find_for by asked) (Some hits) None verdict first
  pub looked : goes.more ≡ looks_at at.now (drop (length asked) (hits ∷ []))

-- They were looked up at it.
abbrev pub LooksUp : DeskAt → List Hit → Option Verdict → (looks looks' : List Looks) → DeskSeen → Type 0
LooksUp at hits verdict looks looks' desk = SettlesHits at None [] hits verdict looks looks' desk

-- These URLs were settled at it, by looks at this moment, or by a find that asked for the first of them that are open. The desk looked at the
-- hits of each other one that was open, in their order, and nothing else happened.
pub record SettlesAll (at : DeskAt) (by : Option MadeFind) (asked : List Looks) (urls : List LookUrl) (settled : Settled) (desk : DeskSeen) : Type 0 where
  pub goes : GoesOnLooking at desk
  pub are : AreUrlsSettled at.start (at.events ++ goes.more) by asked urls settled.urls settled.looks
  pub looked : goes.more ≡ looks_at at.now (drop (length asked) (open_hits urls))
