-- What the answer of a connection goes back to: the lists at which its URLs were looked up, and the looks and the finds that decided them.
use Rattle.std.specs.Prelude.{◌≡◌, ◌≢◌, ◌⊎◌, ℕ, List, [], ◌∷◌, ◌++◌, All, Contains, length, Option, Some, None, Result, Ok, Err, ⊤}
use Rattle.find_desk.specs.Desk.{DeskStart, looked_up}
use Rattle.find_desk.specs.Events.{DeskEvent, Found, MadeFind, kept_after_events}
use Rattle.hash_messages.specs.declared.response.FindResponse.{FindResponse}
use Rattle.held_connections.specs.Over.{ServedConnection}
use Rattle.http_edge.specs.declared.faults.RequestFault.{RequestFault}
use Rattle.http_edge.specs.declared.messages.HttpRequest.{HttpRequest}
use Rattle.http_serving.specs.declared.ends.ConnectionEnd.TheVariants as end
use Rattle.lookup_messages.specs.Messages.{AskedUrls}
use Rattle.proxy_looks.specs.Urls.{urls_asked}
use Rattle.proxy_looks.specs.declared.urls.LookUrl.{LookUrl}
use Rattle.proxy_run.specs.Allowed.{MayAllProxyEventsCome}
use Rattle.proxy_run.specs.Events.{ProxyEvent, after_proxy_events}
use Rattle.proxy_run.specs.Events.ProxyEvent.{LookDone}
use Rattle.proxy_run.specs.LookEvents.{LinePart}
use Rattle.proxy_run.specs.LookEvents.LookEvent.{Answered, Taken}
use Rattle.proxy_run.specs.State.{ProxyFirst, ProxyState, before_proxy, proxy_lists}
use Rattle.proxy_run.specs.declared.plan.ProxyPlan.{ProxyPlan}
use Rattle.proxy_serving.specs.HeardLook.{IsHeardLook}
use Rattle.proxy_serving.specs.Response.{ProxyServed}
use Rattle.proxy_serving.specs.Told.{fate_told}
use Rattle.proxy_serving.specs.declared.fate.LookFate.TheVariants.{Unanswered}
use Rattle.proxy_serving.specs.declared.told.SeenUrl.{SeenUrl}
use Rattle.sb_model.specs.declared.time.Moment.{Moment}
use Rattle.update_client.specs.Held.{Held}
use Rattle.url_checker.specs.Resolving.{hits_asked, verdict_by}
use Rattle.url_checker.specs.declared.findings.Hit.{Hit}
use Rattle.verdict_report.specs.declared.verdicts.Cause.{Cause}
use Rattle.verdict_report.specs.declared.verdicts.Cause.TheVariants.{NotBefore}
use Rattle.verdict_report.specs.declared.verdicts.Verdict.{Verdict}

-- ---- a verdict

-- An answer for hits that were left open: that of a find among these events which asked for each of them; or none, since no find was waited for.
abbrev pub IsAnswerFor : List DeskEvent → List Hit → Result FindResponse Cause → Type 0
IsAnswerFor after open_ones answer =
    ((one : MadeFind) × Contains after (Found one) × All (λ hit. Contains one.asked hit) open_ones × (answer ≡ one.talk.answer))
    ⊎ ((allowed : Moment) × (answer ≡ Err (NotBefore allowed)))

-- A verdict on hits goes back to one look at them among these events, and to one answer after it for those that it left open.
pub record GoesBackTo (start : DeskStart) (events : List DeskEvent) (hits : List Hit) (verdict : Verdict) : Type 0 where
  pub before : List DeskEvent
  pub after : List DeskEvent
  pub now : Moment
  pub splits : events ≡ before ++ looked_up now hits ∷ after
  pub answer : Result FindResponse Cause
  pub given : IsAnswerFor after (hits_asked (kept_after_events start.kept before) now hits) answer
  pub verdict_is : verdict ≡ verdict_by (kept_after_events start.kept before) now answer hits

-- ---- the verdicts that are told

-- A URL without a canonical form is told without a verdict, and each other one with one that goes back to a look at its hits.
abbrev pub IsToldBy : DeskStart → List DeskEvent → Option (List Hit) → Option Verdict → Type 0
IsToldBy start events None told = told ≡ None
IsToldBy start events (Some hits) told = (verdict : Verdict) × (told ≡ Some verdict) × GoesBackTo start events hits verdict

-- each of some URLs, in their order
abbrev pub AreToldSo : DeskStart → List DeskEvent → List LookUrl → List SeenUrl → Type 0
AreToldSo start events [] [] = ⊤
AreToldSo start events (one ∷ urls) (told ∷ all) = (told.url ≡ one.url) × IsToldBy start events one.hits told.verdict × AreToldSo start events urls all
AreToldSo start events [] (told ∷ all) = ⊥
AreToldSo start events (one ∷ urls) [] = ⊥

-- ---- a connection

-- a proxy after some events of its run, of which the newest stands first
abbrev pub proxy_after : ProxyFirst → List ProxyEvent → ProxyState
proxy_after first events = after_proxy_events first before_proxy events

-- Among these events a connection was taken, of which this was heard. It is the one of this number, and the proxy then held these lists.
pub record WasTaken (first : ProxyFirst) (events : List ProxyEvent) (number : ℕ) (received : Result HttpRequest RequestFault) (lists : List Held) : Type 0 where
  pub later : List ProxyEvent
  pub earlier : List ProxyEvent
  pub pieces : List (List ℕ)
  pub splits : events ≡ later ++ LookDone (Taken pieces received) ∷ earlier
  pub placed : number ≡ length (proxy_after first earlier).looks.taken
  pub held : lists ≡ proxy_lists first (proxy_after first earlier)

-- It was taken, and sent no request that can be read.
pub record SentNoRequest (first : ProxyFirst) (events : List ProxyEvent) (number : ℕ) : Type 0 where
  pub received : Result HttpRequest RequestFault
  pub lists : List Held
  pub taken : WasTaken first events number received lists
  pub none : (request : HttpRequest) → received ≢ Ok request

-- It was taken and is a look-up, and its fate is what its URLs are told. Each verdict goes back to a look at the hits of its URL, on the lists that
-- the proxy held when the connection was taken.
pub record IsAnsweredOn (first : ProxyFirst) (events : List ProxyEvent) (one : ServedConnection ProxyServed) : Type 0 where
  pub received : Result HttpRequest RequestFault
  pub lists : List Held
  pub taken : WasTaken first events one.number received lists
  pub message : AskedUrls
  pub heard : IsHeardLook received message
  pub told : List SeenUrl
  pub are : AreToldSo first.desk (proxy_after first events).looks.desk (urls_asked lists message) told
  pub is : one.server.fate ≡ fate_told told

-- What the answer of a connection goes back to: memory was refused for it; it sent no request; its look-up is not answered; or its URLs were told.
abbrev pub AnswerGoesBack : ProxyFirst → List ProxyEvent → ServedConnection ProxyServed → Type 0
AnswerGoesBack first events one =
    (one.how ≡ end.OutOfMemory) ⊎ SentNoRequest first events one.number ⊎ (one.server.fate ≡ Unanswered) ⊎ IsAnsweredOn first events one

-- So it is of each connection that was answered.
abbrev pub AnswersGoBack : Type 0
AnswersGoBack = (plan : ProxyPlan) (first : ProxyFirst) (later earlier : List ProxyEvent) (one : ServedConnection ProxyServed) (part : LinePart)
    → MayAllProxyEventsCome plan first before_proxy (later ++ LookDone (Answered one part) ∷ earlier) → AnswerGoesBack first earlier one
