-- What the answers of a proxy say of a server's lists.
use Rattle.std.specs.Prelude.{◌≡◌, ◌⊎◌, ℕ, List, [], ◌∷◌, ◌++◌, filter, map, Option, Some, None, Result, Ok, Err, ⊤}
use Rattle.std.specs.List.{fold}
use Rattle.client_laws.specs.Faithful.{pair_of_hit}
use Rattle.client_laws.specs.Met.{AreHonestRounds}
use Rattle.client_laws.specs.Resolved.{IsBorneOut, IsLookup, steps_of_answer}
use Rattle.client_laws.specs.Shared.{IsDecidedBy}
use Rattle.find_desk.specs.Desk.{DeskStart}
use Rattle.find_desk.specs.Events.{DeskEvent, LookedUp, Found, Stopped, Forgot, kept_after_events}
use Rattle.full_hash_cache.specs.Law.{Step}
use Rattle.full_hash_cache.specs.Law.Step.{Asks}
use Rattle.hash_messages.specs.declared.response.FindResponse.{FindResponse}
use Rattle.held_connections.specs.Over.{ServedConnection}
use Rattle.http_serving.specs.declared.ends.ConnectionEnd.TheVariants as end
use Rattle.lookup_messages.specs.Lookups.{canonical_of_asked, looks_up_list}
use Rattle.lookup_messages.specs.Messages.{AskedUrls}
use Rattle.proxy_laws.specs.Traced.{GoesBackTo, IsAnsweredOn, SentNoRequest, proxy_after}
use Rattle.proxy_looks.specs.Urls.{hits_asked_of}
use Rattle.proxy_run.specs.Events.{ProxyEvent}
use Rattle.proxy_run.specs.Events.ProxyEvent.{LookDone}
use Rattle.proxy_run.specs.LookEvents.{LinePart}
use Rattle.proxy_run.specs.LookEvents.LookEvent.{Answered}
use Rattle.proxy_run.specs.Run.{EndsProxy, OpensProxy}
use Rattle.proxy_run.specs.SoFar.{ProxyOutside, ProxyStart}
use Rattle.proxy_run.specs.State.{ProxyFirst}
use Rattle.proxy_run.specs.declared.plan.ProxyPlan.{ProxyPlan}
use Rattle.proxy_run.specs.declared.stop.ProxyStop.{ProxyStop}
use Rattle.proxy_serving.specs.Response.{ProxyServed}
use Rattle.proxy_serving.specs.declared.fate.LookFate.TheVariants.{Unanswered}
use Rattle.proxy_serving.specs.declared.told.SeenUrl.{SeenUrl}
use Rattle.sb_model.specs.History.{History, IsWellFormed}
use Rattle.sb_model.specs.Naming.{Naming}
use Rattle.sb_model.specs.declared.time.Moment.{Moment}
use Rattle.update_client.specs.Held.{Held}
use Rattle.update_client.specs.Replica.{AreReplicas}
use Rattle.url_canon.specs.Url.{Url}
use Rattle.url_canon.specs.declared.fault.UrlFault.{UrlFault}
use Rattle.url_checker.specs.Hits.{hits_of}
use Rattle.url_checker.specs.Resolving.{hits_asked, open_cause}
use Rattle.verdict_report.specs.declared.verdicts.Cause.{Cause}
use Rattle.verdict_report.specs.declared.verdicts.Verdict.{Verdict}

-- ---- the lists and the answers that a verdict rests on

-- the lists whose three types are asked
abbrev pub lists_whose_types_are_asked : AskedUrls → List Held → List Held
lists_whose_types_are_asked asked lists = filter (λ (held : Held). looks_up_list asked held.name) lists

-- The steps of a cache that an event at a desk makes after others: hits are asked for, and an answer is taken. What is kept may be dropped, and then
-- they begin anew.
abbrev pub steps_with_event : List Step → DeskEvent → List Step
steps_with_event steps (LookedUp look) = steps ++ map (λ hit. Asks look.now (pair_of_hit hit) hit.hash) look.hits
steps_with_event steps (Found one) = steps ++ steps_of_answer one.states one.asked one.talk.session.closed one.talk.answer
steps_with_event steps (Stopped one) = steps
steps_with_event steps Forgot = []

abbrev pub steps_of_desk : List DeskEvent → List Step
steps_of_desk events = fold steps_with_event [] events

-- ---- one verdict

-- A verdict by what these events left and by this answer, as far as the answers that decided it are faithful: what it says is so; and if no hit was
-- left open, it is that of a look-up of each expression's hash in the full lists.
pub record IsRightVerdict (history : History) (token_at : Naming) (lists : List Held) (url : Url) (before : List DeskEvent) (now : Moment)
    (answer : Result FindResponse Cause) (verdict : Verdict) : Type 0 where
  pub borne_out : IsDecidedBy history token_at lists (steps_of_desk before) now answer (hits_of lists url) → IsBorneOut history token_at lists url verdict
  pub resolved : IsDecidedBy history token_at lists (steps_of_desk before) now answer (hits_of lists url)
      → open_cause answer (hits_asked (kept_after_events [] before) now (hits_of lists url)) ≡ None → IsLookup history token_at lists url verdict

-- A verdict on the hits of a URL, on those of some replicas whose types are asked, is right by these lists.
abbrev pub ProxyVerdictsHold : Type 0
ProxyVerdictsHold = (history : History) (token_at : Naming) (start : DeskStart) (events : List DeskEvent) (lists : List Held) (asked : AskedUrls) (url : Url) (verdict : Verdict)
    → IsWellFormed history → AreReplicas history token_at lists → start.kept ≡ []
    → (goes : GoesBackTo start events (hits_asked_of lists asked url) verdict)
    → IsRightVerdict history token_at (lists_whose_types_are_asked asked lists) url goes.before goes.now goes.answer verdict

-- ---- one answer

-- A proxy's desk after some events, the lists that it held, and what it was asked.
pub record LookedAt : Type 0 where
  pub start : DeskStart
  pub events : List DeskEvent
  pub lists : List Held
  pub asked : AskedUrls

-- A URL without a canonical form is told without a verdict, and each other one with one that is right.
abbrev pub IsToldRightly : History → Naming → LookedAt → Result Url UrlFault → Option Verdict → Type 0
IsToldRightly history token_at at (Err fault) told = told ≡ None
IsToldRightly history token_at at (Ok url) told =
    (verdict : Verdict) × (told ≡ Some verdict) × (goes : GoesBackTo at.start at.events (hits_asked_of at.lists at.asked url) verdict)
    × IsRightVerdict history token_at (lists_whose_types_are_asked at.asked at.lists) url goes.before goes.now goes.answer verdict

-- each URL as it was asked, in their order
abbrev pub AreToldRightly : History → Naming → LookedAt → List (List ℕ) → List SeenUrl → Type 0
AreToldRightly history token_at at [] [] = ⊤
AreToldRightly history token_at at (url ∷ urls) (told ∷ all) =
    (told.url ≡ url) × IsToldRightly history token_at at (canonical_of_asked url) told.verdict × AreToldRightly history token_at at urls all
AreToldRightly history token_at at [] (told ∷ all) = ⊥
AreToldRightly history token_at at (url ∷ urls) [] = ⊥

-- where the answer of a look-up comes from
abbrev pub looked_at : ProxyFirst → List ProxyEvent → List Held → AskedUrls → LookedAt
looked_at first events lists asked = record { start = first.desk; events = (proxy_after first events).looks.desk; lists = lists; asked = asked }

-- The look-up was answered by the lists that the proxy held when its connection was taken. If the rounds until then met an honest server, these are
-- replicas, and each URL is told rightly by those of them whose types are asked.
pub record IsAnsweredRightly (history : History) (token_at : Naming) (first : ProxyFirst) (events : List ProxyEvent) (one : ServedConnection ProxyServed) : Type 0 where
  pub on : IsAnsweredOn first events one
  pub right : AreHonestRounds history token_at first.client.lists (proxy_after first on.taken.earlier).rounds
      → AreReplicas history token_at on.lists × AreToldRightly history token_at (looked_at first events on.lists on.message) on.message.urls on.told

-- What a connection was answered: memory was refused for it; it sent no request; its look-up is not answered; or it is answered rightly.
abbrev pub HoldsOfAnswer : History → Naming → ProxyFirst → List ProxyEvent → ServedConnection ProxyServed → Type 0
HoldsOfAnswer history token_at first events one =
    (one.how ≡ end.OutOfMemory) ⊎ SentNoRequest first events one.number ⊎ (one.server.fate ≡ Unanswered) ⊎ IsAnsweredRightly history token_at first events one

-- ---- a run

-- So it is of each connection that is answered in a run of a proxy which came to its end, if the lists that its store has are replicas.
abbrev pub ProxyRunsHold : Type 0
ProxyRunsHold = (plan : ProxyPlan) (start : ProxyStart) (ended : Option ProxyStop) (before after : ProxyOutside) (history : History) (token_at : Naming)
    → OpensProxy plan start before → (run : EndsProxy plan start ended after) → IsWellFormed history → AreReplicas history token_at start.first.client.lists
    → (later earlier : List ProxyEvent) (one : ServedConnection ProxyServed) (part : LinePart) → run.events ≡ later ++ LookDone (Answered one part) ∷ earlier
    → HoldsOfAnswer history token_at start.first earlier one
