-- What a run that stands somewhere tells of its rounds and finds.
use Rattle.std.proofs.Common.{◌≡◌, ◌<◌, ℕ, List, [], ◌∷◌, Bool, true, false, Option, Some, None, refl, sym, ap, ◌∙◌, subst, inl, inr}
use Rattle.std.specs.Prelude.{◌⊎◌, ◌||◌, ◌&&◌, not, is_some, IsSome}
use Rattle.client_line.specs.Lines.{LineView}
use Rattle.hash_messages.specs.Messages.{AskedHashes}
use Rattle.http_serving.specs.declared.ends.ConnectionEnd.{ConnectionEnd}
use Rattle.mirror_connections.specs.Answered.{BeginsFirst}
use Rattle.mirror_connections.specs.Open.{ConnectionsSeen, FindSeen, WaitingSeen}
use Rattle.mirror_finds.specs.Finds.{FindsSeen, HasFindOpen, IsFindOpenSince}
use Rattle.mirror_finds.specs.declared.finds.OpenFind.{OpenFind}
use Rattle.mirror_rounds.specs.Rounds.{HasRoundOpen, IsOpenSince, MirrorSeen}
use Rattle.mirror_run.specs.Allowed.{MayNotBeSent}
use Rattle.mirror_run.specs.Events.{after_events}
use Rattle.mirror_run.specs.SoFar.{IsOpenFindOf, MirrorOutside, MirrorOwn, RunStart, waiting_of}
use Rattle.mirror_run.specs.State.{StartedFind, before_all, find_waits, waited_long}
use Rattle.mirror_run.specs.State.Phase.{Beginning}
use Rattle.mirror_run.specs.Steps.{FindIsDue, RunGoesOn, IsRunning, MayBegin, MayNotBegin, NoFindIsDue, RunAt, RunsSo, run_at}
use Rattle.mirror_run.specs.declared.plan.MirrorPlan.{MirrorPlan}
use Rattle.mirror_run.proofs.RoundSteps.{made_open, more_left}
use Rattle.sb_model.specs.declared.time.Moment.{Moment}
use Rattle.timed_sessions.specs.declared.timing.Opening.{Opening}
use Rattle.update_run.specs.declared.plan.Plan.{Plan}
use Rattle.wait_rules.specs.Waits.{may_send_at}
use Rattle.http_edge.specs.declared.messages.Target.{Target}

session_of : (plan : Plan) (now : MirrorSeen) (before line : LineView) (opened : Option Opening) → now.opened ≡ opened → is_some opened ≡ true → IsOpenSince plan now.state before line opened
    → HasRoundOpen plan now line
session_of plan now before line None same is since = cc
session_of plan now before line (Some opening) same is since = (before, opening, same, since)

pub round_session : (at : RunAt) (plan : MirrorPlan) (own : MirrorOwn) (seen : MirrorOutside) → IsRunning at plan own seen → is_some own.rounds.opened ≡ true → HasRoundOpen plan.updates own.rounds seen.updates
round_session at plan own seen (start, run) opened =
    let made = made_open plan start at own seen run opened in
    session_of plan.updates own.rounds made.between seen.updates own.rounds.opened refl opened made.session

pub rounds_left : (at : RunAt) (plan : MirrorPlan) (own : MirrorOwn) (seen : MirrorOutside) → IsRunning at plan own seen → is_some own.rounds.opened ≡ true → own.rounds.over < plan.updates.rounds
rounds_left at plan own seen (start, run) opened = more_left plan start at own seen run opened

find_of : (target : Target) (now : FindsSeen) (before line : LineView) (opened : Option OpenFind) → now.opened ≡ opened → is_some opened ≡ true → IsFindOpenSince target now.waits before line opened
    → HasFindOpen target now line
find_of target now before line None same is since = cc
find_of target now before line (Some find) same is since = (before, find, same, since)

pub find_session : (at : RunAt) (plan : MirrorPlan) (own : MirrorOwn) (seen : MirrorOutside) → IsRunning at plan own seen → is_some own.finds.opened ≡ true → HasFindOpen plan.updates.target own.finds seen.finds
find_session at plan own seen (start, run) opened =
    find_of plan.updates.target own.finds run.has.so.finds.between seen.finds own.finds.opened refl opened run.has.so.finds.session

some_begun : (begun : Option FindSeen) (opened : Option OpenFind) (started : Option StartedFind) → IsOpenFindOf begun opened started → is_some opened ≡ true → IsSome begun
some_begun None None started is e = cc
some_begun None (Some session) started is e = absurd is
some_begun (Some find) None started is e = absurd is
some_begun (Some find) (Some session) started is e = refl

none_begun_of : (begun : Option FindSeen) (opened : Option OpenFind) (started : Option StartedFind) → IsOpenFindOf begun opened started → opened ≡ None → begun ≡ None
none_begun_of None None started is e = refl
none_begun_of None (Some session) started is e = absurd is
none_begun_of (Some find) None started is e = absurd is
none_begun_of (Some find) (Some session) started is e = cc

pub begun_if_open : (at : RunAt) (plan : MirrorPlan) (own : MirrorOwn) (seen : MirrorOutside) → IsRunning at plan own seen → is_some own.finds.opened ≡ true → IsSome own.connections.begun
begun_if_open at plan own seen (start, run) opened = some_begun own.connections.begun own.finds.opened _ run.has.so.is.find opened

pub begun_none : (at : RunAt) (plan : MirrorPlan) (own : MirrorOwn) (seen : MirrorOutside) → IsRunning at plan own seen → own.finds.opened ≡ None → own.connections.begun ≡ None
begun_none at plan own seen (start, run) closed = none_begun_of own.connections.begun own.finds.opened _ run.has.so.is.find closed

pub still_running : (before after : RunAt) (plan : MirrorPlan) (own own' : MirrorOwn) (seen seen' : MirrorOutside) → RunGoesOn before after plan own own' seen seen' → IsRunning before plan own seen → IsRunning after plan own' seen'
still_running before after plan own own' seen seen' goes (start, run) = (start, goes start run)

-- ---- what is due

due_cases : {A : Type 0} (late : Bool) (opened : Option A) → (late || not (is_some opened)) ≡ true → (late ≡ true) ⊎ (opened ≡ None)
due_cases true opened is = inl refl
due_cases false None is = inr refl
due_cases false (Some a) is = cc

not_due_cases : {A : Type 0} (late : Bool) (opened : Option A) → (late || not (is_some opened)) ≡ false → (late ≡ false) × (is_some opened ≡ true)
not_due_cases true opened is = cc
not_due_cases false None is = cc
not_due_cases false (Some a) is = (refl, refl)

module _ (now : Moment) (own : MirrorOwn) (first : WaitingSeen) (rest : List WaitingSeen) (waits : own.connections.waiting ≡ first ∷ rest) (late opened : Bool)
    (late_is : late ≡ waited_long now first.heard) (opened_is : opened ≡ is_some own.finds.opened)
  where
    pub find_due : (late || not opened) ≡ true → FindIsDue now own
    find_due is = (first, rest, waits, due_cases (waited_long now first.heard) own.finds.opened (ap (λ (b : Bool). b || not (is_some own.finds.opened)) (sym late_is) ∙ ap (λ (b : Bool). late || not b) (sym opened_is) ∙ is))

    pub find_not_due : (late || not opened) ≡ false → NoFindIsDue now own
    find_not_due is =
        let not_due = not_due_cases (waited_long now first.heard) own.finds.opened (ap (λ (b : Bool). b || not (is_some own.finds.opened)) (sym late_is) ∙ ap (λ (b : Bool). late || not b) (sym opened_is) ∙ is) in
        inr (first, rest, waits, not_due.0, not_due.1)

pub no_find_due : (now : Moment) (own : MirrorOwn) → own.connections.waiting ≡ [] → NoFindIsDue now own
no_find_due now own none = inl none

may_cases : {A : Type 0} (late may : Bool) (opened : Option A) → (not late && not (is_some opened) && may) ≡ true → (late ≡ false) × (opened ≡ None) × (may ≡ true)
may_cases true may opened is = cc
may_cases false may (Some a) is = cc
may_cases false true None is = (refl, refl, refl)
may_cases false false None is = cc

may_not_cases : {A : Type 0} (late may : Bool) (opened : Option A) → (not late && not (is_some opened) && may) ≡ false → (late ≡ true) ⊎ (is_some opened ≡ true) ⊎ (may ≡ false)
may_not_cases true may opened is = inl refl
may_not_cases false may (Some a) is = inr (inl refl)
may_not_cases false true None is = cc
may_not_cases false false None is = inr (inr refl)

cons_first : {A : Type 0} {x y : A} {xs ys : List A} → x ∷ xs ≡ y ∷ ys → x ≡ y
cons_first e = cc

module _ (now : Moment) (own : MirrorOwn) (first : WaitingSeen) (rest : List WaitingSeen) (waits : own.connections.waiting ≡ first ∷ rest) (late opened may result : Bool)
    (late_is : late ≡ waited_long now first.heard) (opened_is : opened ≡ is_some own.finds.opened) (may_is : may ≡ may_send_at own.finds.waits now)
    (is : result ≡ (not late && not opened && may))
  where
    all_is : result ≡ (not (waited_long now first.heard) && not (is_some own.finds.opened) && may_send_at own.finds.waits now)
    all_is = is ∙ ap (λ (b : Bool). not b && not opened && may) late_is ∙ ap (λ (b : Bool). not (waited_long now first.heard) && not b && may) opened_is
        ∙ ap (λ (b : Bool). not (waited_long now first.heard) && not (is_some own.finds.opened) && b) may_is

    pub find_may_begin : result ≡ true → MayBegin now own
    find_may_begin e =
        let parts = may_cases (waited_long now first.heard) (may_send_at own.finds.waits now) own.finds.opened (sym all_is ∙ e) in
        record { first = first; rest = rest; waits = waits; in_time = parts.0; none_open = parts.1; may = parts.2 }

    pub find_may_not : result ≡ false → MayNotBegin now own
    find_may_not e one others same =
        subst (λ (f : WaitingSeen). (waited_long now f.heard ≡ true) ⊎ (is_some own.finds.opened ≡ true) ⊎ (may_send_at own.finds.waits now ≡ false)) (cons_first (sym waits ∙ same))
        (may_not_cases (waited_long now first.heard) (may_send_at own.finds.waits now) own.finds.opened (sym all_is ∙ e))

pub none_may_not : (now : Moment) (own : MirrorOwn) → own.connections.waiting ≡ [] → MayNotBegin now own
none_may_not now own none one others same = let e = sym none ∙ same in cc

-- ---- the find that is open

pub record OpensSo (begun : Option FindSeen) (opened : Option OpenFind) (started : Option StartedFind) : Type 0 where
  pub find : FindSeen
  pub session : OpenFind
  pub begun_is : begun ≡ Some find
  pub opened_is : opened ≡ Some session
  pub started_is : started ≡ Some (record { number = find.number; asked = session.asked; states = session.states })

pub opens_so : (begun : Option FindSeen) (opened : Option OpenFind) (started : Option StartedFind) → IsOpenFindOf begun opened started → is_some opened ≡ true → OpensSo begun opened started
opens_so None None started is e = cc
opens_so None (Some session) started is e = absurd is
opens_so (Some find) None started is e = absurd is
opens_so (Some find) (Some session) started is e = record { find = find; session = session; begun_is = refl; opened_is = refl; started_is = is }

pub some_same : {A : Type 0} {x y : A} → Some x ≡ Some y → x ≡ y
some_same e = cc

-- ---- the first that waits

-- the find that was begun is the first that waited
pub begins_same : (before after : ConnectionsSeen) (first : WaitingSeen) (rest : List WaitingSeen) (asked : AskedHashes) → before.waiting ≡ first ∷ rest → BeginsFirst asked before after
    → (after ≡ record { taken = before.taken; begun = Some first.find; waiting = rest }) × (asked ≡ first.asked)
begins_same before after first rest asked waits begins =
    let same : begins.first ∷ begins.rest ≡ first ∷ rest = sym begins.waited ∙ waits in
    let one : begins.first ≡ first = cc in
    let others : begins.rest ≡ rest = cc in (
      begins.left ∙ ap (λ (f : WaitingSeen). record { taken = before.taken; begun = Some f.find; waiting = begins.rest }) one
          ∙ ap (λ (r : List WaitingSeen). record { taken = before.taken; begun = Some first.find; waiting = r }) others,
      begins.asks ∙ ap (λ (f : WaitingSeen). f.asked) one,
    )

not_due_or : {A : Type 0} (opened : Option A) (may : Bool) (late : Bool) → (late ≡ true) ⊎ (opened ≡ None) → (late ≡ true) ⊎ (is_some opened ≡ true) ⊎ (may ≡ false) → (late ≡ true) ⊎ ((opened ≡ None) × (may ≡ false))
not_due_or opened may late (inl l) held = inl l
not_due_or opened may late (inr o) (inl l) = inl l
not_due_or opened may late (inr o) (inr (inl s)) = let h : is_some opened ≡ false = ap is_some o in cc
not_due_or opened may late (inr o) (inr (inr m)) = inr (o, m)

none_started : (begun : Option FindSeen) (opened : Option OpenFind) (started : Option StartedFind) → IsOpenFindOf begun opened started → opened ≡ None → started ≡ None
none_started None None started is e = is
none_started None (Some session) started is e = absurd is
none_started (Some find) None started is e = absurd is
none_started (Some find) (Some session) started is e = cc

why_not : (plan : MirrorPlan) (start : RunStart) (now : Moment) (turns : ℕ) (own : MirrorOwn) (seen : MirrorOutside) (run : RunsSo (run_at Beginning now turns) plan start own seen) (first : WaitingSeen) (how : ConnectionEnd)
    → (waited_long now first.heard ≡ true) ⊎ ((own.finds.opened ≡ None) × (may_send_at own.finds.waits now ≡ false)) → MayNotBeSent start.first (after_events start.first before_all run.events) (waiting_of first) how
why_not plan start now turns own seen run first how (inl late) = inr (inl (ap (λ (m : Moment). waited_long m first.heard) run.stands.now ∙ late))
why_not plan start now turns own seen run first how (inr (closed, may)) = inl (
  run.stands.phase,
  none_started own.connections.begun own.finds.opened _ run.has.so.is.find closed,
  ap (λ (m : Moment). may_send_at (find_waits start.first (after_events start.first before_all run.events)) m) run.stands.now ∙ ap (λ w. may_send_at w now) (sym run.has.so.finds.waits_are) ∙ may,
)

-- why the first that waits is not sent on in the beginning of a turn
pub because_not : (plan : MirrorPlan) (start : RunStart) (now : Moment) (turns : ℕ) (own : MirrorOwn) (seen : MirrorOutside) (run : RunsSo (run_at Beginning now turns) plan start own seen)
    → FindIsDue now own → MayNotBegin now own → (first : WaitingSeen) (rest : List WaitingSeen) (how : ConnectionEnd) → own.connections.waiting ≡ first ∷ rest
    → MayNotBeSent start.first (after_events start.first before_all run.events) (waiting_of first) how
because_not plan start now turns own seen run due held first rest how waits =
    let st = after_events start.first before_all run.events in
    let same : due.0 ≡ first = cons_first (sym due.2 ∙ waits) in
    let late_or : (waited_long now first.heard ≡ true) ⊎ (own.finds.opened ≡ None) = subst (λ (f : WaitingSeen). (waited_long now f.heard ≡ true) ⊎ (own.finds.opened ≡ None)) same due.3 in
    why_not plan start now turns own seen run first how (not_due_or own.finds.opened (may_send_at own.finds.waits now) (waited_long now first.heard) late_or (held first rest waits))
