-- What a run that stands somewhere tells of its rounds.
use Rattle.std.proofs.Common.{◌≡◌, ◌<◌, true, Option, Some, None, refl}
use Rattle.std.specs.Prelude.{is_some, Result, Ok, Err}
use Rattle.client_line.specs.Lines.{LineView}
use Rattle.client_rounds.specs.Rounds.{ClientSeen, HasClientRoundOpen, IsClientOpenSince}
use Rattle.proxy_run.specs.SoFar.{ProxyOutside, ProxyOwn}
use Rattle.proxy_run.specs.Steps.{IsProxyRunning, ProxyAt, ProxyGoesOn}
use Rattle.proxy_run.specs.declared.plan.ProxyPlan.{ProxyPlan}
use Rattle.proxy_run.proofs.RoundSteps.{made_open, more_left}
use Rattle.timed_sessions.specs.declared.timing.Opening.{Opening}
use Rattle.update_run.specs.declared.plan.Plan.{Plan}

session_of : (plan : Plan) (now : ClientSeen) (before line : LineView) (opened : Option Opening) → now.opened ≡ opened → is_some opened ≡ true → IsClientOpenSince plan now.state before line opened
    → HasClientRoundOpen plan now line
session_of plan now before line None same is since = cc
session_of plan now before line (Some opening) same is since = (before, opening, same, since)

pub round_session : (at : ProxyAt) (plan : ProxyPlan) (own : ProxyOwn) (seen : ProxyOutside) → IsProxyRunning at plan own seen → is_some own.rounds.opened ≡ true → HasClientRoundOpen plan.updates own.rounds seen.updates
round_session at plan own seen (start, run) opened =
    let made = made_open plan start at own seen run opened in
    session_of plan.updates own.rounds made.between seen.updates own.rounds.opened refl opened made.session

pub rounds_left : (at : ProxyAt) (plan : ProxyPlan) (own : ProxyOwn) (seen : ProxyOutside) → IsProxyRunning at plan own seen → is_some own.rounds.opened ≡ true → own.rounds.over < plan.updates.rounds
rounds_left at plan own seen (start, run) opened = more_left plan start at own seen run opened

pub still_running : (before after : ProxyAt) (plan : ProxyPlan) (own own' : ProxyOwn) (seen seen' : ProxyOutside) → ProxyGoesOn before after plan own own' seen seen' → IsProxyRunning before plan own seen
    → IsProxyRunning after plan own' seen'
still_running before after plan own own' seen seen' goes (start, run) = (start, goes start run)

-- ---- results

pub not_err : {A E : Type 0} (r : Result A E) (a : A) (e : E) → r ≡ Ok a → r ≡ Err e → ⊥
not_err r a e is same = cc

pub err_same : {A E : Type 0} (r : Result A E) (x y : E) → r ≡ Err x → r ≡ Err y → x ≡ y
err_same r x y is same = cc
