-- What a run comes to whose sessions were answered by a server, or lost.
use Rattle.std.specs.Prelude.{◌≡◌, ℕ, ◌≤◌, false, List, [], ◌∷◌, length, map, filter, All, Option, Ok}
use Rattle.sb_model.specs.History.{History, declares}
use Rattle.sb_model.specs.Naming.{Naming, IsNaming}
use Rattle.sb_outside.specs.declared.links.Session.{Session}
use Rattle.http_edge.specs.declared.messages.Target.{Target}
use Rattle.timed_sessions.specs.Told.{Outside}
use Rattle.update_client.specs.Held.{Held, most_lists}
use Rattle.update_client.specs.Genuine.{IsWithinLimitsAlways}
use Rattle.update_client.specs.Replica.{AreReplicas}
use Rattle.sb_round.specs.Round.{Round, taken_from, lists_after_round}
use Rattle.sb_round.specs.Rounds.{round_updates, round_entry}
use Rattle.sb_round.specs.Run.{lists_after}
use Rattle.sb_round.specs.declared.rounds.Taken.{Taken}
use Rattle.update_run.specs.Opening.{first_lists}
use Rattle.update_run.specs.Printed.{has_refusals}
use Rattle.update_run.specs.Run.{HasMade}
use Rattle.update_run.specs.declared.plan.Plan.{Plan}
use Rattle.client_laws.specs.Met.{IsLogged}
use Rattle.both_ends_laws.specs.Answered.{IsAnsweredIn, AreAnsweredOrLost, AreAnsweredInOrder, HasByteTokens, CanBeAsked}
use Rattle.both_ends_laws.specs.Installs.{CanBeServed, IsInstalled}
use Rattle.both_ends_laws.specs.Versions.{HasNoLimits, StayOrRise}

-- ---- completeness

-- the lists of these that a history declares, in order
abbrev pub declared_lists : History → List Held → List Held
declared_lists history lists = filter (λ (held : Held). declares history held.name) lists

-- A round ended with `ok`, and told of each list that the history declares that its update was installed, and of no other list.
pub record InstallsEach (history : History) (lists : List Held) (round : Round) : Type 0 where
  pub taken : List Taken
  pub ok : taken_from lists round.answer ≡ Ok taken
  pub all : map (λ (one : Taken). one.name) taken ≡ map (λ (held : Held). held.name) (declared_lists history lists)
  pub installed : All (λ (one : Taken). IsInstalled one.result) taken

-- Each of these rounds whose session the server answered did so, wherever the rounds before it led.
abbrev pub InstallAnswers : History → Naming → Target → List Held → List Round → Type 0
InstallAnswers history token_at target lists [] = Unit {0}
InstallAnswers history token_at target lists (round ∷ rounds) =
    (IsAnsweredIn history token_at target (round_entry round) → InstallsEach history lists round)
    × InstallAnswers history token_at target (lists_after_round lists round) rounds

-- A run of this plan asks a server of this history, from what was kept: at most 8 names, and the lists that it begins with are
-- replicas of the server's. The server need not declare them: a list that it does not declare is a replica where it is empty.
pub record AsksServer (history : History) (token_at : Naming) (plan : Plan) (kept : Option (List ℕ)) : Type 0 where
  pub can : CanBeServed history
  pub naming : IsNaming history token_at
  pub tokens : HasByteTokens history token_at
  pub few : length plan.names ≤ most_lists
  pub replicas : AreReplicas history token_at (first_lists plan.names kept)

-- Each answered round installs the update of every declared list, the lists stay replicas, and where no session was lost the run tells of no refusal.
pub record IsCompleteRun (history : History) (token_at : Naming) (plan : Plan) (kept : Option (List ℕ)) (rounds : List Round) (sessions : List Session) : Type 0 where
  pub install : InstallAnswers history token_at plan.target (first_lists plan.names kept) rounds
  pub replicas : AreReplicas history token_at (lists_after (first_lists plan.names kept) (map round_updates rounds))
  pub no_refusal : All (IsAnsweredIn history token_at plan.target) sessions → has_refusals (first_lists plan.names kept) rounds ≡ false

-- Where each new session of the log was answered by the server, or lost, the rounds of a run are complete.
abbrev pub AnsweredRunsAreComplete : Type 0
AnsweredRunsAreComplete =
    (history : History) (token_at : Naming) (plan : Plan) (kept : Option (List ℕ)) (rounds : List Round) (before after : Outside) (sessions : List Session)
    → AsksServer history token_at plan kept
    → HasMade plan kept rounds before after
    → IsLogged sessions before.log after.log
    → AreAnsweredOrLost history token_at plan.target plan.need_digest sessions
    → IsCompleteRun history token_at plan kept rounds sessions

-- ---- versions

-- A run of this plan asks a server of this history for whole updates, from what was kept: no limit that it asks for binds, and its lists
-- can be asked for.
pub record AsksWithoutLimits (history : History) (token_at : Naming) (plan : Plan) (kept : Option (List ℕ)) : Type 0 where
  pub always : IsWithinLimitsAlways history
  pub naming : IsNaming history token_at
  pub tokens : HasByteTokens history token_at
  pub limits : HasNoLimits plan.options
  pub lists : CanBeAsked (first_lists plan.names kept)

-- Where each new session of the log was answered by the server, or lost, and the versions at which it answered do not fall and are not
-- below this one, a list that is at a version up to this one is at the end at that version or at one after it.
abbrev pub AnsweredRunsKeepVersions : Type 0
AnsweredRunsKeepVersions =
    (history : History) (token_at : Naming) (plan : Plan) (kept : Option (List ℕ)) (rounds : List Round) (before after : Outside) (sessions : List Session) (least : ℕ)
    → AsksWithoutLimits history token_at plan kept
    → HasMade plan kept rounds before after
    → IsLogged sessions before.log after.log
    → AreAnsweredInOrder history token_at plan.target plan.need_digest least sessions
    → StayOrRise history token_at least (first_lists plan.names kept) (lists_after (first_lists plan.names kept) (map round_updates rounds))
