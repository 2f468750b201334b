-- What a run that came to its end printed, where the sessions of its log were answered by a server, or lost.
use Rattle.std.specs.Prelude.{◌≡◌, ℕ, List, length, map, Option, Some}
use Rattle.sb_model.specs.History.{History}
use Rattle.sb_model.specs.Naming.{Naming}
use Rattle.sb_outside.specs.Outside.{appended}
use Rattle.sb_outside.specs.declared.links.Session.{Session}
use Rattle.sb_round.specs.Round.{Round}
use Rattle.sb_round.specs.Rounds.{round_entry, round_updates}
use Rattle.sb_round.specs.Run.{lists_after}
use Rattle.client_laws.specs.Met.{IsLogged}
use Rattle.both_ends_laws.specs.Answered.{AreAnsweredOrLost, AreAnsweredInOrder}
use Rattle.both_ends_laws.specs.Complete.{AsksServer, AsksWithoutLimits, IsCompleteRun}
use Rattle.both_ends_laws.specs.Versions.{StayOrRise}
use Rattle.update_run.specs.Opening.{first_lists}
use Rattle.update_run.specs.Printed.{run_text}
use Rattle.update_run.specs.Run.{Seen, HasMade}
use Rattle.update_run.specs.declared.plan.Plan.{Plan}

-- ---- completeness

-- A run of this plan asked a server of this history from replicas, and each session that its log has more was answered, or lost.
pub record MeetsAnswers (history : History) (token_at : Naming) (plan : Plan) (kept : Option (List ℕ)) (sessions : List Session) (before after : Seen) : Type 0 where
  pub known : before.keeper.kept ≡ Some kept
  pub asks : AsksServer history token_at plan kept
  pub log : IsLogged sessions before.outside.log after.outside.log
  pub answered : AreAnsweredOrLost history token_at plan.target plan.need_digest sessions

-- The rounds that were made, as many as the plan asks for, whose sessions these are, are printed: each that was answered prints `ok`, and of each list that the
-- history declares that its update is installed.
pub record TellsComplete (history : History) (token_at : Naming) (plan : Plan) (kept : Option (List ℕ)) (sessions : List Session) (before after : Seen) : Type 0 where
  pub rounds : List Round
  pub all : length rounds ≡ plan.rounds
  pub made : HasMade plan kept rounds before.outside after.outside
  pub are : map round_entry rounds ≡ sessions
  pub complete : IsCompleteRun history token_at plan kept rounds sessions
  pub text : after.output ≡ appended before.output (run_text kept (first_lists plan.names kept) rounds)

-- ---- versions

-- A run of this plan asked a server of this history for whole updates, and each session that its log has more was answered, at versions
-- that are not below this one and do not fall, or lost.
pub record MeetsVersions (history : History) (token_at : Naming) (least : ℕ) (plan : Plan) (kept : Option (List ℕ)) (sessions : List Session) (before after : Seen) : Type 0 where
  pub known : before.keeper.kept ≡ Some kept
  pub asks : AsksWithoutLimits history token_at plan kept
  pub log : IsLogged sessions before.outside.log after.outside.log
  pub answered : AreAnsweredInOrder history token_at plan.target plan.need_digest least sessions

-- The rounds that were made, as many as the plan asks for, whose sessions these are, are printed, and the lists that they led to. Each list that the run began with
-- at a version up to this one is then at that version or at one after it.
pub record TellsVersions (history : History) (token_at : Naming) (least : ℕ) (plan : Plan) (kept : Option (List ℕ)) (sessions : List Session) (before after : Seen) : Type 0 where
  pub rounds : List Round
  pub all : length rounds ≡ plan.rounds
  pub made : HasMade plan kept rounds before.outside after.outside
  pub are : map round_entry rounds ≡ sessions
  pub go_on : StayOrRise history token_at least (first_lists plan.names kept) (lists_after (first_lists plan.names kept) (map round_updates rounds))
  pub text : after.output ≡ appended before.output (run_text kept (first_lists plan.names kept) rounds)
