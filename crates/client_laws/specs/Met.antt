-- What a run met: the sessions that the link's log has more of it, and the bodies that they brought.
use Rattle.std.specs.Prelude.{◌≡◌, ◌⊎◌, ℕ, ◌+◌, Bool, List, [], ◌∷◌, ◌++◌, length, map, take, Option, Some, IsTrue}
use Rattle.sb_model.specs.History.{History, IsWellFormed}
use Rattle.sb_model.specs.Naming.{Naming, IsNaming}
use Rattle.sb_outside.specs.declared.links.Session.{Session}
use Rattle.update_messages.specs.Messages.{UpdatedList}
use Rattle.update_client.specs.Held.{Held}
use Rattle.update_client.specs.Replica.{AreReplicas}
use Rattle.sb_round.specs.Collision.{candidates_of, HasNoCollision}
use Rattle.sb_round.specs.Honest.{IsHonest}
use Rattle.sb_round.specs.Round.{Round}
use Rattle.sb_round.specs.Rounds.{round_updates}
use Rattle.sb_round.specs.Sessions.{AreBodiesOf}
use Rattle.update_run.specs.Opening.{first_lists}
use Rattle.update_run.specs.Run.{Seen}
use Rattle.update_run.specs.declared.plan.Plan.{Plan}

-- A log is told before and after, and has these sessions more.
pub record IsLogged (sessions : List Session) (before after : Option (List Session)) : Type 0 where
  pub earlier : List Session
  pub was : before ≡ Some earlier
  pub is : after ≡ Some (earlier ++ sessions)

-- So many of the bodies that a log's sessions brought were taken: all of them, or, where memory was refused, all but perhaps the last.
abbrev pub HasTakenBodies : Bool → (before after : Option (List Session)) → ℕ → Type 0
HasTakenBodies lacks before after taken =
    (sessions : List Session) → IsLogged sessions before after
    → (taken ≡ length sessions) ⊎ (IsTrue lacks × (taken + 1 ≡ length sessions))

-- A run met an honest server, whatever lists it began with: the text that was kept, or none, is told; the log is told, and those of its bodies
-- that were taken are honest, with no collision of digests. Of a body that was not taken nothing is asked.
pub record MeetsServer (history : History) (token_at : Naming) (plan : Plan) (taken : ℕ) (before after : Seen) : Type 0 where
  pub well_formed : IsWellFormed history
  pub names_versions : IsNaming history token_at
  pub kept : Option (List ℕ)
  pub known : before.keeper.kept ≡ Some kept
  pub sessions : List Session
  pub log : IsLogged sessions before.outside.log after.outside.log
  pub bodies : List (List UpdatedList)
  pub are : AreBodiesOf plan.need_digest sessions bodies
  pub honest : IsHonest history token_at (first_lists plan.names kept) (take taken bodies)
  pub no_collision : HasNoCollision history (candidates_of (first_lists plan.names kept) (take taken bodies))

-- The same, and the lists that it began with are replicas.
pub record MeetsHonest (history : History) (token_at : Naming) (plan : Plan) (taken : ℕ) (before after : Seen) : Type 0 where
  pub server : MeetsServer history token_at plan taken before after
  pub replicas : AreReplicas history token_at (first_lists plan.names server.kept)

-- Rounds met an honest server of this history, which names its versions so: their bodies are honest for a client that begins with these
-- lists, and no digest collides. Where no round was made nothing is asked.
abbrev pub AreHonestRounds : History → Naming → List Held → List Round → Type 0
AreHonestRounds history token_at lists [] = Unit {0}
AreHonestRounds history token_at lists (round ∷ rounds) =
    IsNaming history token_at × IsHonest history token_at lists (map round_updates (round ∷ rounds))
    × HasNoCollision history (candidates_of lists (map round_updates (round ∷ rounds)))
