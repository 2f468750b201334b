-- What is said of a run where it met an honest server.
use Rattle.std.specs.Prelude.{ℕ, ◌==◌}
use Rattle.sb_model.specs.History.{History}
use Rattle.sb_model.specs.Naming.{Naming}
use Rattle.client_laws.specs.Met.{HasTakenBodies, MeetsHonest}
use Rattle.client_laws.specs.Replicas.{KeepsSafely}
use Rattle.update_run.specs.Run.{Seen}
use Rattle.update_run.specs.declared.plan.Plan.{Plan}

-- So many of the bodies that the log's sessions brought were taken: all, or with the status 8 all but perhaps the last. If these are
-- honest, and the run began with replicas, this holds.
pub record HoldsWhereHonest (plan : Plan) (status : ℕ) (before after : Seen) (Claim : History → Naming → Plan → Seen → Seen → Type 0) : Type 0 where
  pub taken : ℕ
  pub some : HasTakenBodies (status == 8) before.outside.log after.outside.log taken
  pub holds : (history : History) (token_at : Naming) → MeetsHonest history token_at plan taken before after → Claim history token_at plan before after

-- The keeper keeps what it kept before, or no store, or one that reads as replicas.
abbrev pub KeepsStores : History → Naming → Plan → (before after : Seen) → Type 0
KeepsStores history token_at plan before after = KeepsSafely history token_at before after
