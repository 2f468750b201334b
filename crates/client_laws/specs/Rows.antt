-- Runs in a row: each begins with what the one before it left with the keeper, whether it came to its end or stopped.
use Rattle.std.specs.Prelude.{◌≡◌, ℕ, Bool, true, false, List, [], ◌∷◌, Option, IfSome, Ok, Err}
use Rattle.sb_model.specs.History.{History}
use Rattle.sb_model.specs.Naming.{Naming}
use Rattle.client_laws.specs.Met.{HasTakenBodies, MeetsServer, MeetsHonest}
use Rattle.client_laws.specs.Replicas.{HandsReplicas, KeepsSafely, TellsReplicas, IsKeptSafely}
use Rattle.update_run.specs.Run.{Seen, RunEnding, EndsRun}
use Rattle.update_run.specs.declared.plan.Plan.{Plan}
use Rattle.update_run.specs.declared.stop.RunStop.TheVariants as stop

-- whether a run may have a session whose body was not taken: where memory was refused
abbrev pub lacks_memory : RunEnding → Bool
lacks_memory (Ok refused) = false
lacks_memory (Err stop.OutOfMemory) = true
lacks_memory (Err why) = false

-- what a run tells where it came to its end
abbrev pub TellsAtEnd : History → Naming → Plan → RunEnding → (before after : Seen) → Type 0
TellsAtEnd history token_at plan (Ok refused) before after = TellsReplicas history token_at plan before after
TellsAtEnd history token_at plan (Err why) before after = Unit {0}

-- The headline of one run.
pub record HoldsReplicas (history : History) (token_at : Naming) (plan : Plan) (ending : RunEnding) (before after : Seen) : Type 0 where
  pub hands : HandsReplicas history token_at plan before after
  pub keeps : KeepsSafely history token_at before after
  pub tells : TellsAtEnd history token_at plan ending before after

-- Where those of its bodies that were taken are honest, the headline holds of a run.
pub record IsHeadline (plan : Plan) (ending : RunEnding) (before after : Seen) : Type 0 where
  pub taken : ℕ
  pub some : HasTakenBodies (lacks_memory ending) before.outside.log after.outside.log taken
  pub holds : (history : History) (token_at : Naming) → MeetsHonest history token_at plan taken before after
      → HoldsReplicas history token_at plan ending before after

-- A run: what it was to do, how it ended, and what was seen before and after it.
pub record RunSeen : Type 0 where
  pub plan : Plan
  pub ending : RunEnding
  pub before : Seen
  pub after : Seen

-- Each is a run, and begins with what the keeper kept at the end of the one before it.
abbrev pub AreInRow : Option (Option (List ℕ)) → List RunSeen → Type 0
AreInRow kept [] = Unit {0}
AreInRow kept (run ∷ runs) =
    (run.before.keeper.kept ≡ kept) × EndsRun run.plan run.ending run.before run.after × AreInRow run.after.keeper.kept runs

-- The headline of a run in a row, and what is kept at its end is kept safely.
pub record HoldsOfOne (history : History) (token_at : Naming) (run : RunSeen) : Type 0 where
  pub headline : HoldsReplicas history token_at run.plan run.ending run.before run.after
  pub kept : IfSome run.after.keeper.kept (IsKeptSafely history token_at)

-- The headline of runs in a row: where those of its bodies that were taken are honest, it holds of the first, and then of those after it. A run
-- that no honest server met ends what is said.
abbrev pub HoldsInRow : History → Naming → List RunSeen → Type 0
HoldsInRow history token_at [] = Unit {0}
HoldsInRow history token_at (run ∷ runs) =
    (taken : ℕ) × HasTakenBodies (lacks_memory run.ending) run.before.outside.log run.after.outside.log taken
    × (MeetsServer history token_at run.plan taken run.before run.after → HoldsOfOne history token_at run × HoldsInRow history token_at runs)
