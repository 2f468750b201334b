-- Checks of URLs beside rounds that publish.
use Rattle.std.specs.Prelude.{◌≡◌, ◌⊎◌, Bool}
use Rattle.snapshot_publish.specs.Publications.{Publications}
use Rattle.parallel_checks.specs.Checks.{AreChecks, GoOn}
use Rattle.update_run.specs.Run.{Seen}
use Rattle.update_run.specs.declared.client.Client.{Client}
use Rattle.update_run.specs.declared.plan.Plan.{Plan}
use Rattle.update_run.specs.declared.stop.RunStop.{RunStop}
use Rattle.update_run.specs.declared.stop.RunStop.TheVariants as stop
use Rattle.judge_run.specs.Rounds.{PublishesAllRounds, StopsPublishing}
use Rattle.judge_run.specs.declared.updater.UncheckedUrls.{UncheckedUrls}
use Rattle.judge_run.specs.declared.updater.CheckedUrls.{CheckedUrls}

-- All rounds of a plan were made and published, and each URL was checked on a publication that its seat then knew.
pub record ChecksBeside (plan : Plan) (client client' : Client) (published published' : Publications) (unchecked : UncheckedUrls) (checked : CheckedUrls) (before after : Seen) : Type 0 where
  pub publishes : PublishesAllRounds plan client client' published published' before after checked.refused
  pub go_on : GoOn unchecked.seats checked.run.seats
  pub urls : checked.urls ≡ unchecked.urls
  pub are : AreChecks checked.run.seats checked.urls checked.run.checks

-- All rounds of a plan were made and published, and memory was refused for the checks.
pub record StopsAtChecks (why : RunStop) (plan : Plan) (client client' : Client) (published published' : Publications) (before after : Seen) : Type 0 where
  pub memory : why ≡ stop.OutOfMemory
  pub refused : Bool
  pub publishes : PublishesAllRounds plan client client' published published' before after refused

-- It stopped in the rounds, or for want of memory after them.
abbrev pub StopsBeside : RunStop → Plan → (client client' : Client) → (published published' : Publications) → (before after : Seen) → Type 0
StopsBeside why plan client client' published published' before after =
    StopsPublishing why plan client before after ⊎ StopsAtChecks why plan client client' published published' before after
