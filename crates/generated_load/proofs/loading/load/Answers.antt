use Rattle.std.proofs.Common.{◌≡◌, ◌∙◌, false, sym}
use Rattle.list_versions.specs.Written.{wholly}
use Rattle.generated_load.specs.declared.fault.ExerciseFault.TheVariants as exercise
use Rattle.generated_load.specs.Generated.{generated}
use Rattle.generated_load.proofs.Loads.{loaded, past}
use Rattle.generated_load.proofs.loading.load.Goals as goal

pub returns-in-Ok-clause-loaded : goal.returns-in-Ok-clause-loaded
returns-in-Ok-clause-loaded c = λ room.
    let history = generated c.args.count c.args.seed in
    let reads = c.in_ok-text.ensures.reads room in
    let outcome = c.in-Ok.ensures.outcome in
    loaded c.in_ok-text.text outcome.0 outcome.1 c.in_ok-source.source.left _ c.in-Ok.history history c.in_ok-source.ensures reads outcome.2 outcome.3

pub returns-clause-past : goal.returns-clause-past
returns-clause-past c = λ e room.
    let history = generated c.args.count c.args.seed in
    let reads = c.in_ok-text.ensures.reads room in
    let outcome = c.in-Err.ensures.outcome in
    let is : c.fault_of.result ≡ exercise.PastLimits = cc in
    past c.in-Err.fault c.in_ok-text.text outcome.0 outcome.1 c.in_ok-source.source.left _ (wholly false history) c.in_ok-source.ensures reads outcome.2 outcome.3
    (sym c.fault_of.ensures ∙ is)
