use Rattle.std.proofs.Common.{◌≡◌, [], Ok, subst}
use Rattle.list_versions.specs.Journal.{Kept, read_on}
use Rattle.list_versions.proofs.Further.{read_nothing}
use Rattle.list_versions.proofs.history.History.rest_len.Goals as goal

pub returns-clause-waits : goal.returns-clause-waits
returns-clause-waits c =
    subst (λ (k : Kept). read_on k [] ≡ Ok k) c.self.view_is (read_nothing c.self.inside.draft c.self.inside.rest c.self.invariant.waits)
