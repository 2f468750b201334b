-- Publications that are replicas, each of them.
use Rattle.std.proofs.Common.{List, [], ◌∷◌}
use Rattle.std.specs.Prelude.{All}
use Rattle.std.proofs.lemmas.List.Elements.{All-head, All-tail}
use Rattle.sb_model.specs.History.{History}
use Rattle.sb_model.specs.Naming.{Naming}
use Rattle.sb_model.specs.declared.names.ListName.{ListName}
use Rattle.snapshot_publish.specs.Publications.{Publications}
use Rattle.client_laws.specs.Replicas.{AreReplicasOf}
use Rattle.client_laws.specs.Reports.{ArePublishedReplicas}

pub are_published : (history : History) (token_at : Naming) (names : List ListName) (published : Publications) → All (AreReplicasOf history token_at names) published → ArePublishedReplicas history token_at published
are_published history token_at names [] each = tt
are_published history token_at names (lists ∷ more) each =
    ((All-head (AreReplicasOf history token_at names) lists more each).replicas, are_published history token_at names more (All-tail (AreReplicasOf history token_at names) lists more each))
