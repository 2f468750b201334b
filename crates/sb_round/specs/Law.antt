-- The law of replicas.
use Rattle.std.specs.Prelude.{ℕ, List, take}
use Rattle.sb_model.specs.History.{History, IsWellFormed}
use Rattle.sb_model.specs.Naming.{Naming, IsNaming}
use Rattle.update_messages.specs.Messages.{UpdatedList}
use Rattle.update_client.specs.Held.{Held}
use Rattle.update_client.specs.Replica.{AreReplicas}
use Rattle.sb_round.specs.Run.{lists_after}
use Rattle.sb_round.specs.Honest.{IsHonest}
use Rattle.sb_round.specs.Collision.{candidates_of, HasNoCollision}

-- Whatever the server's changes and however it names its versions: from lists that are replicas of its own, through any
-- number of honest bodies, each list is the server's at the version that its token names, or is empty without a token.
abbrev pub KeepsReplicas : List Held → List (List UpdatedList) → Type 0
KeepsReplicas lists bodies =
    (history : History) (token_at : Naming)
    → IsWellFormed history
    → IsNaming history token_at
    → AreReplicas history token_at lists
    → IsHonest history token_at lists bodies
    → HasNoCollision history (candidates_of lists bodies)
    → (count : ℕ) → AreReplicas history token_at (lists_after lists (take count bodies))
