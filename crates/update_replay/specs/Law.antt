-- The law of replays: of honest bodies a replay prints replicas.
use Rattle.std.specs.Prelude.{◌≡◌, ℕ, Bool, List, Option, Some}
use Rattle.sb_model.specs.declared.names.ListName.{ListName}
use Rattle.sb_model.specs.History.{History, IsWellFormed}
use Rattle.sb_model.specs.Naming.{Naming, IsNaming}
use Rattle.sb_outside.specs.Outside.{next_piece}
use Rattle.update_client.specs.Held.{nothing_held_of}
use Rattle.sb_round.specs.Collision.{candidates_of, HasNoCollision}
use Rattle.sb_round.specs.Honest.{IsHonest}
use Rattle.input_lines.specs.Lines.{lines_of}
use Rattle.update_replay.specs.Readings.{ResponseReading, AreReadings, bodies_of}
use Rattle.update_replay.specs.Replay.{IsPrinted, PrintsReplicas}

-- Where the bodies that the source tells are honest and no digest collides, each list that a replay prints is the server's at
-- the version that its token names, or is empty without a token.
abbrev pub PrintsReplicasAlone : Type 0
PrintsReplicasAlone = (names : List ListName) (refused : Bool) (left left' : Option (List (List ℕ))) (held held' : Option (List ℕ))
    → IsPrinted names refused left left' held held'
    → (pieces : List (List ℕ)) (readings : List ResponseReading) (history : History) (token_at : Naming)
    → left ≡ Some pieces → AreReadings (lines_of (next_piece pieces)) readings
    → IsWellFormed history → IsNaming history token_at
    → IsHonest history token_at (nothing_held_of names) (bodies_of readings)
    → HasNoCollision history (candidates_of (nothing_held_of names) (bodies_of readings))
    → PrintsReplicas history token_at names readings held held'
