-- A mirror in its run and what stands outside it, by their parts.
use Rattle.std.proofs.Common.{◌≡◌, ℕ, List, Bool, Option}
use Rattle.client_line.specs.Lines.{LineView}
use Rattle.mirror_connections.specs.Open.{ConnectionsSeen}
use Rattle.mirror_connections.specs.Over.{door_seen}
use Rattle.sb_outside.specs.declared.doors.Connection.{Connection}
use Rattle.mirror_finds.specs.Finds.{FindsSeen}
use Rattle.mirror_rounds.specs.Rounds.{MirrorSeen}
use Rattle.mirror_run.specs.SoFar.{MirrorOutside, MirrorOwn}
use Rattle.mirror_run.specs.declared.stop.MirrorStop.{MirrorStop}
use Rattle.mirror_places.specs.Places.{Places}
use Rattle.mirror_serving.specs.Response.{MirrorServed}
use Rattle.mirror_serving.specs.declared.fate.FindFate.{FindFate}
use Rattle.sb_model.specs.declared.time.Moment.{Moment}
use Rattle.update_run.specs.Saved.{keeping}

abbrev pub own_of : MirrorSeen → FindsSeen → ConnectionsSeen → ℕ → Bool → Bool → Option MirrorStop → MirrorOwn
own_of rounds finds connections wait answered no_more stop =
    record { rounds = rounds; finds = finds; connections = connections; wait = wait; answered = answered; no_more = no_more; stop = stop }

abbrev pub outside_of : (updates finds : LineView) → Option (List (List ℕ)) → Option (Option (List ℕ)) → Option (List ℕ) → Option (List Moment) → Option (List Connection) → Option (List (List (List ℕ)))
    → (output keeper door : ℕ) → MirrorOutside
outside_of updates finds handed kept output readings log coming outs keeps doors = record {
  updates = updates;
  finds = finds;
  keeper = keeping handed kept;
  output = output;
  readings = readings;
  door = door_seen log coming;
  faults = record { output = outs; keeper = keeps; door = doors };
}

abbrev pub served_by : Places → ℕ → FindFate → MirrorServed
served_by places wait fate = record { places = places; wait = wait; fate = fate }

-- what was loaded and written leaves all else as it was
pub outside_same : (updates finds : LineView) (handed handed' : Option (List (List ℕ))) (kept kept' : Option (Option (List ℕ))) (output output' : Option (List ℕ)) (readings : Option (List Moment)) (log : Option (List Connection))
    (coming : Option (List (List (List ℕ)))) (outs outs' keeps keeps' doors : ℕ) → handed' ≡ handed → kept' ≡ kept → output' ≡ output → outs' ≡ outs → keeps' ≡ keeps
    → outside_of updates finds handed' kept' output' readings log coming outs' keeps' doors ≡ outside_of updates finds handed kept output readings log coming outs keeps doors
outside_same updates finds handed handed' kept kept' output output' readings log coming outs outs' keeps keeps' doors h k o n m = cc
