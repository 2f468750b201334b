-- A proxy in its run and what stands outside it, by their parts.
use Rattle.std.proofs.Common.{◌≡◌, ℕ, List, Bool, Option}
use Rattle.client_line.specs.Lines.{LineView}
use Rattle.client_rounds.specs.Rounds.{ClientSeen}
use Rattle.held_connections.specs.Over.{door_view}
use Rattle.proxy_run.specs.LookSoFar.{LookOutside, LookOwn}
use Rattle.proxy_run.specs.SoFar.{ProxyOutside, ProxyOwn}
use Rattle.sb_model.specs.declared.time.Moment.{Moment}
use Rattle.sb_outside.specs.declared.doors.Connection.{Connection}
use Rattle.update_run.specs.Saved.{keeping}

abbrev pub own_of : ClientSeen → List Bool → LookOwn → Bool → ProxyOwn
own_of rounds marks looks no_more = record { rounds = rounds; marks = marks; looks = looks; no_more = no_more }

abbrev pub looks_outside : LineView → Option (List ℕ) → Option (List Connection) → Option (List (List (List ℕ))) → (outs doors : ℕ) → LookOutside
looks_outside finds output log coming outs doors = record { finds = finds; output = output; door = door_view log coming; output_faults = outs; door_faults = doors }

abbrev pub outside_of : LineView → Option (List (List ℕ)) → Option (Option (List ℕ)) → ℕ → Option (List Moment) → LookOutside → ProxyOutside
outside_of updates handed kept keeps readings looks = record { updates = updates; keeper = keeping handed kept; keeper_faults = keeps; readings = readings; looks = looks }

-- what was loaded and written leaves all else as it was
pub outside_same : (updates finds : LineView) (handed handed' : Option (List (List ℕ))) (kept kept' : Option (Option (List ℕ))) (output output' : Option (List ℕ)) (readings : Option (List Moment)) (log : Option (List Connection))
    (coming : Option (List (List (List ℕ)))) (outs outs' keeps keeps' doors : ℕ) → handed' ≡ handed → kept' ≡ kept → output' ≡ output → outs' ≡ outs → keeps' ≡ keeps
    → outside_of updates handed' kept' keeps' readings (looks_outside finds output' log coming outs' doors) ≡ outside_of updates handed kept keeps readings (looks_outside finds output log coming outs doors)
outside_same updates finds handed handed' kept kept' output output' readings log coming outs outs' keeps keeps' doors h k o n m = cc
