use Rattle.std.proofs.Common.{◌≡◌, take}
use Rattle.sb_model.specs.Difference.{removed_places}
use Rattle.list_versions.specs.Quads.{quads_of}
use Rattle.list_versions.proofs.QuadRows.{TellsRest}
use Rattle.list_versions.proofs.quads.places_lost.Given as goal

abbrev pub invariant-loop-i : goal.invariant-loop-i
invariant-loop-i l = record {
  places : l.places ≡ removed_places (take l.i (quads_of l.older)) (quads_of l.newer);
  tells : TellsRest (take l.i l.older) l.newer l.rest;
}
