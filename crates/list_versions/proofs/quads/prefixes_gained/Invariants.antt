use Rattle.std.proofs.Common.{◌≡◌, take}
use Rattle.sb_model.specs.Difference.{added_members}
use Rattle.list_versions.specs.Quads.{quads_of}
use Rattle.list_versions.proofs.QuadRows.{TellsRest}
use Rattle.list_versions.proofs.quads.prefixes_gained.Given as goal

abbrev pub invariant-loop-number : goal.invariant-loop-number
invariant-loop-number l = record {
  prefixes : l.prefixes ≡ added_members (quads_of l.older) (take l.number-index (quads_of l.newer));
  tells : TellsRest (take l.number-index l.newer) l.older l.rest;
}
