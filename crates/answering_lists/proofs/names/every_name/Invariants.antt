use Rattle.std.proofs.Common.{◌≡◌, take}
use Rattle.std.specs.List.{flat_map}
use Rattle.sb_model.specs.Names.{threats}
use Rattle.delta_server.specs.Finding.{names_of_threat}
use Rattle.answering_lists.proofs.names.every_name.Given as goal

abbrev pub invariant-loop-threat : goal.invariant-loop-threat
invariant-loop-threat l = l.names ≡ flat_map names_of_threat (take l.threat-index threats)
