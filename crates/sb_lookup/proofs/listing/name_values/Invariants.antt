use Rattle.std.proofs.Common.{◌≡◌, take, map}
use Rattle.serde_json.specs.View.{view}
use Rattle.sb_lookup.specs.Lookups.{name_written}
use Rattle.sb_lookup.proofs.listing.name_values.Given as goal

abbrev pub invariant-loop-name : goal.invariant-loop-name
invariant-loop-name l = map view l.values.items ≡ map name_written (take l.name-index l.names)
