use Rattle.std.proofs.Common.{◌≡◌, false, filter, take}
use Rattle.std.specs.List.{list_any}
use Rattle.std.specs.Option.{option_map_or}
use Rattle.answering_lists.specs.Lists.{answering}
use Rattle.sb_lookup.specs.Lookups.{is_listed}
use Rattle.sb_lookup.proofs.answering.names_with.Given as goal

abbrev pub invariant-loop-name : goal.invariant-loop-name
invariant-loop-name l =
    l.found ≡ filter (λ name. option_map_or (λ list. list_any (is_listed l.history.versions list) l.hashes) (answering l.history.versions name) false) (take l.name-index l.names)
