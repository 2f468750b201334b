use Rattle.std.proofs.Common.{◌≡◌, take}
use Rattle.delta_server.specs.Finding.{matches_among}
use Rattle.delta_server.proofs.finding.matches_of.Given as goal

abbrev pub invariant-loop-name : goal.invariant-loop-name
invariant-loop-name l = l.matches ≡ matches_among l.history.versions l.cache l.request (take l.name-index l.name-items)
