use Rattle.std.proofs.Common.{◌≡◌, map, take}
use Rattle.url_checker.specs.Resolving.{looked_up_pairs}
use Rattle.url_checker.specs.Looking.{looked_of}
use Rattle.url_checker.proofs.looking.look_up_each.Given as goal

abbrev pub invariant-loop-hit : goal.invariant-loop-hit
invariant-loop-hit l = record {
  looked : l.looked ≡ map (looked_of l.fn.cache l.now) (take l.hit-index l.hits);
  pairs : l.cache ≡ looked_up_pairs l.fn.cache (take l.hit-index l.hits);
}
