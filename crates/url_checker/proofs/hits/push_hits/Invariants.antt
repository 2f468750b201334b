use Rattle.std.proofs.Common.{◌≡◌, ◌++◌}
use Rattle.url_checker.specs.Hits.{hits_at}
use Rattle.url_checker.proofs.HitFacts.{sizes_below}
use Rattle.url_checker.proofs.hits.push_hits.Given as goal

abbrev pub invariant-loop-size : goal.invariant-loop-size
invariant-loop-size l = l.hits ≡ l.fn.hits ++ hits_at l.held l.hash (sizes_below l.size)
