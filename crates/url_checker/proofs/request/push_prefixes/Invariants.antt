use Rattle.std.proofs.Common.{◌≡◌, ◌++◌, map, take}
use Rattle.url_checker.specs.declared.findings.Hit.{Hit}
use Rattle.url_checker.proofs.request.push_prefixes.Given as goal

abbrev pub invariant-loop-hit : goal.invariant-loop-hit
invariant-loop-hit l = l.prefixes ≡ l.initial.prefixes ++ map (λ (hit : Hit). hit.prefix) (take l.hit-index l.hits)
