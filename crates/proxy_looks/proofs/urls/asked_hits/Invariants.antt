use Rattle.std.proofs.Common.{◌≡◌, take, filter}
use Rattle.lookup_messages.specs.Lookups.{looks_up_list}
use Rattle.url_checker.specs.declared.findings.Hit.{Hit}
use Rattle.proxy_looks.proofs.urls.asked_hits.Given as goal

abbrev pub invariant-loop-hit : goal.invariant-loop-hit
invariant-loop-hit l = l.asked ≡ filter (λ (hit : Hit). looks_up_list l.request hit.list) (take l.hit-index l.hits)
