use Rattle.std.proofs.Common.{◌≡◌, take}
use Rattle.std.specs.Prelude.{◌==◌, filter}
use Rattle.std.specs.List.{list_any}
use Rattle.sb_model.specs.Names.{platform_code}
use Rattle.url_checker.specs.declared.findings.Hit.{Hit}
use Rattle.url_checker.proofs.request.platforms_of.Given as goal

abbrev pub invariant-loop-one : goal.invariant-loop-one
invariant-loop-one l = l.row ≡ filter (λ one. list_any (λ (hit : Hit). platform_code hit.list.platform == platform_code one) l.hits) (take l.one-index l.one-items)
