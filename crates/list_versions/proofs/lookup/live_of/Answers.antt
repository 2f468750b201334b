use Rattle.std.proofs.Common.{sym, subst, ◌∙◌}
use Rattle.sb_model.specs.declared.names.ListName.{ListName}
use Rattle.list_versions.specs.Live.{Holds, HasPlaced, HasRead}
use Rattle.list_versions.specs.declared.draft.Listed.{Listed}
use Rattle.list_versions.proofs.NameCodes.{names_same}
use Rattle.list_versions.proofs.lookup.live_of.Goals as goal

pub returns-then-same-clause-found : goal.returns-then-same-clause-found
returns-then-same-clause-found c sizes all =
    let here = subst (λ (list : Listed). Holds list.live (sizes list.name)) (sym c.listed-item.is) (all c.loop-listed.listed-index c.listed-item.result c.loop-listed-test.true) in
    let name = names_same c.listed-item.result.name c.args.name (sym c.same.ensures ∙ c.if-same.true) in
    subst (λ (n : ListName). Holds c.listed-item.result.live (sizes n)) name here

pub returns-then-same-clause-read : goal.returns-then-same-clause-read
returns-then-same-clause-read c changes all =
    let here = subst (λ (list : Listed). HasRead list.name changes list.live) (sym c.listed-item.is) (all c.loop-listed.listed-index c.listed-item.result c.loop-listed-test.true) in
    let name = names_same c.listed-item.result.name c.args.name (sym c.same.ensures ∙ c.if-same.true) in
    subst (λ (n : ListName). HasRead n changes c.listed-item.result.live) name here

pub returns-then-same-clause-placed : goal.returns-then-same-clause-placed
returns-then-same-clause-placed c changes all =
    let here = subst (λ (list : Listed). HasPlaced list.name changes list.live) (sym c.listed-item.is) (all c.loop-listed.listed-index c.listed-item.result c.loop-listed-test.true) in
    let name = names_same c.listed-item.result.name c.args.name (sym c.same.ensures ∙ c.if-same.true) in
    subst (λ (n : ListName). HasPlaced n changes c.listed-item.result.live) name here
