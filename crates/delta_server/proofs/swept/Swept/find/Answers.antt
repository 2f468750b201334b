use Rattle.std.proofs.Common.{◌≡◌, ◌∙◌, List, sym, subst}
use Rattle.std.specs.Prelude.{All}
use Rattle.sb_model.specs.declared.names.ListName.{ListName}
use Rattle.list_versions.specs.declared.stretch.Stretch.{Stretch}
use Rattle.list_versions.specs.Stretches.{AreStretches}
use Rattle.delta_server.specs.declared.swept.SweptList.{SweptList}
use Rattle.delta_server.proofs.swept.Swept.find.Goals as goal

pub returns-then-is_list : goal.returns-then-is_list
returns-then-is_list c = λ versions are.
    let swept : SweptList = c.swept-item.result in
    let all : All (λ (list : SweptList). AreStretches versions list.name list.stretches.items) c.deref-swept-items.result.now =
    subst (λ (lists : List SweptList). All (λ (list : SweptList). AreStretches versions list.name list.stretches.items) lists) (sym c.deref-swept-items.ensures.value) are in
    let own : AreStretches versions swept.name swept.stretches.items =
    subst (λ (list : SweptList). AreStretches versions list.name list.stretches.items) (sym c.swept-item.is) (all c.loop-swept.swept-index swept c.loop-swept-test.true) in
    let same : swept.name ≡ c.args.list = (c.names_go_by_their_codes.ensures.same swept.name c.args.list).0 (sym c.is_list.ensures ∙ c.if-is_list.true) in
    subst (λ (list : ListName). AreStretches versions list c.as_slice.result.now) same
    (subst (λ (stretches : List Stretch). AreStretches versions swept.name stretches) (sym c.as_slice.ensures.value) own)
