use Rattle.std.proofs.Common.{◌≡◌, ◌≢◌, ◌∙◌, ◌<◌, length, ap, sym, arith, get_or, set, get_or-set_other, subst, List}
use Rattle.std.proofs.lemmas.Grind.{common_steps}
use Rattle.list_versions.specs.Folding.{after_changes}
use Rattle.list_versions.specs.Live.{Holds, HasPlaced, HasRead}
use Rattle.list_versions.specs.declared.draft.Listed.{Listed}
use Rattle.list_versions.proofs.Applying.{declared_set, length_set}
use Rattle.list_versions.proofs.Folds.{placed_more, read_so_far, refreshed_more, set_same}
use Rattle.list_versions.proofs.refreshing.refresh_lists.Goals as goal

pub returns-in_err-refresh_list-clause-names : goal.returns-in_err-refresh_list-clause-names
returns-in_err-refresh_list-clause-names c =
    let lt : c.loop-i.i < length c.loop-i.lists.items = grind (arith, common_steps, c.loop-i.invariant.long) in
    let d = c.index_mut.result.now in
    let is : d ≡ get_or c.loop-i.lists.items c.loop-i.i d = c.index_mut.ensures.value in
    let name = c.refresh_list.ensures.name ∙ ap (λ (l : Listed). l.name) is in
    let size = c.refresh_list.ensures.size ∙ ap (λ (l : Listed). l.size) is in
    declared_set c.loop-i.lists.items c.loop-i.i c.refresh_list.new.listed d lt name size ∙ c.loop-i.invariant.names

pub loop-i-preserved : goal.loop-i-preserved
loop-i-preserved c =
    let lt : c.loop-i.i < length c.loop-i.lists.items = grind (arith, common_steps, c.loop-i.invariant.long) in
    let d = c.index_mut.result.now in
    let is : d ≡ get_or c.loop-i.lists.items c.loop-i.i d = c.index_mut.ensures.value in
    let name = c.refresh_list.ensures.name ∙ ap (λ (l : Listed). l.name) is in
    let size = c.refresh_list.ensures.size ∙ ap (λ (l : Listed). l.size) is in
    let holds = subst (λ (l : Listed). Holds c.refresh_list.new.listed.live (after_changes l.name c.args.changes.now)) is c.in_ok-refresh_list.ensures.held in record {
      names = declared_set c.loop-i.lists.items c.loop-i.i c.refresh_list.new.listed d lt name size ∙ c.loop-i.invariant.names;
      long = length_set c.loop-i.lists.items c.loop-i.i c.refresh_list.new.listed ∙ c.loop-i.invariant.long;
      same = λ k e h. let ne : k ≢ c.loop-i.i = omega arith in rw get_or-set_other (c.loop-i.invariant.same k e (omega arith));
      held = refreshed_more c.args.changes.now c.loop-i.lists.items c.loop-i.i c.refresh_list.new.listed d lt name holds c.loop-i.invariant.held;
      placed = placed_more c.args.changes.now c.loop-i.lists.items c.loop-i.i c.refresh_list.new.listed d lt name
          (subst (λ (l : Listed). HasPlaced l.name c.args.changes.now c.refresh_list.new.listed.live) is c.in_ok-refresh_list.ensures.placed) c.loop-i.invariant.placed;
    }

pub returns-in_err-refresh_list-clause-read : goal.returns-in_err-refresh_list-clause-read
returns-in_err-refresh_list-clause-read c = λ all k e h.
    let lt : c.loop-i.i < length c.loop-i.lists.items = grind (arith, common_steps, c.loop-i.invariant.long) in
    let is = c.index_mut.ensures.value in
    let same = c.in_err-refresh_list.ensures.same ∙ is in
    subst (λ (ls : List Listed). HasRead (get_or ls k e).name c.args.changes.now (get_or ls k e).live) (sym (ap (set c.loop-i.lists.items c.loop-i.i) same ∙ set_same c.loop-i.lists.items c.loop-i.i c.index_mut.result.now lt))
    (read_so_far c.args.changes.now c.loop-i.lists.items c.args.lists.now.items c.loop-i.i c.loop-i.invariant.long c.loop-i.invariant.same c.loop-i.invariant.placed all k e
    (omega (arith, h, length_set c.loop-i.lists.items c.loop-i.i c.refresh_list.new.listed)))

pub returns-clause-read : goal.returns-clause-read
returns-clause-read c = λ all. read_so_far c.args.changes.now c.loop-i.lists.items c.args.lists.now.items c.loop-i.i c.loop-i.invariant.long c.loop-i.invariant.same c.loop-i.invariant.placed all
