use Rattle.std.proofs.Common.{◌≡◌, ◌≢◌, ◌∙◌, ◌<◌, length, ◌^◌, ap, subst, List, get_or, refl, arith, get_or-set_other}
use Rattle.sb_model.specs.declared.history.Added.{Added}
use Rattle.sb_model.specs.History.{after_change}
use Rattle.list_versions.specs.Draft.{AppliesLines}
use Rattle.list_versions.specs.Live.{Holds, KeepsEnds}
use Rattle.list_versions.specs.declared.draft.Listed.{Listed}
use Rattle.std.proofs.lemmas.Grind.{common_steps}
use Rattle.list_versions.proofs.Applying.{around_set, below_set, declared_set, applied_more, length_set}
use Rattle.list_versions.proofs.lists.apply_each.Goals as goal

pub returns-in_err-apply_to-clause-names : goal.returns-in_err-apply_to-clause-names
returns-in_err-apply_to-clause-names c =
    let lt : c.loop-i.i < length c.loop-i.lists.items = grind (arith, common_steps, c.loop-i.invariant.long) in
    let d = c.index_mut.result.now in
    let is : d ≡ get_or c.loop-i.lists.items c.loop-i.i d = c.index_mut.ensures.value in
    let name = c.apply_to.ensures.name ∙ ap (λ (l : Listed). l.name) is in
    let size = c.apply_to.ensures.size ∙ ap (λ (l : Listed). l.size) is in
    declared_set c.loop-i.lists.items c.loop-i.i c.apply_to.new.listed d lt name size ∙ c.loop-i.invariant.names

pub loop-i-preserved : goal.loop-i-preserved
loop-i-preserved c =
    let lt : c.loop-i.i < length c.loop-i.lists.items = grind (arith, common_steps, c.loop-i.invariant.long) in
    let d = c.index_mut.result.now in
    let is : d ≡ get_or c.loop-i.lists.items c.loop-i.i d = c.index_mut.ensures.value in
    let name = c.apply_to.ensures.name ∙ ap (λ (l : Listed). l.name) is in
    let size = c.apply_to.ensures.size ∙ ap (λ (l : Listed). l.size) is in record {
      names = declared_set c.loop-i.lists.items c.loop-i.i c.apply_to.new.listed d lt name size ∙ c.loop-i.invariant.names;
      long = length_set c.loop-i.lists.items c.loop-i.i c.apply_to.new.listed ∙ c.loop-i.invariant.long;
      same = λ k d h. let ne : k ≢ c.loop-i.i = omega arith in rw get_or-set_other (c.loop-i.invariant.same k d (omega arith));
      held = λ sizes small few all.
          applied_more c.args.change.now sizes c.loop-i.lists.items c.args.lists.now.items c.loop-i.i c.apply_to.new.listed d lt (omega (arith, lt, c.loop-i.invariant.long)) c.loop-i.invariant.same name (subst (λ (l : Listed). (entries : List Added) → length entries < 2 ^ 32 → length c.args.change.now.adds < 2 ^ 32 → Holds l.live entries → Holds c.apply_to.new.listed.live (after_change l.name entries c.args.change.now)) is c.in_ok-apply_to.ensures.held) small few all
          (c.loop-i.invariant.held sizes small few all);
      placed = below_set (AppliesLines c.args.version c.args.change.now) c.loop-i.lists.items c.args.lists.now.items c.loop-i.i c.apply_to.new.listed d lt c.loop-i.invariant.same
          (subst (λ (l : Listed). AppliesLines c.args.version c.args.change.now l c.apply_to.new.listed) is c.in_ok-apply_to.ensures.placed) c.loop-i.invariant.placed;
      kept = below_set (λ (before after : Listed). KeepsEnds c.args.version (length c.args.change.now.adds) before.live after.live) c.loop-i.lists.items c.args.lists.now.items c.loop-i.i c.apply_to.new.listed d lt
          c.loop-i.invariant.same (subst (λ (l : Listed). KeepsEnds c.args.version (length c.args.change.now.adds) l.live c.apply_to.new.listed.live) is c.apply_to.ensures.kept) c.loop-i.invariant.kept;
    }

pub returns-in_err-apply_to-clause-kept : goal.returns-in_err-apply_to-clause-kept
returns-in_err-apply_to-clause-kept c k e h =
    let lt : c.loop-i.i < length c.loop-i.lists.items = grind (arith, common_steps, c.loop-i.invariant.long) in
    let d = c.index_mut.result.now in
    let is : d ≡ get_or c.loop-i.lists.items c.loop-i.i d = c.index_mut.ensures.value in
    around_set (λ (before after : Listed). KeepsEnds c.args.version (length c.args.change.now.adds) before.live after.live) c.loop-i.lists.items c.args.lists.now.items c.loop-i.i c.apply_to.new.listed d
    (λ l lines placed few earlier count less within. refl) lt c.loop-i.invariant.same
    (subst (λ (l : Listed). KeepsEnds c.args.version (length c.args.change.now.adds) l.live c.apply_to.new.listed.live) is c.apply_to.ensures.kept) c.loop-i.invariant.kept k e

pub returns-clause-kept : goal.returns-clause-kept
returns-clause-kept c k e h = c.loop-i.invariant.kept k e (omega (arith, h, c.loop-i-test.false, c.len-i-end.ensures))
