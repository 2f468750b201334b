use Rattle.std.proofs.Common.{◌≡◌, ◌≢◌, ◌∙◌, ◌<◌, min, length, get_or, ap, arith, get_or-set_other}
use Rattle.std.proofs.lemmas.Grind.{common_steps}
use Rattle.list_versions.specs.Ends.{adds_of, most_lines, restored}
use Rattle.list_versions.specs.declared.draft.Listed.{Listed}
use Rattle.list_versions.proofs.Applying.{below_set, declared_set, length_set}
use Rattle.list_versions.proofs.lists.restore_each.Goals as goal

pub loop-i-preserved : goal.loop-i-preserved
loop-i-preserved c =
    let lt : c.loop-i.i < length c.loop-i.lists.items = grind (arith, common_steps, c.loop-i.invariant.long) in
    let d = c.index_mut.result.now in
    let is : d ≡ get_or c.loop-i.lists.items c.loop-i.i d = c.index_mut.ensures.value in
    let name = c.restore_list.ensures.name ∙ ap (λ (l : Listed). l.name) is in
    let size = c.restore_list.ensures.size ∙ ap (λ (l : Listed). l.size) is in record {
      declared = declared_set c.loop-i.lists.items c.loop-i.i c.restore_list.new.listed d lt name size ∙ c.loop-i.invariant.declared;
      long = length_set c.loop-i.lists.items c.loop-i.i c.restore_list.new.listed ∙ c.loop-i.invariant.long;
      same = λ k e h. let ne : k ≢ c.loop-i.i = omega arith in rw get_or-set_other (c.loop-i.invariant.same k e (omega arith));
      ends = below_set (λ (before after : Listed). after.live.ends.items ≡ restored (length c.args.changes.now) (min (length (adds_of before.name c.args.changes.now)) most_lines) before.live.ends.items)
          c.loop-i.lists.items c.args.lists.now.items c.loop-i.i c.restore_list.new.listed d lt c.loop-i.invariant.same
          (c.restore_list.ensures.ends ∙ ap (λ (l : Listed). restored (length c.args.changes.now) (min (length (adds_of l.name c.args.changes.now)) most_lines) l.live.ends.items) is)
          c.loop-i.invariant.ends;
    }
