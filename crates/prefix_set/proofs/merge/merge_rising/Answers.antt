use Rattle.std.proofs.Common.{◌≡◌, ℕ, ◌++◌, length, arith, sym, subst, ◌∙◌}
use Rattle.prefix_set.specs.Kept.{kept_between}
use Rattle.prefix_set.proofs.KeptFacts.{done_none}
use Rattle.prefix_set.proofs.MergeFacts.{IsMerged, IsMerged-none, IsMerged-more, IsMerged-all, passed_before}
use Rattle.prefix_set.proofs.merge.merge_rising.Goals as goal

pub loop-i-init : goal.loop-i-init
loop-i-init g c = record {
  merged = subst (IsMerged c.args.old.now c.args.removals.now c.args.additions.now 0 0) (sym (c.of-out.ensures ∙ c.in_ok-room.ensures))
      (IsMerged-none c.args.old.now c.args.removals.now c.args.additions.now);
  done = done_none c.args.removals.now;
}

pub take_addition-requires-clause-passed : goal.take_addition-requires-clause-passed
take_addition-requires-clause-passed g c =
    passed_before _ c.args.additions.now c.loop-i.i c.at.result.now c.loop-i.invariant.merged.old_apart c.at.ensures.value

pub loop-i-preserved : goal.loop-i-preserved
loop-i-preserved g c = record {
  merged = IsMerged-more c.args.old.now c.args.removals.now c.args.additions.now c.loop-i.done.place c.loop-i.i c.in_ok-done.done.place c.loop-i.out
      c.take_addition.new.out c.at.result.now c.requires.old c.requires.additions c.loop-i.invariant.merged c.at.ensures.value c.in_ok-done.ensures.taken;
  done = c.in_ok-done.ensures.done;
}

pub returns : goal.returns
returns g c =
    let end : c.loop-i.i ≡ length c.args.additions.now = omega arith in
    IsMerged-all c.args.old.now c.args.removals.now c.args.additions.now c.loop-i.done.place c.loop-i.out c.copy_kept.new.out c.requires.old
    (subst (λ (n : ℕ). IsMerged c.args.old.now c.args.removals.now c.args.additions.now c.loop-i.done.place n c.loop-i.out) end c.loop-i.invariant.merged)
    (subst (λ (n : ℕ). c.copy_kept.new.out ≡ c.loop-i.out ++ kept_between c.args.old.now c.args.removals.now c.loop-i.done.place n) c.len.ensures c.in_ok-copy_kept.ensures.kept)
