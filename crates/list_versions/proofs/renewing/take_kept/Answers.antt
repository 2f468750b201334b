use Rattle.std.proofs.Common.{◌≡◌, ◌≢◌, ℕ, ◌∙◌, true, false, get_or, arith, ap}
use Rattle.list_versions.specs.Renewing.{stays}
use Rattle.list_versions.specs.declared.newest.Newest.{Newest}
use borrow.Author.Count.{below_more}
use Rattle.list_versions.proofs.renewing.take_kept.Goals as goal

pub loop-i-preserved : goal.loop-i-preserved
loop-i-preserved c = record {
  long = c.keep_at.ensures.long ∙ c.loop-i.invariant.long;
  short = c.keep_at.ensures.short ∙ c.loop-i.invariant.short;
  left = λ k d h. let ne : k ≢ c.loop-i.i = omega arith in c.keep_at.ensures.left k d ne ∙ c.loop-i.invariant.left k d (omega arith);
  right = λ k d h. let ne : k ≢ c.loop-i.i = omega arith in c.keep_at.ensures.others k d ne ∙ c.loop-i.invariant.right k d (omega arith);
  kept = λ k d h. below_more (λ (j : ℕ). stays c.args.changes.now c.args.before j (get_or c.args.old.now.items j d).name ≡ true → get_or c.keep_at.new.newest.items j d ≡ get_or c.args.old.now.items j d) c.loop-i.i
      (λ j l s. let ne : j ≢ c.loop-i.i = omega arith in c.keep_at.ensures.others j d ne ∙ c.loop-i.invariant.kept j d l s)
      (λ s. let same = c.loop-i.invariant.left c.loop-i.i d (omega arith) in
      c.keep_at.ensures.kept d (ap (λ (n : Newest). stays c.args.changes.now c.args.before c.loop-i.i n.name) same ∙ s) ∙ same) k h;
  renewed = λ k d h. below_more (λ (j : ℕ). stays c.args.changes.now c.args.before j (get_or c.args.old.now.items j d).name ≡ false → get_or c.keep_at.new.newest.items j d ≡ get_or c.args.newest.now.items j d) c.loop-i.i
      (λ j l s. let ne : j ≢ c.loop-i.i = omega arith in c.keep_at.ensures.others j d ne ∙ c.loop-i.invariant.renewed j d l s)
      (λ s. let same = c.loop-i.invariant.left c.loop-i.i d (omega arith) in
      c.keep_at.ensures.renewed d (ap (λ (n : Newest). stays c.args.changes.now c.args.before c.loop-i.i n.name) same ∙ s) ∙ c.loop-i.invariant.right c.loop-i.i d (omega arith)) k h;
}
