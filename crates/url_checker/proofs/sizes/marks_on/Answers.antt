use Rattle.std.proofs.Common.{List, refl, subst, arith}
use Rattle.std.proofs.lemmas.List.{take_all}
use Rattle.update_client.specs.Held.{Held}
use Rattle.url_checker.specs.Hits.{MarksAll}
use Rattle.url_checker.proofs.SizeFacts.{marks_more}
use Rattle.url_checker.proofs.sizes.marks_on.Goals as goal

pub loop-held-init : goal.loop-held-init
loop-held-init c = record { marked = λ k d small. absurd (omega (arith, small)); long = refl }

pub loop-held-preserved : goal.loop-held-preserved
loop-held-preserved c = record {
  marked = marks_more c.args.lists.now c.loop-held.held-index c.held-item.result c.loop-held.marks c.mark_list.new.marks c.loop-held-test.true c.held-item.is
      c.mark_list.ensures.left c.mark_list.ensures.marked c.loop-held.invariant.marked;
  long = c.mark_list.ensures.long;
}

pub returns : goal.returns
returns c =
    subst (λ (lists : List Held). MarksAll c.loop-held.marks lists) (take_all c.loop-held.held-index c.args.lists.now (omega arith)) c.loop-held.invariant.marked
