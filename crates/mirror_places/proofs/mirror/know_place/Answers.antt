use Rattle.std.proofs.Common.{refl, subst, ◌∙◌, arith}
use Rattle.std.specs.Prelude.{All}
use Rattle.std.proofs.lemmas.List.{take_all}
use Rattle.std.proofs.lemmas.List.Elements.{All-more}
use Rattle.prefix_set.specs.Limits.{IsPrefixSet}
use Rattle.update_client.specs.Held.{Held}
use Rattle.mirror_places.proofs.mirror.know_place.Goals as goal

abbrev HasSet : Held → Type 0
HasSet held = IsPrefixSet held.set

pub loop-held-preserved : goal.loop-held-preserved
loop-held-preserved c =
    All-more HasSet c.lists-held-items.result.now c.loop-held.held-index c.held-item.result c.loop-held-test.true c.loop-held.invariant
    (subst HasSet (c.held.view_is ∙ c.held-item.is) (record {
      rising = c.len.ensures.rising;
      prefixes = c.len.ensures.prefixes;
      count = c.len.ensures.count;
      bytes = c.len.ensures.bytes;
    }))

pub returns : goal.returns
returns c = record {
  client = record { few = c.lists-held-items.ensures.few; rising = c.lists-held-items.ensures.rising };
  named = refl;
  sets = subst (All HasSet) (take_all c.loop-held.held-index c.lists-held-items.result.now (omega arith) ∙ c.lists-held-items.ensures.value) c.loop-held.invariant;
}
