use Rattle.std.proofs.Common.{List, sym, subst}
use Rattle.http_serving.specs.Kept.{KeptLists}
use Rattle.mirror_serving.specs.KeptFetches.{AreKeptOfMirror}
use Rattle.mirror_serving.specs.declared.wish.PlaceWish.{PlaceWish}
use Rattle.mirror_serving.proofs.KeptFacts.{none_kept}
use Rattle.mirror_serving.proofs.kept.forget_kept.Goals as goal

pub returns-clause-kept : goal.returns-clause-kept
returns-clause-kept c = λ mirror wait.
    subst (λ (kept : KeptLists (List PlaceWish)). AreKeptOfMirror mirror wait kept) (sym c.forget_if.ensures) (none_kept mirror wait c.args.kept.now)
