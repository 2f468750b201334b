use Rattle.std.proofs.Common.{List, sym, subst}
use Rattle.std.proofs.lemmas.List.Elements.{All-nil}
use Rattle.http_serving.specs.Kept.{KeptLists}
use Rattle.mirror_serving.specs.KeptFetches.{AreKeptOfMirror, IsKeptOfMirror}
use Rattle.mirror_serving.specs.declared.wish.PlaceWish.{PlaceWish}
use Rattle.mirror_serving.proofs.kept.no_answers_kept.Goals as goal

pub returns : goal.returns
returns c = λ mirror wait.
    subst (λ (kept : KeptLists (List PlaceWish)). AreKeptOfMirror mirror wait kept) (sym c.new.ensures)
    (record { first = All-nil (IsKeptOfMirror mirror wait); others = All-nil (IsKeptOfMirror mirror wait) })
