use Rattle.std.proofs.Common.{List, sym, subst}
use Rattle.std.proofs.lemmas.List.Elements.{All-nil}
use Rattle.http_serving.specs.Kept.{KeptLists}
use Rattle.sb_service.specs.Kept.{AreKeptOf, IsKeptOf}
use Rattle.sb_service.specs.declared.wish.Wish.{Wish}
use Rattle.sb_service.proofs.kept.nothing_kept.Goals as goal

pub returns : goal.returns
returns c = λ history times.
    subst (λ (kept : KeptLists (List Wish)). AreKeptOf history times kept) (sym c.new.ensures)
    (record { first = All-nil (IsKeptOf history times); others = All-nil (IsKeptOf history times) })
