use Rattle.std.proofs.Common.{List, [], map, sym, subst}
use Rattle.std.specs.List.Sorted.{IsStrictlySortedBy}
use Rattle.sb_model.specs.Names.{name_cmp}
use Rattle.update_client.specs.Held.{Held}
use Rattle.mirror_places.proofs.mirror.PlaceMadeWithGlobal.made_with.Goals as goal

none_rises : IsStrictlySortedBy name_cmp []
unfolding IsStrictlySortedBy
none_rises = tt

pub from_lists-requires-clause-rising : goal.from_lists-requires-clause-rising
from_lists-requires-clause-rising c =
    subst (λ (lists : List Held). IsStrictlySortedBy name_cmp (map (λ (held : Held). held.name) lists)) (sym c.new.ensures.items) none_rises
