use Rattle.std.proofs.Common.{take}
use Rattle.sb_service.specs.Wish.{AreWishesOf}
use Rattle.sb_service.proofs.wish.wishes_of.Given as goal

-- the wishes of the items so far
abbrev pub invariant-loop-asked : goal.invariant-loop-asked
invariant-loop-asked l = AreWishesOf l.history.versions (take l.asked-index l.items) l.wishes
