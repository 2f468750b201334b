use Rattle.std.proofs.Common.{◌≡◌, take}
use Rattle.mirror_serving.specs.PlaceWish.{place_wishes_of}
use Rattle.mirror_serving.proofs.wish.wishes_of.Given as goal

-- the wishes of the items so far
abbrev pub invariant-loop-asked : goal.invariant-loop-asked
invariant-loop-asked l = l.wishes ≡ place_wishes_of l.mirror (take l.asked-index l.items)
