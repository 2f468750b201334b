use Rattle.std.proofs.Common.{take}
use Rattle.std.specs.Prelude.{All}
use Rattle.prefix_set.specs.Limits.{IsPrefixSet}
use Rattle.update_client.specs.Held.{Held}
use Rattle.mirror_places.proofs.mirror.know_place.Given as goal

abbrev pub invariant-loop-held : goal.invariant-loop-held
invariant-loop-held l = All (λ (held : Held). IsPrefixSet held.set) (take l.held-index l.held-items)
