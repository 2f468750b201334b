use Rattle.std.proofs.Common.{◌≡◌, map, take}
use Rattle.update_client.specs.Held.{Held, digest_of}
use Rattle.mirror_places.proofs.mirror.digests_of.Given as goal

abbrev pub invariant-loop-held : goal.invariant-loop-held
invariant-loop-held l = l.digests.items ≡ map (λ (held : Held). digest_of held.set) (take l.held-index l.held-items)
