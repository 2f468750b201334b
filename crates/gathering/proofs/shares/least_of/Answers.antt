use Rattle.std.proofs.Common.{ℕ, [], ◌∷◌, ◌++◌, sym, subst, Some}
use Rattle.std.specs.Prelude.{map}
use Rattle.std.specs.Map.Iter.{deref_pair}
use Rattle.std.proofs.lemmas.List.{map-append}
use Rattle.gathering.specs.declared.addresses.Address.{Address}
use Rattle.gathering.proofs.LeastTaken.{LeastSoFar, least_more}
use Rattle.gathering.proofs.shares.least_of.Goals as goal

pub loop-address-preserved : goal.loop-address-preserved
loop-address-preserved c =
    let seen = map deref_pair c.loop-address.yielded in
    let one : Address × ℕ = (c.in-Some.address.now, c.in-Some.millis.now) in
    let more = least_more seen c.loop-address.least one c.loop-address.invariant in
    let now = subst (λ (least : Address × ℕ). LeastSoFar (seen ++ one ∷ []) (Some least)) (sym c.lesser.ensures) more in
    subst (λ seen'. LeastSoFar seen' (Some c.lesser.result)) (sym (map-append deref_pair c.loop-address.yielded ((c.in-Some.address, c.in-Some.millis) ∷ []))) now
