-- How many connections may be open after some minutes.
use Rattle.std.proofs.Common.{◌≡◌, ℕ, zero, suc, ◌+◌, ◌-◌, ◌<◌, refl, ap, ◌∙◌, arith}
use Rattle.gathering.specs.declared.limits.DoorLimits.{DoorLimits}
use Rattle.gathering.specs.Rooms.{next_most, most_after}

-- the limit is the most
full_stays : (limits : DoorLimits) → next_most limits limits.connections ≡ limits.connections
full_stays limits = omega arith

pub most_at_limit : (minutes : ℕ) (limits : DoorLimits) → most_after minutes limits limits.connections ≡ limits.connections
most_at_limit zero limits = refl
most_at_limit (suc minutes) limits = ap (λ most. most_after minutes limits most) (full_stays limits) ∙ most_at_limit minutes limits

-- one minute of those that are left
pub one_minute : (minutes done most : ℕ) (limits : DoorLimits) → done < minutes → most_after (minutes - done) limits most ≡ most_after (minutes - (done + 1)) limits (next_most limits most)
one_minute minutes done most limits left =
    let k : minutes - done ≡ suc (minutes - (done + 1)) = omega arith in
    ap (λ n. most_after n limits most) k
