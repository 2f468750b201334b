-- The one that took least, of those that were seen so far.
use Rattle.std.proofs.Common.{◌≡◌, ◌⊎◌, inl, inr, ℕ, ◌+◌, ◌≤◌, ◌<◌, [], ◌∷◌, ◌++◌, true, false, cond, ap, ◌∙◌, arith, leb, Some, None}
use Rattle.std.specs.Prelude.{Option}
use Rattle.std.specs.List.{All, Contains}
use Rattle.std.proofs.lemmas.List.Elements.{All-nil, All-push, All-weaker, All-same, Contains-append_left, Contains-push}
use Rattle.std.proofs.lemmas.Bool.Decides.{leb_tells}
use Rattle.std.specs.BTreeMap.{BTreeMap, IsOrdered, get}
use Rattle.std.specs.Cmp.{IsTotalOrder}
use Rattle.std.specs.Option.{is_some}
use Rattle.std.proofs.lemmas.Cmp.{on_total, nat_cmp_total}
use Rattle.std.proofs.lemmas.Map.Entries.{btree_map_get_place}
use Rattle.std.proofs.lemmas.Option.{slice_get-get_or}
use Rattle.gathering.specs.Addresses.{address_cmp}
use Rattle.gathering.specs.declared.addresses.Address.{Address}
use Rattle.gathering.specs.Counts.{Taken, TookLeast, lesser}

-- of nobody, and of some one that is among them and took least
abbrev pub LeastSoFar : Taken → Option (Address × ℕ) → Type 0
LeastSoFar seen None = seen ≡ []
LeastSoFar seen (Some one) = Contains seen one × All (λ (other : Address × ℕ). one.1 ≤ other.1) seen

stays : (seen : Taken) (first one : Address × ℕ) → Contains seen first → All (λ (other : Address × ℕ). first.1 ≤ other.1) seen → first.1 ≤ one.1
    → LeastSoFar (seen ++ one ∷ []) (Some first)
stays seen first one among least within =
    (Contains-append_left seen (one ∷ []) first among, All-push (λ (other : Address × ℕ). first.1 ≤ other.1) seen one least within)

gives : (seen : Taken) (first one : Address × ℕ) → All (λ (other : Address × ℕ). first.1 ≤ other.1) seen → one.1 < first.1
    → LeastSoFar (seen ++ one ∷ []) (Some one)
gives seen first one least below = (
  Contains-push seen one,
  All-push (λ (other : Address × ℕ). one.1 ≤ other.1) seen one
      (All-weaker (λ (other : Address × ℕ). first.1 ≤ other.1) (λ (other : Address × ℕ). one.1 ≤ other.1) (λ other above. omega arith) seen least) (omega arith),
)

chosen : (seen : Taken) (first one : Address × ℕ) → Contains seen first → All (λ (other : Address × ℕ). first.1 ≤ other.1) seen
    → ((leb first.1 one.1 ≡ true) × (first.1 ≤ one.1)) ⊎ ((leb first.1 one.1 ≡ false) × (one.1 < first.1))
    → LeastSoFar (seen ++ one ∷ []) (Some (lesser (Some first) one))
chosen seen first one among least (inl within) = rw (within.0) (stays seen first one among least within.1)
chosen seen first one among least (inr below) = rw (below.0) (gives seen first one least below.1)

-- one more is seen
pub least_more : (seen : Taken) (least : Option (Address × ℕ)) (one : Address × ℕ) → LeastSoFar seen least → LeastSoFar (seen ++ one ∷ []) (Some (lesser least one))
least_more seen None one none = (
  Contains-push seen one,
  All-push (λ (other : Address × ℕ). one.1 ≤ other.1) seen one (All-same (λ (other : Address × ℕ). one.1 ≤ other.1) seen [] none (All-nil (λ (other : Address × ℕ). one.1 ≤ other.1))) (omega arith),
)
least_more seen (Some first) one far = chosen seen first one far.0 far.1 (leb_tells first.1 one.1)

-- all are seen
pub took_least : (all : Taken) (address : Address) (millis : ℕ) → LeastSoFar all (Some (address, millis)) → TookLeast all address
took_least all address millis far = record { millis = millis; has = far.0; least = far.1 }

address_total : IsTotalOrder address_cmp
address_total = on_total (λ (a : Address). a.bits) nat_cmp_total

-- one that took least is there
pub is_there : (taken : BTreeMap Address ℕ) (address : Address) → IsOrdered address_cmp taken → (least : TookLeast taken.entries address) → get address_cmp taken address ≡ Some least.millis
is_there taken address ordered least =
    let one : Address × ℕ = (address, least.millis) in
    btree_map_get_place address_total taken least.has.0 address least.millis ordered (slice_get-get_or taken.entries least.has.0 one least.has.1 ∙ ap (λ (e : Address × ℕ). Some e) least.has.2)

pub one_gone : (found : Option ℕ) (millis before after : ℕ) → found ≡ Some millis → after + cond (is_some found) 1 0 ≡ before → after + 1 ≡ before
one_gone found millis before after there count = rw there at count
