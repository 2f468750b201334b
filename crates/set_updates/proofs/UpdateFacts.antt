-- Updates part by part, and what leads from one set to another.
use Rattle.std.proofs.Common.{◌≡◌, ℕ, ◌<◌, ◌≤◌, Bool, not, List, length, ap, sym, subst, ◌∙◌, arith}
use Rattle.std.specs.Prelude.{All}
use Rattle.std.specs.List.Sorted.{IsStrictlyIncreasing}
use Rattle.prefix_set.specs.declared.difference.Delta.{Delta}
use Rattle.prefix_set.specs.declared.set.TheConstants.{MAX_PREFIXES}
use Rattle.sb_model.specs.Difference.{has_member, removed_places, added_members}
use Rattle.update_messages.specs.Rising.{AreRisingPlaces}
use Rattle.set_updates.specs.Updates.{MayBeSent}
use Rattle.set_updates.proofs.NumberFacts.{removed_under}
use Rattle.sb_model.specs.declared.names.ListName.{ListName}
use Rattle.set_updates.proofs.SetFacts.{few_kept}
use Rattle.update_messages.specs.Messages.{UpdatedList}
use Rattle.update_messages.specs.declared.sets.Additions.{Additions}
use Rattle.update_messages.specs.declared.sets.Removals.{Removals}

made : ListName → Bool → List ℕ → List Additions → List Removals → List ℕ → List ℕ → UpdatedList
made name full base additions removals state checksum = record {
  name = name;
  full = full;
  base = base;
  additions = additions;
  removals = removals;
  new_state = state;
  checksum = checksum;
}

-- updates whose parts are the same
pub same_update : (a b : UpdatedList) → a.name ≡ b.name → a.full ≡ b.full → a.base ≡ b.base → a.additions ≡ b.additions → a.removals ≡ b.removals
    → a.new_state ≡ b.new_state → a.checksum ≡ b.checksum → a ≡ b
unfolding made
same_update a b name full base additions removals state checksum =
    ap (λ (x : ListName). made x a.full a.base a.additions a.removals a.new_state a.checksum) name
    ∙ ap (λ (x : Bool). made b.name x a.base a.additions a.removals a.new_state a.checksum) full
    ∙ ap (λ (x : List ℕ). made b.name b.full x a.additions a.removals a.new_state a.checksum) base
    ∙ ap (λ (x : List Additions). made b.name b.full b.base x a.removals a.new_state a.checksum) additions
    ∙ ap (λ (x : List Removals). made b.name b.full b.base b.additions x a.new_state a.checksum) removals
    ∙ ap (λ (x : List ℕ). made b.name b.full b.base b.additions b.removals x a.checksum) state
    ∙ ap (λ (x : List ℕ). made b.name b.full b.base b.additions b.removals b.new_state x) checksum

pub few_added : (old newer : List (List ℕ)) → length (added_members old newer) ≤ length newer
few_added old newer = few_kept (λ member. not (has_member old member)) newer

-- what leads from one set to another may be sent
pub may_be_sent : (delta : Delta) (old newer : List (List ℕ)) → AreRisingPlaces (length old) (removed_places old newer) → delta.removals ≡ removed_places old newer
    → delta.additions ≡ added_members old newer → length old ≤ MAX_PREFIXES → length newer ≤ MAX_PREFIXES → MayBeSent delta
may_be_sent delta old newer places removals additions few less = record {
  rising = subst IsStrictlyIncreasing (sym removals) places.rising;
  few = omega (arith, ap length removals, places.few, few);
  below = subst (All (λ place. place < MAX_PREFIXES)) (sym removals) (removed_under old newer MAX_PREFIXES places few);
  additions = omega (arith, ap length additions, few_added old newer, less);
}
