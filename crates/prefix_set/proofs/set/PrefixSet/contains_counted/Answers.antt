use Rattle.std.proofs.Common.{◌≡◌, ℕ, ◌+◌, ◌-◌, ◌*◌, ◌/◌, ◌^◌, ◌<◌, ◌≤◌, List, [], length, drop, get_or, arith, refl, sym, subst}
use Rattle.std.specs.Prelude.{◌↔◌, IsTrue, true, false}
use Rattle.std.specs.List.{Contains}
use Rattle.std.proofs.lemmas.List.Sums.{count_by-le-length}
use Rattle.std.proofs.lemmas.Bool.{false≢true}
use Rattle.std.proofs.lemmas.Option.{slice_get-get_or}
use Rattle.prefix_set.specs.Index.{alike_count, begins_alike}
use Rattle.prefix_set.specs.Search.{AreAfter}
use Rattle.prefix_set.proofs.LookupFacts.{HasHalved, halved_more, halved_bound, steps_small, found_here, found_nowhere, after_from}
use Rattle.prefix_set.proofs.SearchFacts.{before_upto}
use Rattle.prefix_set.proofs.set.PrefixSet.contains_counted.Goals as goal

pub compare-requires-clause-steps : goal.compare-requires-clause-steps
compare-requires-clause-steps g c =
    let store = c.self.inside.store in
    let prefix = c.args.prefix.now in
    let few : alike_count store prefix ≤ 1048576 = omega (arith, count_by-le-length (λ member. begins_alike member prefix) store, c.self.invariant.set.count) in
    steps_small (alike_count store prefix) (c.loop-low.high - c.loop-low.low) c.args.steps.now c.loop-low.steps c.loop-low.invariant.halved few c.requires

pub loop-low-preserved-in-Less : goal.loop-low-preserved-in-Less
loop-low-preserved-in-Less g c =
    let store = c.self.inside.store in
    let prefix = c.args.prefix.now in
    let low = c.loop-low.low in
    let high = c.loop-low.high in
    let middle : ℕ = low + (high - low) / 2 in
    let within : middle < length store = omega (arith, c.loop-low.invariant.within) in
    record {
      order = omega arith;
      within = c.loop-low.invariant.within;
      before = before_upto store prefix middle (get_or store middle []) c.self.invariant.set.rising (slice_get-get_or store middle [] within) (sym c.in-Less.ensures.order);
      after = c.loop-low.invariant.after;
      halved = subst (HasHalved (alike_count store prefix) (high - (middle + 1)) c.args.steps.now) (sym c.in-Less.ensures.steps)
          (halved_more (alike_count store prefix) (high - low) (high - (middle + 1)) c.args.steps.now c.loop-low.steps c.loop-low.invariant.halved (omega arith) (omega arith));
    }

pub loop-low-preserved : goal.loop-low-preserved
loop-low-preserved g c =
    let store = c.self.inside.store in
    let prefix = c.args.prefix.now in
    let low = c.loop-low.low in
    let high = c.loop-low.high in
    let middle : ℕ = low + (high - low) / 2 in
    let within : middle < length store = omega (arith, c.loop-low.invariant.within) in
    record {
      order = omega arith;
      within = omega (arith, c.loop-low.invariant.within);
      before = c.loop-low.invariant.before;
      after = after_from store prefix middle c.self.invariant.set.rising within (sym c.in-Greater.ensures.order);
      halved = subst (HasHalved (alike_count store prefix) (middle - low) c.args.steps.now) (sym c.in-Greater.ensures.steps)
          (halved_more (alike_count store prefix) (high - low) (middle - low) c.args.steps.now c.loop-low.steps c.loop-low.invariant.halved (omega arith) (omega arith));
    }

pub returns-in-Equal-clause-member : goal.returns-in-Equal-clause-member
returns-in-Equal-clause-member g c =
    let store = c.self.inside.store in
    let prefix = c.args.prefix.now in
    let middle : ℕ = c.loop-low.low + (c.loop-low.high - c.loop-low.low) / 2 in
    let within : middle < length store = omega (arith, c.loop-low.invariant.within) in
    subst (λ (members : List (List ℕ)). IsTrue true ↔ Contains members prefix) c.self.view_is
    (λ _. found_here store prefix middle within (sym c.in-Equal.ensures.order), λ _. refl)

pub returns-in-Equal-clause-steps : goal.returns-in-Equal-clause-steps
returns-in-Equal-clause-steps g c =
    let store = c.self.inside.store in
    let prefix = c.args.prefix.now in
    subst (λ (members : List (List ℕ)). (r : ℕ) × (c.compare.new.steps ≡ c.args.steps.now + r) × (2 ^ r ≤ 4 * alike_count members prefix + 2)) c.self.view_is
    (subst (λ (n : ℕ). (r : ℕ) × (n ≡ c.args.steps.now + r) × (2 ^ r ≤ 4 * alike_count store prefix + 2)) (sym c.in-Equal.ensures.steps)
    (halved_bound (alike_count store prefix) 0 c.args.steps.now (c.loop-low.steps + 1)
    (halved_more (alike_count store prefix) (c.loop-low.high - c.loop-low.low) 0 c.args.steps.now c.loop-low.steps c.loop-low.invariant.halved (omega arith) (omega arith))))

pub returns-clause-member : goal.returns-clause-member
returns-clause-member g c =
    let store = c.self.inside.store in
    let prefix = c.args.prefix.now in
    let same : c.loop-low.high ≡ c.loop-low.low = omega arith in
    subst (λ (members : List (List ℕ)). IsTrue false ↔ Contains members prefix) c.self.view_is (
      λ h. absurd (false≢true h),
      λ h. absurd (found_nowhere store prefix c.loop-low.low c.loop-low.invariant.before (subst (λ (n : ℕ). AreAfter (drop n store) prefix) same c.loop-low.invariant.after) h),
    )
