use Rattle.std.proofs.Common.{◌≡◌, ◌+◌, ℕ, Bool, if◌then◌else◌, refl, List, ap, subst, ◌∙◌}
use Rattle.sb_model.specs.declared.history.Added.{Added}
use Rattle.sb_model.specs.History.{after_change}
use Rattle.delta_server.specs.Version.{Stands}
use Rattle.delta_server.specs.Walk.{published, entries_after, may_take}
use Rattle.delta_server.proofs.EntryFacts.{fold_on}
use Rattle.delta_server.proofs.TargetFacts.{taken_step}
use Rattle.delta_server.proofs.walk.taken_from.Goals as goal

pub loop-i-preserved : goal.loop-i-preserved
loop-i-preserved c =
    let count : ℕ = c.loop-i.i + 1 in
    let held = c.in_ok-change.ensures.held ∙ c.loop-i.invariant.held in
    let stands = λ (entries : List Added) (before : Stands c.args.version.now entries).
    subst (Stands c.change.new.self) (fold_on (after_change c.args.list) entries c.args.changes.now c.loop-i.i c.index-changes-i.result c.loop-i-test.true c.index-changes-i.is)
    (c.in_ok-change.ensures.ok (entries_after c.args.list entries c.args.changes.now c.loop-i.i) (c.loop-i.invariant.stands entries before)) in
    record {
      within = c.taken_after-taken.ensures.within c.loop-i.invariant.within;
      stands = stands;
      held = held;
      taken = λ entries before.
          let test : ℕ → Bool = λ n. may_take c.args.version.now.holders.held.now c.args.max_update c.args.max_database (published (entries_after c.args.list entries c.args.changes.now n)) in
          let here = ap (λ (h : List (List ℕ)). may_take h c.args.max_update c.args.max_database (published (entries_after c.args.list entries c.args.changes.now count))) held in
          taken_step test c.loop-i.i c.loop-i.taken c.taken_after-taken.result (test count) refl (c.loop-i.invariant.taken entries before)
          (subst (λ (b : Bool). c.taken_after-taken.result ≡ (if b then count else c.loop-i.taken)) here (c.taken_after-taken.ensures.taken (entries_after c.args.list entries c.args.changes.now count) (stands entries before)));
    }
