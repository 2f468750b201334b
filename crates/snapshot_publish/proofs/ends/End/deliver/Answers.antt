use Rattle.std.proofs.Common.{◌≡◌, ℕ, true, length, sym, ap, ◌∙◌, subst}
use Rattle.crossbeam_queue.specs.Fifo.{Pushes, PopsFrom, PushesAfter}
use Rattle.crossbeam_queue.specs.Passes.{view, ruled_capacity}
use Rattle.snapshot_publish.specs.declared.view.View.{View}
use Rattle.snapshot_publish.specs.Publishing.{Known}
use Rattle.snapshot_publish.specs.Rule.{Keeps, Appended, Replaced}
use Rattle.snapshot_publish.proofs.Steps.{publishes, publishes_after, replaces}
use Rattle.snapshot_publish.proofs.ends.End.deliver.Goals as goal

pub force_push_as-requires-clause-push : goal.force_push_as-requires-clause-push
force_push_as-requires-clause-push g c =
    let id = c.self.inside.pass.id in let v : View = view c.self.inside.pass in let x = c.args.next in
    let one : ruled_capacity c.deref.result.now ≡ 1 = ap (λ q. ruled_capacity q) c.deref.ensures ∙ c.self.invariant.1 in
    let may : v.publishes ≡ true = ap (λ (k : Known). k.view.publishes) c.self.view_is ∙ c.requires.0 in
    let number : x.number ≡ length v.list = c.requires.1 ∙ ap (λ (k : Known). length k.view.list) (sym c.self.view_is) in
    subst (λ (n : ℕ). Pushes Keeps n id v x (Appended v x) × PushesAfter Keeps n id (Replaced v) x Appended) (sym one) (publishes id v x may number, publishes_after id v x may number)

pub force_push_as-requires-clause-pop : goal.force_push_as-requires-clause-pop
force_push_as-requires-clause-pop g c =
    let id = c.self.inside.pass.id in let v : View = view c.self.inside.pass in
    let one : ruled_capacity c.deref.result.now ≡ 1 = ap (λ q. ruled_capacity q) c.deref.ensures ∙ c.self.invariant.1 in
    subst (λ (n : ℕ). PopsFrom Keeps n id v (Replaced v)) (sym one) (replaces id v)
