use Rattle.std.proofs.Common.{◌+◌, ◌≡◌, ◌∙◌, drop, List, ap, subst, arith}
use Rattle.std.specs.Prelude.{sum_by}
use Rattle.http_serving.specs.Kept.{kept_size, FitIn}
use Rattle.std.proofs.lemmas.List.{drop-drop}
use Rattle.http_serving.proofs.Rooms.{gone, none_fewer, nothing_fits}
use Rattle.http_serving.proofs.kept.let_go.Goals as goal

pub kept-preserved : goal.kept-preserved
kept-preserved g c =
    let inv = c.kept.invariant in
    let past : FitIn c.kept.answers.items c.args.room → ⊥
    = subst (λ (xs : List _). sum_by kept_size xs ≡ c.kept.left → FitIn xs c.args.room → ⊥) c.as_slice.ensures.value (c.is_past.ensures.past c.kept-test.true) inv.3 in
    let went = gone c.kept.answers.items c.remove-oldest.new.self.items c.remove-oldest.result c.kept.left c.size-left.result
    (nothing_fits c.kept.answers.items c.args.room past) inv.3 inv.4 c.remove-oldest.ensures.value c.remove-oldest.ensures.items c.size-left.ensures.exact c.size-left.ensures.most in (
      inv.0 + 1,
      c.remove-oldest.ensures.items ∙ ap (drop 1) inv.1 ∙ drop-drop 1 inv.0 c.args.answers.now.items,
      none_fewer c.args.answers.now.items c.kept.answers.items inv.0 c.args.room inv.1 past inv.2,
      went.bytes_are,
      omega (arith, inv.4),
    )
