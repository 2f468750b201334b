use Rattle.std.proofs.Common.{◌≡◌, Bool, List, sym, ap, ◌∙◌, subst}
use Rattle.update_client.specs.Held.{Held}
use Rattle.url_checker.specs.Hits.{MarksAll}
use Rattle.parallel_checks.specs.declared.showing.Shown.{Shown}
use Rattle.parallel_checks.proofs.showing.check_on.Goals as goal

pub local_check_with-requires : goal.local_check_with-requires
local_check_with-requires c =
    let marks = ap (λ (s : Shown). s.sizes.marks) c.shown.view_is in
    let lists : c.deref.result.now ≡ c.args.shown.now.last.lists = c.deref.ensures ∙ ap (λ (s : Shown). s.last.lists) c.shown.view_is in
    record { marked = subst (λ (q : List Bool × List Held). MarksAll q.0 q.1) (λ i. (sym marks i, sym lists i)) c.args.shown.now.marked }
