use Rattle.std.proofs.Common.{◌∙◌, List, ℕ, not, sym, ap}
use Rattle.sb_model.specs.Difference.{has_member}
use Rattle.list_versions.specs.Live.{shown}
use Rattle.list_versions.proofs.Leads.{passed_over, pushed, tells_member}
use Rattle.list_versions.proofs.leading.push_lost.Goals as goal

pub returns-in_ok-push : goal.returns-in_ok-push
returns-in_ok-push c =
    let is = tells_member c.args.newest.now c.shown_prefix-prefix.result (shown c.args.entry.now) c.contains.result c.contains.ensures c.shown_prefix-prefix.ensures in
    pushed (λ (prefix : List ℕ). not (has_member c.args.newest.now prefix)) c.shown_prefix-prefix.result (shown c.args.entry.now) c.args.lost.now.items c.push.new.self.items
    c.shown_prefix-prefix.ensures (ap not (sym is ∙ c.if-not-contains.true)) c.in_ok-push.ensures.items

pub returns-else-not-contains : goal.returns-else-not-contains
returns-else-not-contains c =
    let is = tells_member c.args.newest.now c.shown_prefix-prefix.result (shown c.args.entry.now) c.contains.result c.contains.ensures c.shown_prefix-prefix.ensures in
    passed_over (λ (prefix : List ℕ). not (has_member c.args.newest.now prefix)) (shown c.args.entry.now) c.args.lost.now.items (ap not (sym is ∙ c.if-not-contains.false))
