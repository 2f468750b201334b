use Rattle.std.proofs.Common.{◌∙◌, List, ℕ, not, take, sym, ap}
use Rattle.sb_model.specs.Difference.{has_member}
use Rattle.list_versions.specs.Leading.{was_published}
use Rattle.list_versions.specs.Live.{lines_in, shown}
use Rattle.list_versions.specs.Shifting.{is_published}
use Rattle.list_versions.proofs.Leads.{first_or, or_false, passed_over, pushed, second_or, tells_member}
use Rattle.list_versions.proofs.leading.push_gained.Goals as goal
use Rattle.list_versions.proofs.leading.push_gained.Goals.{else-not-is_published_first-via-then-not-is_published_first+else-not-contains, else-not-is_published_first-via-else-not-is_published_first}

pub returns-in_ok-push : goal.returns-in_ok-push
returns-in_ok-push c =
    let prefix = shown c.args.entry.now in
    let first = c.is_published_first.ensures ∙ ap (λ (p : List ℕ). is_published c.args.count (lines_in c.args.live.now.buckets.entries (take 4 p)) p) c.shown_prefix-prefix.ensures in
    let gone = tells_member c.args.gone.now c.shown_prefix-prefix.result prefix c.contains.result c.contains.ensures c.shown_prefix-prefix.ensures in
    pushed (λ (p : List ℕ). not (was_published c.args.live.now.buckets.entries c.args.count c.args.gone.now p)) c.shown_prefix-prefix.result prefix c.args.gained.now.items c.push.new.self.items c.shown_prefix-prefix.ensures
    (ap not (or_false (is_published c.args.count (lines_in c.args.live.now.buckets.entries (take 4 prefix)) prefix) (has_member c.args.gone.now prefix) (sym first ∙ c.if-not-is_published_first.true) (sym gone ∙ c.if-not-contains.true)))
    c.in_ok-push.ensures.items

pub returns-else-not-is_published_first : goal.returns-else-not-is_published_first
returns-else-not-is_published_first c =
    let prefix = shown c.args.entry.now in
    let first = c.is_published_first.ensures ∙ ap (λ (p : List ℕ). is_published c.args.count (lines_in c.args.live.now.buckets.entries (take 4 p)) p) c.shown_prefix-prefix.ensures in
    let was_first = is_published c.args.count (lines_in c.args.live.now.buckets.entries (take 4 prefix)) prefix in
    let was_gone = has_member c.args.gone.now prefix in
    passed_over (λ (p : List ℕ). not (was_published c.args.live.now.buckets.entries c.args.count c.args.gone.now p)) prefix c.args.gained.now.items (ap not (elim c.else-not-is_published_first.branch [
      | else-not-is_published_first-via-then-not-is_published_first+else-not-contains w ↦
          second_or was_first was_gone (sym (tells_member c.args.gone.now c.shown_prefix-prefix.result prefix w.contains.result w.contains.ensures c.shown_prefix-prefix.ensures) ∙ w.if-not-contains.false)
      | else-not-is_published_first-via-else-not-is_published_first w ↦ first_or was_first was_gone (sym first ∙ w.if-not-is_published_first.false)
    ]))
