use Rattle.std.proofs.Common.{◌≡◌, ◌+◌, false, sym, ap, ◌∙◌, append-nil}
use Rattle.list_versions.specs.Written.{change_text}
use Rattle.generated_load.specs.Generated.{generated_hash, number_after, seed_number_at}
use Rattle.generated_load.proofs.Places.{change_more, number_first, number_next}
use Rattle.generated_load.proofs.journals.push_changes.Goals as goal

pub loop-place-init : goal.loop-place-init
loop-place-init c =
    let first = sym (number_first c.args.seed) in
    (c.in_ok-host.ensures.number ∙ first, c.in_ok-host.ensures.hash ∙ ap generated_hash first, sym (append-nil c.args.page.now))

pub loop-place-preserved : goal.loop-place-preserved
loop-place-preserved c =
    let inv = c.loop-place.invariant in
    let place = c.loop-place.place in
    let next : c.number_after.result ≡ seed_number_at c.args.seed (place + 1) = c.number_after.ensures ∙ ap number_after inv.0 ∙ sym (number_next c.args.seed place) in
    let hash = c.in_ok-next.ensures.hash ∙ ap generated_hash next in (
      c.in_ok-next.ensures.number ∙ next,
      hash,
      change_more (change_text false) c.args.seed place c.args.page.now c.loop-place.host.hash c.in_ok-next.next.hash c.loop-place.page c.push_change_lines.new.page
          inv.1 hash inv.2 c.in_ok-push_change_lines.ensures,
    )
