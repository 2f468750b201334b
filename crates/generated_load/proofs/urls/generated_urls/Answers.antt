use Rattle.std.proofs.Common.{sym, ap, ◌∙◌}
use Rattle.generated_load.specs.Generated.{number_after, other_seed}
use Rattle.generated_load.proofs.Places.{number_first, number_next, url_more}
use Rattle.generated_load.proofs.urls.generated_urls.Goals as goal

pub loop-place-init : goal.loop-place-init
loop-place-init c = (sym (number_first (other_seed c.args.seed)), c.in_ok-page.ensures)

pub loop-place-preserved : goal.loop-place-preserved
loop-place-preserved c =
    let inv = c.loop-place.invariant in
    let place = c.loop-place.place in (
      c.number_after-number.ensures ∙ ap number_after inv.0 ∙ sym (number_next (other_seed c.args.seed) place),
      url_more c.args.seed place c.loop-place.number c.number_after-number.result c.loop-place.page c.push_url.new.page inv.0
          c.number_after-number.ensures inv.1 c.in_ok-push_url.ensures,
    )
