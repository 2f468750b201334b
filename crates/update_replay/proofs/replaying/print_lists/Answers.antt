use Rattle.std.proofs.Common.{◌<◌, ◌+◌, ℕ, List, ◌++◌, drop, length, refl, ◌∙◌, subst, arith}
use Rattle.std.specs.List.{flat_map}
use Rattle.update_replay.specs.Printed.{list_lines}
use Rattle.sb_outside.specs.Writing.{HasFront}
use Rattle.input_lines.specs.Ways.{way_start, way_more, way_front, front_more, place_step}
use Rattle.update_replay.proofs.replaying.print_lists.Goals as goal

pub loop-held-init : goal.loop-held-init
loop-held-init g c = (c.args.page.now, way_start _ _, refl, refl)

pub loop-held-preserved : goal.loop-held-preserved
loop-held-preserved g c =
    let inv = c.loop-held.invariant in
    let i = c.loop-held.held-index in
    let held = c.held-item.result in
    let within : i < length c.args.lists.now = omega arith in (
      inv.0 ++ list_lines held,
      way_more _ _ inv.0 (list_lines held) inv.1 c.in_default.ensures.text,
      place_step list_lines c.args.lists.now i held inv.0 _ c.held-item.is within inv.2,
      c.in_default.ensures.kept ∙ inv.3,
    )

pub returns-in-Err-clause-err : goal.returns-in-Err-clause-err
returns-in-Err-clause-err g c =
    let inv = c.loop-held.invariant in
    let i = c.loop-held.held-index in
    let held = c.held-item.result in
    let within : i < length c.args.lists.now = omega arith in
    let whole = place_step list_lines c.args.lists.now i held inv.0 _ c.held-item.is within inv.2 in
    subst (λ (text : List ℕ). HasFront (g.O.Sink.contents c.args.out.now) (g.O.Sink.contents c.print_list.new.out) text) whole
    (front_more (inv.0 ++ list_lines held) (flat_map list_lines (drop (i + 1) c.args.lists.now)) (way_front _ inv.0 (list_lines held) inv.1 c.in-Err.ensures.err))
