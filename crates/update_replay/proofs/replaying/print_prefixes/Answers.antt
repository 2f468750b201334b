use Rattle.std.proofs.Common.{◌≡◌, ℕ, List, ◌++◌, refl, ap, ◌∙◌, subst}
use Rattle.std.specs.List.{flat_map}
use Rattle.update_replay.specs.Printed.{prefix_line}
use Rattle.sb_outside.specs.Writing.{HasFront}
use Rattle.input_lines.specs.Ways.{way_start, way_more, way_front, front_more, members_step}
use Rattle.update_replay.proofs.replaying.print_prefixes.Goals as goal

pub loop-prefix-init : goal.loop-prefix-init
loop-prefix-init g c =
    let held : c.held.inside.set ≡ c.args.held.now.set = cc in
    let all = c.into_iter-prefix-iterator.ensures.into_iter_gives ∙ c.iter-prefix-items.ensures.members ∙ held in
    (c.args.page.now, way_start _ _, ap (λ (ps : List (List ℕ)). c.args.page.now ++ flat_map prefix_line ps) all, refl)

pub loop-prefix-preserved : goal.loop-prefix-preserved
loop-prefix-preserved g c =
    let inv = c.loop-prefix.invariant in
    let prefix = c.in-Some.prefix.now in (
      inv.0 ++ prefix_line prefix,
      way_more _ _ inv.0 (prefix_line prefix) inv.1 c.in_default.ensures.text,
      members_step prefix_line c.loop-prefix.prefix-iterator c.next.new.self prefix inv.0 _ c.in-Some.ensures.steps inv.2,
      c.in_default.ensures.kept ∙ inv.3,
    )

pub returns-in-Err-clause-err : goal.returns-in-Err-clause-err
returns-in-Err-clause-err g c =
    let inv = c.loop-prefix.invariant in
    let prefix = c.in-Some.prefix.now in
    let whole = members_step prefix_line c.loop-prefix.prefix-iterator c.next.new.self prefix inv.0 _ c.in-Some.ensures.steps inv.2 in
    subst (λ (text : List ℕ). HasFront (g.O.Sink.contents c.args.out.now) (g.O.Sink.contents c.print_prefix.new.out) text) whole
    (front_more (inv.0 ++ prefix_line prefix) (flat_map prefix_line c.next.new.self) (way_front _ inv.0 (prefix_line prefix) inv.1 c.in-Err.ensures.err))
