use Rattle.input_lines.specs.Lines.{numbered}
use Rattle.std.proofs.Common.{◌≡◌, ◌<◌, ◌+◌, ℕ, List, ◌++◌, drop, length, refl, ap, ◌∙◌, subst, arith}
use Rattle.sb_model.specs.declared.names.ListName.{ListName}
use Rattle.sb_round.specs.Printed.{taken_text}
use Rattle.update_replay.specs.Printed.{taken_lines}
use Rattle.input_lines.specs.Writing.{HasPart}
use Rattle.input_lines.specs.Ways.{way_start, way_more, way_part, part_more, part_of_front}
use Rattle.update_replay.proofs.Replays.{taken_step}
use Rattle.update_replay.proofs.replaying.print_body.Goals as goal

pub loop-i-init : goal.loop-i-init
loop-i-init g c = (c.args.page.now, way_start _ _, refl, refl)

pub loop-i-preserved : goal.loop-i-preserved
loop-i-preserved g c =
    let inv = c.loop-i.invariant in
    let i = c.loop-i.i in
    let outcome = c.index-outcomes-i.result in
    let update = c.index-updates-i.result in
    let named : c.update.inside.name ≡ update.name = cc in
    let line = numbered c.args.number (taken_text c.update.inside.name outcome) in
    let here : line ≡ numbered c.args.number (taken_text update.name outcome) = ap (λ (name : ListName). numbered c.args.number (taken_text name outcome)) named in
    let within : i < length c.args.outcomes.now = omega arith in
    let whole = taken_step c.args.number i c.args.updates.now c.args.outcomes.now update outcome inv.0 _ c.index-updates-i.is (omega arith) c.index-outcomes-i.is within inv.2 in (
      inv.0 ++ line,
      way_more _ _ inv.0 line inv.1 c.in_default.ensures.text,
      ap (λ (text : List ℕ). (inv.0 ++ text) ++ taken_lines c.args.number (drop (i + 1) c.args.updates.now) (drop (i + 1) c.args.outcomes.now)) here ∙ whole,
      c.in_default.ensures.kept ∙ inv.3,
    )

pub returns-in-Err-clause-err : goal.returns-in-Err-clause-err
returns-in-Err-clause-err g c =
    let inv = c.loop-i.invariant in
    let i = c.loop-i.i in
    let outcome = c.index-outcomes-i.result in
    let update = c.index-updates-i.result in
    let named : c.update.inside.name ≡ update.name = cc in
    let line = numbered c.args.number (taken_text c.update.inside.name outcome) in
    let here : line ≡ numbered c.args.number (taken_text update.name outcome) = ap (λ (name : ListName). numbered c.args.number (taken_text name outcome)) named in
    let within : i < length c.args.outcomes.now = omega arith in
    let left = taken_lines c.args.number (drop (i + 1) c.args.updates.now) (drop (i + 1) c.args.outcomes.now) in
    let whole = ap (λ (text : List ℕ). (inv.0 ++ text) ++ left) here
    ∙ taken_step c.args.number i c.args.updates.now c.args.outcomes.now update outcome inv.0 _ c.index-updates-i.is (omega arith) c.index-outcomes-i.is within inv.2 in
    subst (λ (text : List ℕ). HasPart (g.O.Sink.contents c.args.out.now) (g.O.Sink.contents c.print_taken.new.out) text) whole
    (part_more (inv.0 ++ line) left (way_part _ inv.0 line inv.1 (part_of_front _ c.in-Err.ensures.err)))
