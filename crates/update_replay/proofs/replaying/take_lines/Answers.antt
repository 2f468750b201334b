use Rattle.std.proofs.Common.{ℕ, ◌+◌, List, ◌++◌, map, refl, sym, ap, ◌∙◌, subst, arith}
use Rattle.std.specs.Prelude.{◌||◌}
use Rattle.update_client.specs.Step.{after_updates}
use Rattle.sb_round.specs.Run.{lists_after}
use Rattle.input_lines.specs.Lines.{lines_of}
use Rattle.update_replay.specs.Readings.{ResponseReading, updates_of_reading, bodies_of}
use Rattle.update_replay.specs.Printed.{body_lines, outcome_lines}
use Rattle.update_replay.specs.Replay.{is_any_body_refused}
use Rattle.input_lines.specs.Writing.{HasPart}
use Rattle.input_lines.specs.Ways.{way_start, way_more, way_part, part_more}
use Rattle.update_replay.proofs.Replays.{text_step, refusal_step, lists_step}
use Rattle.update_replay.proofs.replaying.take_lines.Goals as goal

pub loop-rest-init : goal.loop-rest-init
loop-rest-init g c = (
  λ read reads.
      let empty = ap (λ (page : List ℕ). page ++ outcome_lines 1 c.args.lists.now (map read (lines_of c.args.input.now))) c.requires.page in
      (c.args.page.now, way_start _ _, empty, refl, refl),
  refl,
  omega arith,
)

pub loop-rest-preserved : goal.loop-rest-preserved
loop-rest-preserved g c = (
  λ read reads.
      let inv = c.loop-rest.invariant.0 read reads in
      let r = read c.first_line.result.0.now in
      let rs = map read (lines_of c.first_line.result.1.now) in
      let now = c.loop-rest.lists in
      let next = c.take_line.new.lists in
      let number = c.loop-rest.number in
      let refused = c.loop-rest.refused in
      let parts = ap (map read) c.first_line.ensures.lines in
      let e = c.in-Ok.ensures.lists read reads in
      let k = c.in-Ok.ensures.refused read reads in
      let text = ap (λ (ps : List ResponseReading). inv.0 ++ outcome_lines number now ps) (sym parts) ∙ inv.2 in
      let lists = ap (λ (ps : List ResponseReading). lists_after now (bodies_of ps)) (sym parts) ∙ inv.3 in
      let refusals = ap (λ (ps : List ResponseReading). refused || is_any_body_refused now ps) (sym parts) ∙ inv.4 in (
        inv.0 ++ body_lines number now r,
        way_more _ _ inv.0 (body_lines number now r) inv.1 (c.in-Ok.ensures.text read reads),
        text_step number now next r rs inv.0 _ e text,
        lists_step now next _ r rs e lists,
        refusal_step now next r rs refused c.in-Ok.is_refused _ e k refusals,
      ),
  c.in-Ok.ensures.kept ∙ c.loop-rest.invariant.1,
  omega (arith, c.loop-rest.invariant.2, c.first_line.ensures.shorter),
)

pub returns-in-Err-clause-err : goal.returns-in-Err-clause-err
returns-in-Err-clause-err g c = λ read reads.
    let inv = c.loop-rest.invariant.0 read reads in
    let r = read c.first_line.result.0.now in
    let rs = map read (lines_of c.first_line.result.1.now) in
    let now = c.loop-rest.lists in
    let next = after_updates now (updates_of_reading r) in
    let number = c.loop-rest.number in
    let parts = ap (map read) c.first_line.ensures.lines in
    let text = ap (λ (ps : List ResponseReading). inv.0 ++ outcome_lines number now ps) (sym parts) ∙ inv.2 in
    subst (λ (all : List ℕ). HasPart (g.O.Sink.contents c.args.out.now) (g.O.Sink.contents c.take_line.new.out) all) (text_step number now next r rs inv.0 _ refl text)
    (part_more (inv.0 ++ body_lines number now r) (outcome_lines (number + 1) next rs) (way_part _ inv.0 (body_lines number now r) inv.1 (c.in-Err.ensures.err read reads)))
