use Rattle.std.proofs.Common.{ℕ, ◌+◌, List, ◌++◌, refl, sym, ap, ◌∙◌, subst, arith}
use Rattle.std.specs.Prelude.{◌||◌}
use Rattle.sb_outside.specs.Writing.{HasFront}
use Rattle.url_canon.specs.Canonical.{canonical_of}
use Rattle.input_lines.specs.Lines.{lines_of}
use Rattle.sb_client.specs.Shown.{shown_lines, all_shown, show_text, has_refused_url}
use Rattle.input_lines.specs.Ways.{way_start, way_more, way_front, front_more}
use Rattle.sb_client.proofs.Shows.{shown_step, refused_step}
use Rattle.sb_client.proofs.show.show_lines.Goals as goal

pub loop-rest-init : goal.loop-rest-init
loop-rest-init g c =
    let empty = ap (λ (page : List ℕ). page ++ show_text c.args.input.now) c.requires.page in
    (c.args.page.now, way_start _ _, empty, refl, refl, omega arith)

pub loop-rest-preserved : goal.loop-rest-preserved
loop-rest-preserved g c =
    let inv = c.loop-rest.invariant in
    let line = c.first_line.result.0.now in
    let lines = lines_of c.first_line.result.1.now in
    let number = c.loop-rest.number in
    let parts = c.first_line.ensures.lines in
    let text = ap (λ (ls : List (List ℕ)). inv.0 ++ all_shown number ls) (sym parts) ∙ inv.2 in
    let refusals = ap (λ (ls : List (List ℕ)). c.loop-rest.refused || has_refused_url ls) (sym parts) ∙ inv.3 in (
      inv.0 ++ shown_lines number (canonical_of line),
      way_more _ _ inv.0 (shown_lines number (canonical_of line)) inv.1 c.in-Ok.ensures.text,
      shown_step number line lines inv.0 _ text,
      refused_step line lines c.loop-rest.refused c.in-Ok.is_refused _ c.in-Ok.ensures.refused refusals,
      c.in-Ok.ensures.kept ∙ inv.4,
      omega (arith, inv.5, c.first_line.ensures.shorter),
    )

pub returns-in-Err-clause-err : goal.returns-in-Err-clause-err
returns-in-Err-clause-err g c =
    let inv = c.loop-rest.invariant in
    let line = c.first_line.result.0.now in
    let lines = lines_of c.first_line.result.1.now in
    let number = c.loop-rest.number in
    let text = ap (λ (ls : List (List ℕ)). inv.0 ++ all_shown number ls) (sym c.first_line.ensures.lines) ∙ inv.2 in
    subst (HasFront (g.O.Sink.contents c.args.out.now) (g.O.Sink.contents c.show_line.new.out)) (shown_step number line lines inv.0 _ text)
    (front_more (inv.0 ++ shown_lines number (canonical_of line)) (all_shown (number + 1) lines) (way_front _ inv.0 (shown_lines number (canonical_of line)) inv.1 c.in-Err.ensures.err))
