use Rattle.std.proofs.Common.{◌≡◌, ◌<◌, ◌+◌, ◌++◌, ℕ, List, length, drop, ap, ◌∙◌, arith}
use Rattle.std.specs.List.{flat_map}
use Rattle.sb_client.specs.Shown.{expression_line}
use Rattle.input_lines.specs.Ways.{place_step}
use Rattle.sb_client.proofs.show.push_expressions.Goals as goal

pub loop-expression-preserved : goal.loop-expression-preserved
loop-expression-preserved c =
    let i = c.loop-expression.expression-index in
    let expression = c.expression-item.result in
    let within : i < length c.args.all.now = omega arith in
    let same : c.as_slice.result.now ≡ expression = c.as_slice.ensures in
    let page = c.in_ok-push_expression.ensures ∙ ap (λ (text : List ℕ). c.loop-expression.page ++ expression_line text) same in
    ap (λ (text : List ℕ). text ++ flat_map expression_line (drop (i + 1) c.args.all.now)) page
    ∙ place_step expression_line c.args.all.now i expression c.loop-expression.page _ c.expression-item.is within c.loop-expression.invariant
