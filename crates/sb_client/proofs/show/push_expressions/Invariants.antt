use Rattle.std.proofs.Common.{◌≡◌, ◌++◌, drop}
use Rattle.std.specs.List.{flat_map}
use Rattle.sb_client.specs.Shown.{expression_line}
use Rattle.sb_client.proofs.show.push_expressions.Given as goal

-- the lines that are left complete the page
abbrev pub invariant-loop-expression : goal.invariant-loop-expression
invariant-loop-expression l = l.page ++ flat_map expression_line (drop l.expression-index l.all) ≡ l.initial.page ++ flat_map expression_line l.all
