use Rattle.std.proofs.Common.{◌≡◌, ◌++◌, drop}
use Rattle.std.specs.Prelude.{◌||◌, filter}
use Rattle.journal_run.specs.Found.{is_expression_listed, is_some_listed, spaced}
use Rattle.journal_run.proofs.found.push_listed.Given as goal

-- what was found so far, and what is listed of those that are left, is what is listed of all
abbrev pub invariant-loop-expression : goal.invariant-loop-expression
invariant-loop-expression l = record {
  page : l.page ++ spaced (filter (is_expression_listed l.history.versions l.list) (drop l.expression-index l.expressions))
      ≡ l.initial.page ++ spaced (filter (is_expression_listed l.history.versions l.list) l.expressions);
  any : (l.any || is_some_listed (filter (is_expression_listed l.history.versions l.list) (drop l.expression-index l.expressions)))
      ≡ is_some_listed (filter (is_expression_listed l.history.versions l.list) l.expressions);
}
