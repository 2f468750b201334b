use Rattle.std.proofs.Common.{◌↔◌, IsTrue, IfOk, sym, subst}
use Rattle.conformance_vectors.specs.Vectors.{Meets}
use Rattle.conformance_vectors.proofs.meets.meets.Goals as goal

pub returns-in-Canon : goal.returns-in-Canon
returns-in-Canon c = subst (λ case. IfOk c.has_text.result (λ met. IsTrue met ↔ Meets case)) (sym c.in-Canon.is) c.has_text.ensures

pub returns-in-Refused : goal.returns-in-Refused
returns-in-Refused c = subst (λ case. IfOk c.is_refused.result (λ met. IsTrue met ↔ Meets case)) (sym c.in-Refused.is) c.is_refused.ensures

pub returns-in-Expressions : goal.returns-in-Expressions
returns-in-Expressions c = subst (λ case. IfOk c.has_expressions.result (λ met. IsTrue met ↔ Meets case)) (sym c.in-Expressions.is) c.has_expressions.ensures

pub returns-in-Rice : goal.returns-in-Rice
returns-in-Rice c = subst (λ case. IfOk c.has_record.result (λ met. IsTrue met ↔ Meets case)) (sym c.in-Rice.is) c.has_record.ensures
