-- Texts that stand in one line of a head.
use Rattle.std.proofs.Common.{◌≡◌, ◌≢◌, ℕ, List, Bool, true, sym, ◌∙◌, subst, arith}
use Rattle.std.specs.Prelude.{◌↔◌, IsTrue}
use Rattle.std.specs.List.{list_all}
use Rattle.std.proofs.lemmas.Bool.Decides.{nat_tests}
use Rattle.std.proofs.lemmas.List.Sums.{AllPass-from_list_all, list_all-from_AllPass}
use Rattle.std.proofs.lemmas.List.Elements.{All-weaker}
use Rattle.http_edge.specs.Exchanges.{StandsInOneLine, is_in_line}

not_cr : (char : ℕ) → is_in_line char ≡ true → char ≢ 13
not_cr char is = grind (arith, nat_tests)

not_lf : (char : ℕ) → is_in_line char ≡ true → char ≢ 10
not_lf char is = grind (arith, nat_tests)

mid_is : (char : ℕ) → char ≢ 13 → char ≢ 10 → is_in_line char ≡ true
mid_is char cr lf = grind (arith, nat_tests)

pub one_line_is : (r : Bool) (text same : List ℕ) → text ≡ same → r ≡ list_all is_in_line text → IsTrue r ↔ StandsInOneLine same
one_line_is r text same is all = (
  λ yes. subst StandsInOneLine is
      (All-weaker (λ (char : ℕ). is_in_line char ≡ true) (λ (char : ℕ). (char ≢ 13) × (char ≢ 10)) (λ char mid. (not_cr char mid, not_lf char mid)) text
      (AllPass-from_list_all is_in_line text (sym all ∙ yes))),
  λ one.
      all ∙ list_all-from_AllPass is_in_line text
      (All-weaker (λ (char : ℕ). (char ≢ 13) × (char ≢ 10)) (λ (char : ℕ). is_in_line char ≡ true) (λ char not-end. mid_is char not-end.0 not-end.1) text
      (subst StandsInOneLine (sym is) one)),
)
