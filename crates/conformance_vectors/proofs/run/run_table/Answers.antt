use Rattle.std.proofs.Common.{All, sym, subst, ◌∙◌}
use Rattle.std.specs.Option.{MatchOption}
use Rattle.conformance_vectors.specs.Vectors.{Meets, MeetCount, IsFirstFailed, AreDecided}
use Rattle.conformance_vectors.proofs.Counts.{counted, all_met, all_counted, told}
use Rattle.conformance_vectors.proofs.run.run_table.Goals as goal

pub returns : goal.returns
returns c =
    let cases = c.args.cases.now in
    let answers = c.as_slice.result.now in
    let decided = subst (AreDecided cases) (sym c.as_slice.ensures.value) c.in_ok-answers.ensures in
    let again = subst (AreDecided cases) (sym c.as_slice-2.ensures.value) c.in_ok-answers.ensures in
    record {
      passed = subst (MeetCount cases) (sym c.count_true.ensures) (counted cases answers decided);
      all = (λ e. all_met cases answers decided (sym c.count_true.ensures ∙ e), λ all. c.count_true.ensures ∙ all_counted cases answers decided all);
      first_failed = subst (λ found. MatchOption found (All Meets cases) (λ place. IsFirstFailed cases place)) (sym c.first_false.ensures) (told cases c.as_slice-2.result.now again);
    }
