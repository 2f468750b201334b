-- Verdicts in order.
use Rattle.std.proofs.Common.{◌≡◌, ◌<◌, ℕ, zero, suc, List, [], ◌∷◌, length, Ok, Err, refl, ap, ◌∙◌, arith}
use Rattle.std.specs.Prelude.{slice_index_or}
use Rattle.sb_model.specs.History.{History}
use Rattle.sb_model.specs.Naming.{Naming}
use Rattle.full_hash_cache.specs.Cache.{Pairs}
use Rattle.full_hash_cache.specs.Law.{Step, after_steps}
use Rattle.url_canon.specs.Url.{Url, text_of_url}
use Rattle.update_client.specs.Held.{Held, tokens_of}
use Rattle.update_client.specs.Replica.{AreReplicas}
use Rattle.snapshot_publish.specs.Publications.{Publications}
use Rattle.wait_rules.specs.declared.waits.WaitState.{WaitState}
use Rattle.url_checker.specs.declared.findings.Hit.{Hit}
use Rattle.url_checker.specs.Hits.{hits_of}
use Rattle.url_checker.specs.Resolving.{Resolution, verdict_of, pairs_after}
use Rattle.verdict_report.specs.declared.verdicts.Judged.TheVariants as judged
use Rattle.client_laws.specs.Rulings.{IsNoneOpen}
use Rattle.client_laws.specs.Resolved.{IsLookup, IsBorneOut, IsDecidedFaithfully, said_in, steps_after}
use Rattle.url_checker.specs.declared.finds.Finds.{Finds}
use Rattle.judge_run.specs.Judging.{Answered, Case, lists_of_finding, IsFoundIn, AreCases, finds_after, judged_of, judged_of_all}
use Rattle.judge_run.specs.declared.plan.JudgePlan.{JudgePlan}
use Rattle.client_laws.specs.Reports.{ArePublishedReplicas}
use Rattle.client_laws.specs.Verdicts.{VerdictHolds, VerdictsHold, steps_after_case}

-- the lists of a publication that there is
replicas_of : (history : History) (token_at : Naming) (published : Publications) (number : ℕ) → number < length published → ArePublishedReplicas history token_at published
    → AreReplicas history token_at (slice_index_or published number [])
replicas_of history token_at [] number there are = absurd (omega (arith, there))
replicas_of history token_at (lists ∷ more) zero there are = are.0
replicas_of history token_at (lists ∷ more) (suc number) there are = replicas_of history token_at more number (omega (arith, there)) are.1

module _ (history : History) (token_at : Naming) (plan : JudgePlan) (published : Publications) (replicas : ArePublishedReplicas history token_at published)
    (steps_are : (steps : List Step) (states : List (List ℕ)) (hits : List Hit) (r : Resolution) → pairs_after states hits (after_steps [] steps) r ≡ after_steps [] (steps_after steps states hits r))
    (borne_out : (lists : List Held) (url : Url) (steps : List Step) (waits : WaitState) (r : Resolution) → AreReplicas history token_at lists
    → IsDecidedFaithfully history token_at lists steps waits (hits_of lists url) r → IsBorneOut history token_at lists url (verdict_of (after_steps [] steps) waits (hits_of lists url) r))
    (lookup : (lists : List Held) (url : Url) (steps : List Step) (waits : WaitState) (r : Resolution) → AreReplicas history token_at lists
    → IsDecidedFaithfully history token_at lists steps waits (hits_of lists url) r → IsNoneOpen (hits_of lists url) (said_in steps waits r)
    → IsLookup history token_at lists url (verdict_of (after_steps [] steps) waits (hits_of lists url) r)) where
  verdict_holds : (finds : Finds) (steps : List Step) (line : List ℕ) (answered : Answered) → finds.cache ≡ after_steps [] steps → IsFoundIn published line answered.finding
      → VerdictHolds history token_at answered.finding.number (lists_of_finding published answered.finding) steps finds.waits line answered.resolution (judged_of finds (Ok answered))
  verdict_holds finds steps line answered pairs_are found =
      let r = answered.resolution in
      let number = answered.finding.number in
      let lists = lists_of_finding published answered.finding in
      let url = found.is.url in
      let are = replicas_of history token_at published number found.there replicas in
      record {
        url = url;
        canonical = found.is.canonical;
        verdict = verdict_of (after_steps [] steps) finds.waits (hits_of lists url) r;
        said =
            ap (λ (text : List ℕ). judged.Verdict number text (verdict_of finds.cache finds.waits answered.finding.hits r)) found.is.text_is
            ∙ ap (λ (hits : List Hit). judged.Verdict number (text_of_url url) (verdict_of finds.cache finds.waits hits r)) found.is.hits
            ∙ ap (λ (pairs : Pairs). judged.Verdict number (text_of_url url) (verdict_of pairs finds.waits (hits_of lists url) r)) pairs_are;
        borne_out = borne_out lists url steps finds.waits r are;
        lookup = lookup lists url steps finds.waits r are;
      }

  pub cases_hold : (finds : Finds) (steps : List Step) (lines : List (List ℕ)) (cases : List Case) → finds.cache ≡ after_steps [] steps → AreCases plan published finds lines cases
      → VerdictsHold history token_at published finds steps lines cases (judged_of_all published finds cases)
  cases_hold finds steps [] [] pairs_are are = tt
  cases_hold finds steps [] (case ∷ cases) pairs_are are = absurd are
  cases_hold finds steps (line ∷ lines) [] pairs_are are = absurd are
  cases_hold finds steps (line ∷ lines) (Ok answered ∷ cases) pairs_are are =
      let states = tokens_of (lists_of_finding published answered.finding) in (
        verdict_holds finds steps line answered pairs_are are.0.0,
        cases_hold (finds_after published finds (Ok answered)) (steps_after_case published steps (Ok answered)) lines cases
            (ap (λ (pairs : Pairs). pairs_after states answered.finding.hits pairs answered.resolution) pairs_are
            ∙ steps_are steps states answered.finding.hits answered.resolution)
            are.1,
      )
  cases_hold finds steps (line ∷ lines) (Err fault ∷ cases) pairs_are are = ((are.0, refl), cases_hold finds steps lines cases pairs_are are.1)
