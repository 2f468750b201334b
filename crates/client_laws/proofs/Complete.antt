-- URLs that are judged in order are decided, or left open with their cause.
use Rattle.std.proofs.Common.{ℕ, Bool, List, [], ◌∷◌, Ok, Err}
use Rattle.http_edge.specs.declared.messages.Target.{Target}
use Rattle.full_hash_cache.specs.Cache.{Pairs}
use Rattle.update_client.specs.Held.{tokens_of}
use Rattle.snapshot_publish.specs.Publications.{Publications}
use Rattle.wait_rules.specs.declared.waits.WaitState.{WaitState}
use Rattle.url_checker.specs.declared.findings.Hit.{Hit}
use Rattle.url_checker.specs.Resolving.{IsResolution, Resolution, verdict_of}
use Rattle.client_laws.specs.Decided.{IsCompleteVerdict}
use Rattle.url_checker.specs.declared.finds.Finds.{Finds}
use Rattle.judge_run.specs.Judging.{AreCases, Case, finds_after, judged_of_all, lists_of_finding}
use Rattle.judge_run.specs.declared.plan.JudgePlan.{JudgePlan}
use Rattle.client_laws.specs.Complete.{AreComplete}

module _ (law : (states : List (List ℕ)) (patience : ℕ) (target : Target) (need : Bool) (hits : List Hit) (pairs : Pairs) (waits : WaitState) (r : Resolution)
    → IsResolution states patience target need hits pairs waits r → IsCompleteVerdict patience pairs waits hits r (verdict_of pairs waits hits r))
    (plan : JudgePlan) (published : Publications) where
  pub are_complete : (finds : Finds) (lines : List (List ℕ)) (cases : List Case) → AreCases plan published finds lines cases
      → AreComplete plan published finds cases (judged_of_all published finds cases)
  are_complete finds [] [] are = tt
  are_complete finds [] (case ∷ cases) are = absurd are
  are_complete finds (line ∷ lines) [] are = absurd are
  are_complete finds (line ∷ lines) (Ok answered ∷ cases) are = (
    law (tokens_of (lists_of_finding published answered.finding)) plan.patience plan.updates.target plan.updates.need_digest answered.finding.hits finds.cache finds.waits answered.resolution are.0.1,
    are_complete (finds_after published finds (Ok answered)) lines cases are.1,
  )
  are_complete finds (line ∷ lines) (Err fault ∷ cases) are = (tt, are_complete finds lines cases are.1)
