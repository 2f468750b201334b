-- The verdicts of URLs that were judged in order, each against a look-up in the full lists.
use Rattle.std.specs.Prelude.{◌≡◌, ℕ, List, [], ◌∷◌, Ok, Err}
use Rattle.sb_model.specs.History.{History}
use Rattle.sb_model.specs.Naming.{Naming}
use Rattle.url_canon.specs.Canonical.{canonical_of}
use Rattle.url_canon.specs.Url.{Url, text_of_url}
use Rattle.update_client.specs.Held.{Held, tokens_of}
use Rattle.snapshot_publish.specs.Publications.{Publications}
use Rattle.full_hash_cache.specs.Law.{Step}
use Rattle.wait_rules.specs.declared.waits.WaitState.{WaitState}
use Rattle.url_checker.specs.Hits.{hits_of}
use Rattle.url_checker.specs.Resolving.{Resolution}
use Rattle.verdict_report.specs.declared.verdicts.Judged.{Judged}
use Rattle.verdict_report.specs.declared.verdicts.Judged.TheVariants as judged
use Rattle.verdict_report.specs.declared.verdicts.Verdict.{Verdict}
use Rattle.client_laws.specs.Rulings.{IsNoneOpen}
use Rattle.client_laws.specs.Resolved.{IsLookup, IsBorneOut, IsDecidedFaithfully, said_in, steps_after}
use Rattle.url_checker.specs.declared.finds.Finds.{Finds}
use Rattle.judge_run.specs.Judging.{Case, finds_after, lists_of_finding}

-- ---- one URL

-- What is said of a line is the number of a publication, the canonical text of its URL and a verdict. Where the answers that decided the
-- verdict were faithful, what it says is so by the lists of that publication, and where no hit was left open besides, it equals a look-up
-- of each expression's hash in the full lists. The answers that were kept are those of these steps of the cache. Nothing is asked of an
-- answer that did not decide it.
pub record VerdictHolds (history : History) (token_at : Naming) (number : ℕ) (lists : List Held) (steps : List Step) (waits : WaitState) (line : List ℕ) (r : Resolution) (one : Judged) : Type 0 where
  pub url : Url
  pub canonical : canonical_of line ≡ Ok url
  pub verdict : Verdict
  pub said : one ≡ judged.Verdict number (text_of_url url) verdict
  pub borne_out : IsDecidedFaithfully history token_at lists steps waits (hits_of lists url) r → IsBorneOut history token_at lists url verdict
  pub lookup : IsDecidedFaithfully history token_at lists steps waits (hits_of lists url) r → IsNoneOpen (hits_of lists url) (said_in steps waits r)
      → IsLookup history token_at lists url verdict

-- A line's verdict holds, or the line has no canonical form, and this is what is said of it.
abbrev pub IsJudgedRightly : History → Naming → Publications → List Step → WaitState → List ℕ → Case → Judged → Type 0
IsJudgedRightly history token_at published steps waits line (Ok answered) one =
    VerdictHolds history token_at answered.finding.number (lists_of_finding published answered.finding) steps waits line answered.resolution one
IsJudgedRightly history token_at published steps waits line (Err fault) one =
    (canonical_of line ≡ Err fault) × (one ≡ judged.Refused fault)

-- the steps of the cache after a case: it asks for each hit, and takes the answer that was got
abbrev pub steps_after_case : Publications → List Step → Case → List Step
steps_after_case published steps (Ok answered) = steps_after steps (tokens_of (lists_of_finding published answered.finding)) answered.finding.hits answered.resolution
steps_after_case published steps (Err fault) = steps

-- ---- URLs in order

-- Each line is judged rightly by its case, from the steps and the wait that the cases before it left.
abbrev pub VerdictsHold : History → Naming → Publications → Finds → List Step → List (List ℕ) → List Case → List Judged → Type 0
VerdictsHold history token_at published finds steps [] [] [] = Unit {0}
VerdictsHold history token_at published finds steps [] [] (one ∷ all) = ⊥
VerdictsHold history token_at published finds steps [] (case ∷ cases) all = ⊥
VerdictsHold history token_at published finds steps (line ∷ lines) [] all = ⊥
VerdictsHold history token_at published finds steps (line ∷ lines) (case ∷ cases) [] = ⊥
VerdictsHold history token_at published finds steps (line ∷ lines) (case ∷ cases) (one ∷ all) =
    IsJudgedRightly history token_at published steps finds.waits line case one
    × VerdictsHold history token_at published (finds_after published finds case) (steps_after_case published steps case) lines cases all
