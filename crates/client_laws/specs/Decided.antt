-- Which resolutions decide a URL, and why one leaves it open.
use Rattle.std.specs.Prelude.{◌≡◌, ◌≢◌, ◌⊎◌, ℕ, false, List, [], Option, Some, None, Ok, Err}
use Rattle.sb_model.specs.declared.time.Moment.{Moment}
use Rattle.hash_messages.specs.declared.response.FindResponse.{FindResponse}
use Rattle.wait_rules.specs.declared.waits.WaitState.{WaitState}
use Rattle.verdict_report.specs.declared.verdicts.Cause.{Cause}
use Rattle.verdict_report.specs.declared.verdicts.Cause.TheVariants.{NotBefore}
use Rattle.verdict_report.specs.declared.verdicts.Verdict.{Verdict}
use Rattle.verdict_report.specs.declared.verdicts.Verdict.TheVariants.{Safe, Unsafe, Undecided}
use Rattle.full_hash_cache.specs.Cache.{Pairs}
use Rattle.url_checker.specs.declared.findings.Hit.{Hit}
use Rattle.url_checker.specs.Resolving.{Resolution, FindTalk, answer_in, hits_asked, is_in_reach}

-- A verdict says that a URL is safe, or that it is unsafe.
abbrev pub IsSafeOrUnsafe : Verdict → Type 0
IsSafeOrUnsafe Safe = Unit {0}
IsSafeOrUnsafe (Unsafe names) = Unit {0}
IsSafeOrUnsafe (Undecided cause) = ⊥

-- Nothing had to be asked, or the find was made, passed and was read.
abbrev pub HasAnswers : Pairs → WaitState → List Hit → Resolution → Type 0
HasAnswers pairs waits hits r = (hits_asked pairs r.now hits ≡ []) ⊎ (message : FindResponse) × (answer_in waits r.talk ≡ Ok message)

-- This is why there is no answer: the find was not allowed in time, and was not made; or it was made, and brought none for this cause.
abbrev pub IsWhyUnanswered : WaitState → (patience : ℕ) → Moment → Option FindTalk → Cause → Type 0
IsWhyUnanswered waits patience now None cause = (is_in_reach waits patience now ≡ false) × (cause ≡ NotBefore waits.allowed_at)
IsWhyUnanswered waits patience now (Some talk) cause = talk.answer ≡ Err cause

-- A hit had to be asked for, and this is why there is no answer.
pub record IsLeftOpen (patience : ℕ) (pairs : Pairs) (waits : WaitState) (hits : List Hit) (r : Resolution) (cause : Cause) : Type 0 where
  pub asked : hits_asked pairs r.now hits ≢ []
  pub unanswered : IsWhyUnanswered waits patience r.now r.talk cause

-- A verdict is decided where it was answered, and one that is not names its cause.
pub record IsCompleteVerdict (patience : ℕ) (pairs : Pairs) (waits : WaitState) (hits : List Hit) (r : Resolution) (verdict : Verdict) : Type 0 where
  pub decided : HasAnswers pairs waits hits r → IsSafeOrUnsafe verdict
  pub left_open : (cause : Cause) → verdict ≡ Undecided cause → IsLeftOpen patience pairs waits hits r cause
