-- The verdict of a resolution against a look-up in the full lists.
use Rattle.std.specs.Prelude.{◌≡◌, ◌≢◌, ◌↔◌, ℕ, if◌then◌else◌, List, [], ◌∷◌, ◌++◌, map, Contains, Option, Some, None, Result, Ok, Err}
use Rattle.std.specs.List.Sorted.{IsStrictlySortedBy}
use Rattle.sb_model.specs.declared.names.ListName.{ListName}
use Rattle.sb_model.specs.declared.time.Moment.{Moment}
use Rattle.sb_model.specs.History.{History}
use Rattle.sb_model.specs.Names.{name_cmp}
use Rattle.sb_model.specs.Naming.{Naming}
use Rattle.hash_messages.specs.declared.response.FindResponse.{FindResponse}
use Rattle.url_canon.specs.Url.{Url}
use Rattle.update_client.specs.Held.{Held}
use Rattle.wait_rules.specs.declared.waits.WaitState.{WaitState}
use Rattle.verdict_report.specs.declared.verdicts.Cause.{Cause}
use Rattle.verdict_report.specs.declared.verdicts.Verdict.{Verdict}
use Rattle.verdict_report.specs.declared.verdicts.Verdict.TheVariants as verdict
use Rattle.full_hash_cache.specs.declared.pair.Cached.{Cached}
use Rattle.full_hash_cache.specs.declared.pair.Cached.TheVariants.{Unsafe, Safe, Ask}
use Rattle.full_hash_cache.specs.Law.{Step, after_steps}
use Rattle.full_hash_cache.specs.Law.Step.{Takes, Asks}
use Rattle.url_checker.specs.declared.findings.Hit.{Hit}
use Rattle.url_checker.specs.Resolving.{Resolution, FindTalk, said_of, is_returned, answer_in, message_in, hits_asked, lists_hit, find_asked}
use Rattle.client_laws.specs.Full.{IsFullIn, IsListed}
use Rattle.client_laws.specs.Rulings.{Rulings}
use Rattle.client_laws.specs.Faithful.{IsFaithfulFor, KeptAreFaithful, pair_of_hit}

-- ---- a verdict

-- These are the names of the lists that have a URL, of which there is one, in their order.
pub record AreTheListed (history : History) (token_at : Naming) (lists : List Held) (url : Url) (names : List ListName) : Type 0 where
  pub some : names ≢ []
  pub rising : IsStrictlySortedBy name_cmp names
  pub exactly : (name : ListName) → Contains names name ↔ IsListed history token_at lists url name

-- A verdict is the one that a look-up of each expression's hash in the full lists gives: unsafe with the names of all lists that have
-- one, and safe where none has.
abbrev pub IsLookup : History → Naming → List Held → Url → Verdict → Type 0
IsLookup history token_at lists url verdict.Safe = (name : ListName) → IsListed history token_at lists url name → ⊥
IsLookup history token_at lists url (verdict.Unsafe names) = AreTheListed history token_at lists url names
IsLookup history token_at lists url (verdict.Undecided cause) = ⊥

-- What a verdict says is so: where it is safe, no list has the URL, and each list that it names has it.
abbrev pub IsBorneOut : History → Naming → List Held → Url → Verdict → Type 0
IsBorneOut history token_at lists url verdict.Safe = (name : ListName) → IsListed history token_at lists url name → ⊥
IsBorneOut history token_at lists url (verdict.Unsafe names) = (name : ListName) → Contains names name → IsListed history token_at lists url name
IsBorneOut history token_at lists url (verdict.Undecided cause) = Unit {0}

-- ---- what was said of the hits

-- what is said of a hit in the end, by the message that was got, if one was: it decides what the kept answers leave open
abbrev pub ruling_by : Option FindResponse → Cached → Hit → Cached
ruling_by message Unsafe hit = Unsafe
ruling_by message Safe hit = Safe
ruling_by None Ask hit = Ask
ruling_by (Some message) Ask hit = if is_returned message hit then Unsafe else Safe

-- what a resolution says of each hit, from the pairs that some steps left
abbrev pub said_in : List Step → WaitState → Resolution → Rulings
said_in steps waits r hit = ruling_by (message_in (answer_in waits r.talk)) (said_of (after_steps [] steps) r.now hit) hit

-- The answers that decide hits are faithful: of the kept ones those by which something is said of a hit, for that hit's pair; and the
-- one that was got, for the pairs of the hits that were asked.
pub record IsDecidedFaithfully (history : History) (token_at : Naming) (lists : List Held) (steps : List Step) (waits : WaitState) (hits : List Hit) (r : Resolution) : Type 0 where
  pub kept : KeptAreFaithful history token_at lists steps r.now hits
  pub got : (message : FindResponse) (hit : Hit) (hashes : List (List ℕ)) → answer_in waits r.talk ≡ Ok message
      → Contains (hits_asked (after_steps [] steps) r.now hits) hit → IsFullIn history token_at lists hit.list hashes
      → IsFaithfulFor hashes (pair_of_hit hit) message

-- ---- the steps of the cache

abbrev pub steps_of_answer : List (List ℕ) → List Hit → Moment → Result FindResponse Cause → List Step
steps_of_answer states asked at (Ok message) = Takes at (lists_hit asked) (find_asked states asked) message ∷ []
steps_of_answer states asked at (Err cause) = []

abbrev pub steps_of_talk : List (List ℕ) → List Hit → Option FindTalk → List Step
steps_of_talk states asked None = []
steps_of_talk states asked (Some talk) = steps_of_answer states asked talk.session.closed talk.answer

-- the steps that a resolution makes after others: each hit is asked for, and the answer that was got is taken
abbrev pub steps_after : List Step → List (List ℕ) → List Hit → Resolution → List Step
steps_after steps states hits r =
    steps ++ map (λ hit. Asks r.now (pair_of_hit hit) hit.hash) hits
    ++ steps_of_talk states (hits_asked (after_steps [] steps) r.now hits) r.talk
