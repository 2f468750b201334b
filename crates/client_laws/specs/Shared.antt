-- The verdict of a look at the hits of a URL by an answer of a find that asked for its open hits, and perhaps for those of other looks.
use Rattle.std.specs.Prelude.{◌≡◌, ℕ, List, [], Contains, Result, Ok}
use Rattle.sb_model.specs.declared.time.Moment.{Moment}
use Rattle.sb_model.specs.History.{History}
use Rattle.sb_model.specs.Naming.{Naming}
use Rattle.hash_messages.specs.declared.response.FindResponse.{FindResponse}
use Rattle.update_client.specs.Held.{Held}
use Rattle.verdict_report.specs.declared.verdicts.Cause.{Cause}
use Rattle.full_hash_cache.specs.Law.{Step, after_steps}
use Rattle.url_checker.specs.declared.findings.Hit.{Hit}
use Rattle.url_checker.specs.Resolving.{said_of, message_in, hits_asked}
use Rattle.client_laws.specs.Full.{IsFullIn}
use Rattle.client_laws.specs.Rulings.{Rulings}
use Rattle.client_laws.specs.Faithful.{IsFaithfulFor, KeptAreFaithful, pair_of_hit}
use Rattle.client_laws.specs.Resolved.{ruling_by}

-- what is said of each hit in the end: by the pairs that some steps left, at the moment of the look, and by the answer
abbrev pub said_by_answer : List Step → Moment → Result FindResponse Cause → Rulings
said_by_answer steps now answer hit = ruling_by (message_in answer) (said_of (after_steps [] steps) now hit) hit

-- The answers that decide hits are faithful: of the kept ones those by which something is said of a hit, for that hit's pair; and the
-- one that was got, for the pairs of the open hits. Nothing is asked of it for others.
pub record IsDecidedBy (history : History) (token_at : Naming) (lists : List Held) (steps : List Step) (now : Moment) (answer : Result FindResponse Cause) (hits : List Hit) : Type 0 where
  pub kept : KeptAreFaithful history token_at lists steps now hits
  pub got : (message : FindResponse) (hit : Hit) (hashes : List (List ℕ)) → answer ≡ Ok message
      → Contains (hits_asked (after_steps [] steps) now hits) hit → IsFullIn history token_at lists hit.list hashes
      → IsFaithfulFor hashes (pair_of_hit hit) message
