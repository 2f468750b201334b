-- What an answer to a client's own request does to its lists.
use Rattle.std.specs.Prelude.{ℕ, ◌≤◌, List, length, All, IsTrue}
use Rattle.sb_model.specs.declared.names.ListName.{ListName}
use Rattle.sb_model.specs.History.{History, IsWellFormed, declares, up_to_version, version_count, prefixes_at}
use Rattle.sb_model.specs.Naming.{Naming, IsNaming}
use Rattle.sb_model.specs.Prefixes.{concatenation}
use Rattle.update_messages.specs.Answer.{fetch_answer}
use Rattle.update_client.specs.Asked.{request_asked}
use Rattle.update_client.specs.Genuine.{HasByteHashes, IsWithinLimitsAlways}
use Rattle.update_client.specs.Held.{Held, AreHeldLists}
use Rattle.update_client.specs.Replica.{AreReplicas}
use Rattle.update_client.specs.Step.{results_of}
use Rattle.update_client.specs.declared.fault.ListResult.{ListResult}
use Rattle.update_client.specs.declared.fault.ListResult.TheVariants.{Installed, Refused, NotKept}
use Rattle.update_client.specs.declared.options.FetchOptions.{FetchOptions}

-- no declared list ever has more bytes of prefixes than a set may have
pub record HasFewBytesAlways (history : History) : Type 0 where
  pub few : (list : ListName) (version : ℕ) → IsTrue (declares history list) → version ≤ version_count history
      → length (concatenation (prefixes_at history list version)) ≤ 8388608

-- a history whose answers a client can take
pub record CanBeServed (history : History) : Type 0 where
  pub well_formed : IsWellFormed history
  pub hashes : HasByteHashes history
  pub prefixes : IsWithinLimitsAlways history
  pub bytes : HasFewBytesAlways history

abbrev pub IsInstalled : ListResult → Type 0
IsInstalled (Installed entries) = Unit {0}
IsInstalled (Refused fault) = ⊥
IsInstalled NotKept = ⊥

-- Where a client's lists are replicas of a server's, each update of what the server answers to their request is installed,
-- whatever its version then and whichever limits are asked for. A list that the server does not declare has no update.
abbrev pub InstallsAnswers : History → Naming → FetchOptions → List Held → ℕ → ℕ → Type 0
InstallsAnswers history token_at options lists version wait =
    CanBeServed history
    → IsNaming history token_at
    → version ≤ version_count history
    → AreHeldLists lists
    → AreReplicas history token_at lists
    → All IsInstalled (results_of lists (fetch_answer (up_to_version version history) token_at wait (request_asked lists options)).items)
