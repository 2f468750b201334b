-- Updates that a server could have made.
use Rattle.std.specs.Prelude.{◌≡◌, ◌≢◌, ℕ, ◌≤◌, ◌<◌, [], false, length, All, IsTrue, IsOkAnd}
use Rattle.sb_model.specs.declared.names.ListName.{ListName}
use Rattle.sb_model.specs.History.{History, IsWellFormed, version_count, up_to_version, declares, prefixes_at}
use Rattle.sb_model.specs.Naming.{Naming, IsNaming}
use Rattle.sb_model.specs.Candidate.{candidate}
use Rattle.prefix_set.specs.declared.set.TheConstants.{MAX_PREFIXES}
use Rattle.update_messages.specs.Messages.{Request, UpdatedList}
use Rattle.update_messages.specs.Answer.{fetch_answer}
use Rattle.update_client.specs.Held.{digest_of}
use Rattle.update_client.specs.Step.{meaning_of}

-- The server could have made the update, from its set at one version to its set at another: the update carries the new
-- version's token and digest, and says what leads to its set. A base state that it names is the token of the old version.
pub record IsGenuine (history : History) (token_at : Naming) (update : UpdatedList) (made_from : ℕ) : Type 0 where
  pub declared : IsTrue (declares history update.name)
  pub from_within : made_from ≤ version_count history
  pub version : ℕ
  pub within : version ≤ version_count history
  pub state : update.new_state ≡ token_at update.name version
  pub checksum : update.checksum ≡ digest_of (prefixes_at history update.name version)
  pub proposes : IsOkAnd (meaning_of update) (λ meant. candidate meant (prefixes_at history update.name made_from) ≡ prefixes_at history update.name version)
  pub base : update.base ≢ [] → update.base ≡ token_at update.name made_from

-- ---- what a server answers

-- no declared list ever has more prefixes than a set may have
pub record IsWithinLimitsAlways (history : History) : Type 0 where
  pub few : (list : ListName) (version : ℕ) → IsTrue (declares history list) → version ≤ version_count history
      → length (prefixes_at history list version) ≤ MAX_PREFIXES

-- the full hashes that changes add are strings of bytes
abbrev pub HasByteHashes : History → Type 0
HasByteHashes history = All (λ change. All (λ added. All (λ byte. byte < 256) added.hash) change.adds) history.changes

-- An item of an answer is an update that the server could have made, and a partial one names the state that it was made for.
pub record IsAnswerItem (history : History) (token_at : Naming) (update : UpdatedList) : Type 0 where
  pub made_from : ℕ
  pub genuine : IsGenuine history token_at update made_from
  pub names_base : update.full ≡ false → update.base ≡ token_at update.name made_from

-- What a server answers is genuine, however far its history has come by then.
abbrev pub AnswersAreGenuine : Type 0
AnswersAreGenuine =
    (history : History) (token_at : Naming) (count wait : ℕ) (request : Request)
    → IsWellFormed history → IsNaming history token_at → IsWithinLimitsAlways history → HasByteHashes history → count ≤ version_count history
    → All (IsAnswerItem history token_at) (fetch_answer (up_to_version count history) token_at wait request).items
