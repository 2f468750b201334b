-- The naming of versions by state tokens.
use Rattle.std.specs.Prelude.{◌≡◌, ℕ, ◌≤◌, List, length, IsTrue}
use Rattle.sb_model.specs.declared.names.ListName.{ListName}
use Rattle.sb_model.specs.History.{History, version_count, declares}

-- a name for each version of each list
abbrev pub Naming : Type 0
Naming = ListName → ℕ → List ℕ

-- A token is a text of 1 to 4,096 bytes, and two versions of a declared list have different tokens.
pub record IsNaming (history : History) (token_at : Naming) : Type 0 where
  pub some : (list : ListName) (version : ℕ) → IsTrue (declares history list) → version ≤ version_count history → 1 ≤ length (token_at list version)
  pub short : (list : ListName) (version : ℕ) → IsTrue (declares history list) → version ≤ version_count history → length (token_at list version) ≤ 4096
  pub different : (list : ListName) (v w : ℕ) → IsTrue (declares history list) → v ≤ version_count history → w ≤ version_count history → token_at list v ≡ token_at list w → v ≡ w
