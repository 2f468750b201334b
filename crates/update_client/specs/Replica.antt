-- What it takes that a client's lists are a replica of a server's.
use Rattle.std.specs.Prelude.{◌≡◌, ℕ, ◌≤◌, ◌⊎◌, List, [], ◌∷◌, IsTrue}
use Rattle.sb_model.specs.History.{History, version_count, declares, prefixes_at}
use Rattle.sb_model.specs.Naming.{Naming}
use Rattle.update_client.specs.Held.{Held}

-- The held list is the server's at the version that its token names.
pub record IsAtVersion (history : History) (token_at : Naming) (held : Held) : Type 0 where
  pub version : ℕ
  pub within : version ≤ version_count history
  pub declared : IsTrue (declares history held.name)
  pub token : held.token ≡ token_at held.name version
  pub set : held.set ≡ prefixes_at history held.name version

pub record IsEmptyList (held : Held) : Type 0 where
  pub token : held.token ≡ []
  pub set : held.set ≡ []

-- without a token it is empty
abbrev pub IsReplicaOf : History → Naming → Held → Type 0
IsReplicaOf history token_at held = IsEmptyList held ⊎ IsAtVersion history token_at held

abbrev pub AreReplicas : History → Naming → List Held → Type 0
AreReplicas history token_at [] = Unit {0}
AreReplicas history token_at (held ∷ lists) = IsReplicaOf history token_at held × AreReplicas history token_at lists
