-- The full hashes of the lists that a client holds, and which of these lists have a URL.
use Rattle.std.specs.Prelude.{◌≡◌, ℕ, ◌⊎◌, List, [], Contains}
use Rattle.sb_model.specs.declared.names.ListName.{ListName}
use Rattle.sb_model.specs.History.{History, full_hashes_at}
use Rattle.sb_model.specs.Naming.{Naming}
use Rattle.hash_prefixes.specs.declared.hashes.FullHash.{FullHash}
use Rattle.url_canon.specs.Url.{Url}
use Rattle.update_client.specs.Held.{Held}
use Rattle.update_client.specs.Replica.{IsEmptyList, IsAtVersion}
use Rattle.url_checker.specs.declared.findings.Hit.{Hit}
use Rattle.url_hashes.specs.Hashes.{hashes_of}
use Rattle.url_checker.specs.Hits.{hits_of}

-- the full hashes of a list that is at a version
pub record IsFullAtVersion (history : History) (token_at : Naming) (held : Held) (hashes : List (List ℕ)) : Type 0 where
  pub at : IsAtVersion history token_at held
  pub are : hashes ≡ full_hashes_at history held.name at.version

-- The full hashes of a held list: none where it is empty without a token, and else those of the version that its token names.
abbrev pub IsFullOf : History → Naming → Held → List (List ℕ) → Type 0
IsFullOf history token_at held hashes = (IsEmptyList held × (hashes ≡ [])) ⊎ IsFullAtVersion history token_at held hashes

-- One of these lists has this name, and these are its full hashes.
pub record IsFullIn (history : History) (token_at : Naming) (lists : List Held) (name : ListName) (hashes : List (List ℕ)) : Type 0 where
  pub held : Held
  pub member : Contains lists held
  pub named : held.name ≡ name
  pub full : IsFullOf history token_at held hashes

-- The full hashes of the list of a name have the SHA-256 of an expression of a URL.
pub record IsListed (history : History) (token_at : Naming) (lists : List Held) (url : Url) (name : ListName) : Type 0 where
  pub hashes : List (List ℕ)
  pub full : IsFullIn history token_at lists name hashes
  pub hash : FullHash
  pub of_url : Contains (hashes_of url) hash
  pub held : Contains hashes hash.bytes

-- A hit of a URL is on the list of this name, and of this hash.
pub record HasHit (lists : List Held) (url : Url) (name : ListName) (hash : FullHash) : Type 0 where
  pub hit : Hit
  pub member : Contains (hits_of lists url) hit
  pub on_list : hit.list ≡ name
  pub of_hash : hit.hash ≡ hash
