-- What was said of hits, and when it is right.
use Rattle.std.specs.Prelude.{◌≡◌, ◌≢◌, ℕ, List, Contains}
use Rattle.sb_model.specs.declared.names.ListName.{ListName}
use Rattle.sb_model.specs.History.{History}
use Rattle.sb_model.specs.Naming.{Naming}
use Rattle.hash_prefixes.specs.declared.hashes.FullHash.{FullHash}
use Rattle.update_client.specs.Held.{Held}
use Rattle.full_hash_cache.specs.declared.pair.Cached.{Cached}
use Rattle.full_hash_cache.specs.declared.pair.Cached.TheVariants.{Unsafe, Safe, Ask}
use Rattle.url_checker.specs.declared.findings.Hit.{Hit}
use Rattle.client_laws.specs.Full.{IsFullIn}

-- what is said of each hit: that it is unsafe, that it is safe, or nothing, where it is left open as one to ask for
abbrev pub Rulings : Type 0
Rulings = Hit → Cached

-- What is said of a hash is right by the full hashes of a list: unsafe where they have it, and safe where they do not.
abbrev pub IsRight : Cached → List (List ℕ) → FullHash → Type 0
IsRight Unsafe hashes hash = Contains hashes hash.bytes
IsRight Safe hashes hash = Contains hashes hash.bytes → ⊥
IsRight Ask hashes hash = Unit {0}

-- What is said of each hit is right by the full hashes of its list.
abbrev pub AreRight : History → Naming → List Held → List Hit → Rulings → Type 0
AreRight history token_at lists hits said = (hit : Hit) (hashes : List (List ℕ))
    → Contains hits hit → IsFullIn history token_at lists hit.list hashes → IsRight (said hit) hashes hit.hash

-- ---- what is said of all of them

abbrev pub AreAllSafe : List Hit → Rulings → Type 0
AreAllSafe hits said = (hit : Hit) → Contains hits hit → said hit ≡ Safe

abbrev pub IsNoneOpen : List Hit → Rulings → Type 0
IsNoneOpen hits said = (hit : Hit) → Contains hits hit → said hit ≢ Ask

-- A hit on the list of this name is said to be unsafe.
pub record IsCalledUnsafe (hits : List Hit) (said : Rulings) (name : ListName) : Type 0 where
  pub hit : Hit
  pub member : Contains hits hit
  pub on_list : hit.list ≡ name
  pub unsafe : said hit ≡ Unsafe
