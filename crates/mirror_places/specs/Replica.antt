-- What it takes that a client's lists are those of a mirror.
use Rattle.std.specs.Prelude.{◌≡◌, ◌≤◌, ◌<◌, ◌⊎◌, ◌^◌, ℕ, true, List, [], ◌∷◌, length, take, All, Some, slice_get, IsTrue, ⊤}
use Rattle.update_client.specs.Held.{AreHeldLists, Held, has_token}
use Rattle.update_client.specs.Replica.{IsEmptyList}
use Rattle.update_client.specs.Step.{after_update, after_updates, is_installed, list_named, result_among}
use Rattle.update_messages.specs.Messages.{AskedList, Request, UpdatedList}
use Rattle.mirror_places.specs.Answer.{is_served, mirror_answer, mirror_update}
use Rattle.mirror_places.specs.Places.{Places, StandsForPlaces}
use Rattle.mirror_places.specs.Tokens.{mirror_token}

-- A held list is the mirror's at the place that its token names. The mirror had fetched it by then: it held it under a token of its own server.
pub record IsAtPlace (epoch : ℕ) (places : List (List Held)) (held : Held) : Type 0 where
  pub place : ℕ
  pub lists : List Held
  pub there : slice_get places place ≡ Some lists
  pub own : Held
  pub named : list_named held.name lists ≡ Some own
  pub token : held.token ≡ mirror_token epoch held.name place
  pub set : held.set ≡ own.set
  pub fetched : IsTrue (has_token own)

-- without a token it is empty
abbrev pub IsMirrorReplica : ℕ → List (List Held) → Held → Type 0
IsMirrorReplica epoch places held = IsEmptyList held ⊎ IsAtPlace epoch places held

-- An update is an item of what a mirror of this epoch answered, when it had come so far through these places.
pub record IsMirrorItem (epoch : ℕ) (places : List (List Held)) (update : UpdatedList) : Type 0 where
  pub count : ℕ
  pub within : count ≤ length places
  pub mirror : Places
  pub stands : StandsForPlaces mirror (take count places)
  pub own : mirror.epoch ≡ epoch
  pub asked : AskedList
  pub served : IsTrue (is_served mirror asked.name)
  pub is : update ≡ mirror_update mirror asked

-- Each of these updates that is installed where it meets the lists is an item that the mirror answered. Of others nothing is said: they may
-- be damaged, or another server's.
abbrev pub AreMirrorItems : ℕ → List (List Held) → (lists : List Held) → List UpdatedList → Type 0
AreMirrorItems epoch places lists [] = ⊤
AreMirrorItems epoch places lists (update ∷ updates) =
    (is_installed (result_among lists update) ≡ true → IsMirrorItem epoch places update)
    × AreMirrorItems epoch places (after_update lists update) updates

-- the members of all sets are strings of bytes
abbrev pub HaveByteSets : List (List Held) → Type 0
HaveByteSets places = All (λ lists. All (λ (held : Held). All (λ member. All (λ byte. byte < 256) member) held.set) lists) places

-- A client that holds the lists of a mirror, and takes what that answered at any of its places, holds lists of the mirror afterwards.
abbrev pub Follows : (mirror : Places) → (lists lists' : List Held) → List UpdatedList → Type 0
Follows mirror lists lists' updates =
    (places : List (List Held)) → StandsForPlaces mirror places → HaveByteSets places → All (IsMirrorReplica mirror.epoch places) lists
    → AreMirrorItems mirror.epoch places lists updates → All (IsMirrorReplica mirror.epoch places) lists'

-- What a client takes that holds a mirror's lists leaves it with a mirror's lists. Each name stands once among its lists, as among those of
-- every client.
abbrev pub FollowsMirrors : Type 0
FollowsMirrors =
    (mirror : Places) (lists : List Held) (updates : List UpdatedList) → mirror.epoch < 2 ^ 64 → AreHeldLists lists
    → Follows mirror lists (after_updates lists updates) updates

-- Each item of what a mirror answers is an item of its places.
abbrev pub AnswersFromPlaces : Type 0
AnswersFromPlaces =
    (mirror : Places) (places : List (List Held)) (wait : ℕ) (request : Request) → StandsForPlaces mirror places
    → All (IsMirrorItem mirror.epoch places) (mirror_answer mirror wait request).items
