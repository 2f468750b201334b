-- States that name no kept place of a mirror, and no version of a list server.
use Rattle.std.specs.Prelude.{◌≡◌, ◌≢◌, ◌≤◌, ◌<◌, ◌^◌, ◌⊎◌, ℕ, List, None}
use Rattle.sb_model.specs.declared.names.ListName.{ListName}
use Rattle.sb_model.specs.History.{History, prefixes_at}
use Rattle.sb_model.specs.Target.{target_version}
use Rattle.update_messages.specs.Answer.{update_for, version_named, whole_update}
use Rattle.update_messages.specs.Messages.{AskedList}
use Rattle.update_client.specs.Held.{Held}
use Rattle.delta_server.specs.Tokens.{server_naming, server_token}
use Rattle.mirror_places.specs.Answer.{held_at_place, mirror_update, place_named, set_in}
use Rattle.mirror_places.specs.Places.{Places, StandsForPlaces, last_place, lists_at_place, newest_place}
use Rattle.mirror_places.specs.Tokens.{mirror_token}

-- ---- at a mirror

-- the token of some version of some list, of any list server
pub record IsServerToken (state : List ℕ) : Type 0 where
  pub epoch : ℕ
  pub list : ListName
  pub version : ℕ
  pub is : state ≡ server_token epoch list version

-- A token of a mirror, for another epoch, for another list, or for a place that is not kept.
pub record IsOtherMirrorToken (mirror : Places) (name : ListName) (state : List ℕ) : Type 0 where
  pub epoch : ℕ
  pub fits : epoch < 2 ^ 64
  pub list : ListName
  pub place : ℕ
  pub within : place ≤ last_place
  pub is : state ≡ mirror_token epoch list place
  pub other : (epoch ≢ mirror.epoch) ⊎ (list ≢ name) ⊎ (lists_at_place mirror place ≡ None)

-- one of either kind
abbrev pub IsStranger : Places → ListName → List ℕ → Type 0
IsStranger mirror name state = IsServerToken state ⊎ IsOtherMirrorToken mirror name state

-- A stranger names no kept place.
abbrev pub StrangersNameNoPlace : Type 0
StrangersNameNoPlace =
    (mirror : Places) (places : List (List Held)) (name : ListName) (state : List ℕ) → mirror.epoch < 2 ^ 64 → StandsForPlaces mirror places
    → IsStranger mirror name state → place_named mirror name state ≡ None

-- So who asks with one gets the whole list at the newest place.
abbrev pub StrangersGetWholeLists : Type 0
StrangersGetWholeLists =
    (mirror : Places) (places : List (List Held)) (asked : AskedList) → mirror.epoch < 2 ^ 64 → StandsForPlaces mirror places
    → IsStranger mirror asked.name asked.state
    → mirror_update mirror asked
    ≡ whole_update asked (set_in (held_at_place mirror (newest_place mirror) asked.name)) (mirror_token mirror.epoch asked.name (newest_place mirror))

-- ---- at a list server

-- A token of a mirror names no version of any list.
abbrev pub MirrorTokensNameNoVersion : Type 0
MirrorTokensNameNoVersion =
    (history : History) (name list : ListName) (epoch place : ℕ)
    → version_named history (server_naming history) name (mirror_token epoch list place) ≡ None

-- What a server answers for an asked list is the whole of it at this version.
abbrev pub IsAnsweredWhole : History → AskedList → (version : ℕ) → Type 0
IsAnsweredWhole history asked version =
    update_for history (server_naming history) asked
    ≡ whole_update asked (prefixes_at history asked.name version) (server_token history.epoch asked.name version)

-- So who asks with one gets a whole list, at the version to which one is brought who has none.
abbrev pub MirrorTokensGetWholeLists : Type 0
MirrorTokensGetWholeLists =
    (history : History) (asked : AskedList) (list : ListName) (epoch place : ℕ) → asked.state ≡ mirror_token epoch list place
    → IsAnsweredWhole history asked (target_version history asked.name None asked.max_update asked.max_database)
