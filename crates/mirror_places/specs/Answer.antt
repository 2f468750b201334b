-- What a mirror answers to a fetch request.
use Rattle.std.specs.Prelude.{ℕ, ◌*◌, Bool, false, if◌then◌else◌, List, [], length, map, filter, find, Option, Some, None}
use Rattle.std.specs.List.{list_all, range_with_len}
use Rattle.std.specs.Str.{bytes_eq}
use Rattle.sb_model.specs.declared.names.ListName.{ListName}
use Rattle.update_messages.specs.Answer.{difference_update, has_size, whole_update}
use Rattle.update_messages.specs.Messages.{AskedList, Request, UpdatedList}
use Rattle.update_messages.specs.declared.response.FetchResponse.{FetchResponse}
use Rattle.update_client.specs.Held.{has_token, Held}
use Rattle.update_client.specs.Step.{list_named}
use Rattle.mirror_places.specs.Places.{Places, lists_at_place, newest_place}
use Rattle.mirror_places.specs.Tokens.{mirror_token}

-- the list of a name among those at a kept place
abbrev pub list_in : ListName → Option (List Held) → Option Held
list_in name None = None
list_in name (Some lists) = list_named name lists

abbrev pub held_at_place : Places → ℕ → ListName → Option Held
held_at_place mirror place name = list_in name (lists_at_place mirror place)

-- the set of a held list, and nothing where there is none
abbrev pub set_in : Option Held → List (List ℕ)
set_in None = []
set_in (Some held) = held.set

-- whether a list is held under a token
abbrev pub is_held : Option Held → Bool
is_held None = false
is_held (Some held) = has_token held

-- Whether a mirror answers for a list: it holds the list, and has a token of it at its newest place. One that was never fetched is
-- answered by nobody, so that no client takes an empty set for the list.
abbrev pub is_served : Places → ListName → Bool
is_served mirror name = is_held (held_at_place mirror (newest_place mirror) name)

-- the kept place that a state names, of a list
abbrev pub place_named : Places → ListName → List ℕ → Option ℕ
place_named mirror name state =
    find (λ place. bytes_eq (mirror_token mirror.epoch name place) state) (range_with_len mirror.gone (length mirror.kept))

-- The size that removals from a set are told with. They may be Rice coded where each member has four bytes.
abbrev pub removal_size : List (List ℕ) → ℕ
removal_size set = if list_all (has_size 4) set then 4 else 0

-- What leads to a newer set from that of a place that the state names, and else the whole of it.
abbrev pub update_from : Places → AskedList → (newer : List (List ℕ)) → (token : List ℕ) → Option ℕ → UpdatedList
update_from mirror asked newer token (Some place) =
    difference_update asked (removal_size (set_in (held_at_place mirror place asked.name))) (set_in (held_at_place mirror place asked.name)) newer token
update_from mirror asked newer token None = whole_update asked newer token

-- the update of an asked list to the newest place
abbrev pub mirror_update : Places → AskedList → UpdatedList
mirror_update mirror asked =
    update_from mirror asked (set_in (held_at_place mirror (newest_place mirror) asked.name)) (mirror_token mirror.epoch asked.name (newest_place mirror))
    (place_named mirror asked.name asked.state)

-- The answer to a request, with a minimum wait in seconds: one item for each asked item whose list is served, in their order, and none for
-- others. The limits of an item are not looked at.
abbrev pub mirror_answer : Places → ℕ → Request → FetchResponse
mirror_answer mirror wait request = record {
  items = map (mirror_update mirror) (filter (λ asked. is_served mirror asked.name) request.items);
  wait = wait * 1000000000;
}
