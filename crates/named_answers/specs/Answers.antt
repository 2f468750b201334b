-- What a list server answers to a fetch request and to a find request under the names that are asked, by the lists that answer for
-- them (`threatListUpdates.fetch` and `fullHashes.find` of the Safe Browsing Update API, version 4).
use Rattle.std.specs.Prelude.{◌≡◌, ℕ, ◌*◌, true, List, [], map, filter, Contains, Option, Some, option_map}
use Rattle.std.specs.List.{filter_map, flat_map}
use Rattle.std.specs.Option.{option_map_or}
use Rattle.sb_model.specs.declared.names.ListName.{ListName}
use Rattle.sb_model.specs.History.{History, full_hashes_at, version_count}
use Rattle.sb_model.specs.Naming.{Naming}
use Rattle.answering_lists.specs.Lists.{answered_names, answering}
use Rattle.update_messages.specs.Answer.{update_for}
use Rattle.update_messages.specs.Messages.{AskedList, Request, UpdatedList}
use Rattle.update_messages.specs.declared.response.FetchResponse.{FetchResponse}
use Rattle.hash_messages.specs.Matches.{asks_hash, asks_list, hashes_asked}
use Rattle.hash_messages.specs.Messages.{AskedHashes}
use Rattle.hash_messages.specs.declared.response.FindResponse.{FindResponse}
use Rattle.hash_messages.specs.declared.response.Match.{Match}

-- ---- updates

-- the same item of another list
abbrev pub asked_of_list : ListName → AskedList → AskedList
asked_of_list list asked = record asked { name = list }

-- the same update under another name
abbrev pub under_name : ListName → UpdatedList → UpdatedList
under_name name update = record update { name = name }

-- the update that a list has for an item, under the name for which the item asks
abbrev pub named_update : History → Naming → AskedList → ListName → UpdatedList
named_update history token_at asked list = under_name asked.name (update_for history token_at (asked_of_list list asked))

-- the update for an item by the list that answers for it, if there is one
abbrev pub named_update_for : History → Naming → AskedList → Option UpdatedList
named_update_for history token_at asked = option_map (named_update history token_at asked) (answering history asked.name)

-- The answer to a request, with a minimum wait in seconds: one update for each item for which a list answers, in their order, and
-- none for others.
abbrev pub named_fetch_answer : History → Naming → ℕ → Request → FetchResponse
named_fetch_answer history token_at wait request = record {
  items = filter_map (named_update_for history token_at) request.items;
  wait = wait * 1000000000;
}

-- an update that the answer has: that of a list that answers for an asked item
pub record IsNamedUpdate (history : History) (token_at : Naming) (request : Request) (update : UpdatedList) : Type 0 where
  pub asked : AskedList
  pub is_asked : Contains request.items asked
  pub list : ListName
  pub answers : answering history asked.name ≡ Some list
  pub made : update ≡ named_update history token_at asked list

-- ---- matches

-- the asked hashes of the list that answers for a name, and none if no list does
abbrev pub hashes_for : History → AskedHashes → ListName → List (List ℕ)
hashes_for history asked name = option_map_or (hashes_asked history asked) (answering history name) []

-- the matches under a name, each to be kept for so many seconds
abbrev pub named_matches_in : History → ℕ → AskedHashes → ListName → List Match
named_matches_in history cache asked name =
    map (λ hash. record { name = name; hash = record { bytes = hash }; cache = cache * 1000000000 }) (hashes_for history asked name)

-- the names that are asked and for which a list answers, in the order of names
abbrev pub names_asked : History → AskedHashes → List ListName
names_asked history asked = filter (asks_list asked) (answered_names history)

-- the matches of all names
abbrev pub named_matches : History → ℕ → AskedHashes → List Match
named_matches history cache asked = flat_map (named_matches_in history cache asked) (names_asked history asked)

-- the answer to a request, with the minimum wait and the two times of keeping in seconds
abbrev pub named_find_answer : History → ℕ → ℕ → ℕ → AskedHashes → FindResponse
named_find_answer history wait cache negative asked = record {
  matches = named_matches history cache asked;
  wait = wait * 1000000000;
  negative = negative * 1000000000;
}

-- a match that the answer has: its name is asked, and its hash is one of the list that answers for that name
pub record IsNamedMatch (history : History) (cache : ℕ) (asked : AskedHashes) (found : Match) : Type 0 where
  pub list : ListName
  pub answers : answering history found.name ≡ Some list
  pub name_asked : asks_list asked found.name ≡ true
  pub held : Contains (full_hashes_at history list (version_count history)) found.hash.bytes
  pub hash_asked : asks_hash asked found.hash.bytes ≡ true
  pub cache_told : found.cache ≡ cache * 1000000000
