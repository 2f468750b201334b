-- What a request for updates comes to: for each item for which a list answers the name that it asks for, that list, the version of it that
-- the item holds, and whether it takes Rice coded sets. Requests that wish the same have one answer, however they are spelled.
use Rattle.std.specs.Prelude.{◌≡◌, ◌+◌, ◌*◌, ◌==◌, ◌&&◌, ◌||◌, ℕ, Bool, true, false, not, if◌then◌else◌, List, [], length, map, filter, Option, Some, None, is_some, option_and_then}
use Rattle.sb_model.specs.declared.names.ListName.{ListName}
use Rattle.sb_model.specs.Names.{same_name}
use Rattle.sb_model.specs.History.{History, version_count, prefixes_at}
use Rattle.sb_model.specs.Target.{is_within}
use Rattle.list_versions.specs.Limits.{most_hashes}
use Rattle.answering_lists.specs.Lists.{answering, is_answered}
use Rattle.update_messages.specs.Answer.{update_to, version_named}
use Rattle.update_messages.specs.Messages.{AskedList, UpdatedList}
use Rattle.update_messages.specs.Writing.{spelling_of_response}
use Rattle.update_messages.specs.declared.response.FetchResponse.{FetchResponse}
use Rattle.named_answers.specs.Answers.{asked_of_list, under_name}
use Rattle.delta_server.specs.Tokens.{server_naming}
use Rattle.delta_server.specs.declared.answering.Settings.{Settings}
use Rattle.sb_service.specs.declared.wish.Wish.{Wish}

-- ---- what an item wishes

-- how many prefixes the newest version of a list has
abbrev pub newest_size : History → ListName → ℕ
newest_size history list = length (prefixes_at history list (version_count history))

-- Whether the limits of an item surely do not bind, of one who holds a version of its list or none. A limit of 0 never binds. Whoever
-- holds nothing is sent the newest set. Whoever holds the newest version stays there. Another set differs from the newest in no more
-- prefixes than the two have together.
abbrev pub is_free : History → AskedList → Option ℕ → Bool
is_free history asked None =
    is_within asked.max_update (newest_size history asked.name) && is_within asked.max_database (newest_size history asked.name)
is_free history asked (Some held) =
    version_count history == held
    || (is_within asked.max_update (newest_size history asked.name + most_hashes)
    && is_within asked.max_database (newest_size history asked.name))

-- the wish of an item under the name for which it asks, as it asks for the list that answers, where it holds this version of it or none
abbrev pub wish_with : History → ListName → AskedList → Option ℕ → Option Wish
wish_with history name asked held =
    if is_free history asked held
    then Some (record { name = name; list = asked.name; held = held; rice = asked.rice })
    else None

-- the same where its state tells what it holds
abbrev pub wish_of_list : History → AskedList → ListName → Option Wish
wish_of_list history asked list =
    wish_with history asked.name (asked_of_list list asked) (version_named history (server_naming history) list asked.state)

-- The wish of an item: the name for which it asks, the list that answers, the version of that list that its state names or none, and
-- whether it takes Rice coded sets. It has one if a list answers and its limits surely do not bind.
abbrev pub wish_of : History → AskedList → Option Wish
wish_of history asked = option_and_then (wish_of_list history asked) (answering history asked.name)

-- the items for which a list answers, in order
abbrev pub answered_items : History → List AskedList → List AskedList
answered_items history items = filter (λ asked. is_answered history asked.name) items

-- Each item for which a list answers has a wish, and in order they are these. Other items are not answered.
abbrev pub AreWishesOf : History → List AskedList → List Wish → Type 0
AreWishesOf history items wishes = map (wish_of history) (answered_items history items) ≡ map Some wishes

-- ---- the answer to wishes

-- a state that names a version of a list, or none
abbrev pub state_for : History → ListName → Option ℕ → List ℕ
state_for history list None = []
state_for history list (Some held) = server_naming history list held

-- an item of the list that answers, without limits, that wishes so
abbrev pub asked_by_wish : History → Wish → AskedList
asked_by_wish history wish = record {
  name = wish.list;
  state = state_for history wish.list wish.held;
  max_update = 0;
  max_database = 0;
  raw = true;
  rice = wish.rice;
}

-- the update that brings it to the newest version, under the name that was asked
abbrev pub wished_update : History → Wish → UpdatedList
wished_update history wish =
    under_name wish.name (update_to history (server_naming history) (asked_by_wish history wish) wish.held (version_count history))

-- the answer to a request that wishes so
abbrev pub wished_answer : History → ℕ → List Wish → FetchResponse
wished_answer history wait wishes = record { items = map (wished_update history) wishes; wait = wait * 1000000000 }

-- Its text is the answer to wishes.
abbrev pub IsWishedText : History → Settings → List Wish → List ℕ → Type 0
IsWishedText history times wishes text = text ≡ spelling_of_response (wished_answer history times.wait wishes)

-- ---- which wishes are the same

abbrev pub same_version : Option ℕ → Option ℕ → Bool
same_version None None = true
same_version (Some held) (Some other) = held == other
same_version held other = false

abbrev pub same_choice : Bool → Bool → Bool
same_choice true other = other
same_choice false other = not other

abbrev pub same_wish : Wish → Wish → Bool
same_wish wish other =
    same_name wish.name other.name && same_name wish.list other.list && same_version wish.held other.held && same_choice wish.rice other.rice

-- whether an item wishes a whole list
abbrev pub is_whole : Wish → Bool
is_whole wish = not (is_some wish.held)
