-- What a fetch request comes to at a mirror: for each item whose list is served its list, the kept place that its state names or none, and
-- whether it takes Rice coded sets. The limits of an item are not looked at, so each such item has a wish. Requests that wish the same have
-- one answer, however they are spelled.
use Rattle.std.specs.Prelude.{◌≡◌, ◌*◌, ◌==◌, ◌&&◌, ℕ, Bool, true, not, List, [], map, filter, Option, Some, None, is_some}
use Rattle.std.specs.Bool.{beq}
use Rattle.std.specs.Cmp.Lexicographic.{pointwise}
use Rattle.std.specs.List.{list_all}
use Rattle.std.specs.Option.{option_eq}
use Rattle.sb_model.specs.declared.names.ListName.{ListName}
use Rattle.sb_model.specs.Names.{same_name}
use Rattle.update_messages.specs.Messages.{AskedList, UpdatedList}
use Rattle.update_messages.specs.Writing.{spelling_of_response}
use Rattle.update_messages.specs.declared.response.FetchResponse.{FetchResponse}
use Rattle.mirror_places.specs.Answer.{held_at_place, is_served, place_named, set_in, update_from}
use Rattle.mirror_places.specs.Places.{Places, newest_place}
use Rattle.mirror_places.specs.Tokens.{mirror_token}
use Rattle.mirror_serving.specs.declared.wish.PlaceWish.{PlaceWish}

-- ---- what an item wishes

abbrev pub place_wish_of : Places → AskedList → PlaceWish
place_wish_of mirror asked = record { list = asked.name; place = place_named mirror asked.name asked.state; rice = asked.rice }

-- the items whose lists are served, in order
abbrev pub served_items : Places → List AskedList → List AskedList
served_items mirror items = filter (λ asked. is_served mirror asked.name) items

-- what they wish
abbrev pub place_wishes_of : Places → List AskedList → List PlaceWish
place_wishes_of mirror items = map (place_wish_of mirror) (served_items mirror items)

-- ---- the answer to wishes

-- a state that names a place of a list, or none
abbrev pub state_of_place : Places → ListName → Option ℕ → List ℕ
state_of_place mirror list None = []
state_of_place mirror list (Some place) = mirror_token mirror.epoch list place

-- an item without limits that wishes so
abbrev pub asked_by_place_wish : Places → PlaceWish → AskedList
asked_by_place_wish mirror wish = record {
  name = wish.list;
  state = state_of_place mirror wish.list wish.place;
  max_update = 0;
  max_database = 0;
  raw = true;
  rice = wish.rice;
}

-- the update that brings it to the newest place
abbrev pub place_wish_update : Places → PlaceWish → UpdatedList
place_wish_update mirror wish =
    update_from mirror (asked_by_place_wish mirror wish) (set_in (held_at_place mirror (newest_place mirror) wish.list))
    (mirror_token mirror.epoch wish.list (newest_place mirror)) wish.place

-- the answer to a request that wishes so
abbrev pub place_wish_answer : Places → ℕ → List PlaceWish → FetchResponse
place_wish_answer mirror wait wishes = record { items = map (place_wish_update mirror) wishes; wait = wait * 1000000000 }

-- Its text is the answer to wishes.
abbrev pub IsPlaceWishText : Places → ℕ → List PlaceWish → List ℕ → Type 0
IsPlaceWishText mirror wait wishes text = text ≡ spelling_of_response (place_wish_answer mirror wait wishes)

-- ---- which wishes are the same

abbrev pub same_place_wish : PlaceWish → PlaceWish → Bool
same_place_wish wish other =
    same_name wish.list other.list && option_eq (λ place another. place == another) wish.place other.place && beq wish.rice other.rice

-- whether two requests wish the same, item by item
abbrev pub same_place_wishes : (wishes others : List PlaceWish) → Bool
same_place_wishes wishes others = pointwise same_place_wish wishes others

-- whether each item wishes a whole list: such answers have the first room
abbrev pub wish_whole_lists : List PlaceWish → Bool
wish_whole_lists wishes = list_all (λ (wish : PlaceWish). not (is_some wish.place)) wishes
