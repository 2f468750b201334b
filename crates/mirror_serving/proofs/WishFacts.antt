-- Requests that wish the same of a mirror have one answer.
use Rattle.std.proofs.Common.{◌≡◌, ℕ, ◌+◌, ◌<◌, List, [], ◌∷◌, ◌++◌, Bool, true, false, cond, length, map, take, get_or, append-nil, Option, Some, None, refl, sym, ap, ◌∙◌}
use Rattle.std.specs.Prelude.{find}
use Rattle.std.specs.List.{range_with_len}
use Rattle.std.specs.Str.{bytes_eq}
use Rattle.std.proofs.lemmas.List.{map-append, take_more}
use Rattle.std.proofs.lemmas.List.Elements.{filter-append}
use Rattle.std.proofs.lemmas.Slice.Eq.{bytes_eq-Decides}
use Rattle.update_messages.specs.Messages.{AskedList, Request, UpdatedList}
use Rattle.update_messages.specs.Writing.{spelling_of_response}
use Rattle.update_messages.specs.declared.response.FetchResponse.{FetchResponse}
use Rattle.mirror_places.specs.Answer.{held_at_place, is_served, mirror_answer, mirror_update, place_named, set_in, update_from}
use Rattle.mirror_places.specs.Places.{Places, newest_place}
use Rattle.mirror_places.specs.Tokens.{mirror_token}
use Rattle.mirror_serving.specs.PlaceWish.{place_wish_answer, place_wish_of, place_wish_update, place_wishes_of, served_items}
use Rattle.mirror_serving.specs.Response.{mirror_text}
use Rattle.mirror_serving.specs.declared.wish.PlaceWish.{PlaceWish}

-- ---- one item

-- what is found passes
found_passes : {X : Type 0} (p : X → Bool) (xs : List X) (x : X) → find p xs ≡ Some x → p x ≡ true
found_passes p [] x h = absurd (cc)
found_passes p (y ∷ ys) x h = go (p y) refl h (found_passes p ys x)
  where
    go : (b : Bool) → p y ≡ b → cond b (Some y) (find p ys) ≡ Some x → (find p ys ≡ Some x → p x ≡ true) → p x ≡ true
    go true e here more = let same : y ≡ x = cc in ap p (sym same) ∙ e
    go false e here more = more here

-- a state that names a place is its token
token_named : (mirror : Places) (asked : AskedList) (place : ℕ) → place_named mirror asked.name asked.state ≡ Some place → mirror_token mirror.epoch asked.name place ≡ asked.state
token_named mirror asked place is =
    (bytes_eq-Decides (mirror_token mirror.epoch asked.name place) asked.state).0
    (found_passes (λ (p : ℕ). bytes_eq (mirror_token mirror.epoch asked.name p) asked.state) (range_with_len mirror.gone (length mirror.kept)) place is)

module _ (mirror : Places) (asked : AskedList) where
  abbrev newest : List (List ℕ)
  newest = set_in (held_at_place mirror (newest_place mirror) asked.name)

  abbrev token : List ℕ
  token = mirror_token mirror.epoch asked.name (newest_place mirror)

  abbrev wish_at : Option ℕ → PlaceWish
  wish_at found = record { list = asked.name; place = found; rice = asked.rice }

  by_place : (found : Option ℕ) → place_named mirror asked.name asked.state ≡ found
      → update_from mirror asked newest token found ≡ place_wish_update mirror (wish_at found)
  by_place None is = refl
  by_place (Some place) is =
      ap (λ (state : List ℕ). update_from mirror (record asked { state = state }) newest token (Some place)) (sym (token_named mirror asked place is))

  pub wished : mirror_update mirror asked ≡ place_wish_update mirror (place_wish_of mirror asked)
  wished = by_place (place_named mirror asked.name asked.state) refl

-- ---- all items

each_wished : (mirror : Places) (items : List AskedList) → map (mirror_update mirror) items ≡ map (place_wish_update mirror) (map (place_wish_of mirror) items)
each_wished mirror [] = refl
each_wished mirror (asked ∷ items) =
    ap (λ (update : UpdatedList). update ∷ map (mirror_update mirror) items) (wished mirror asked)
    ∙ ap (λ (updates : List UpdatedList). place_wish_update mirror (place_wish_of mirror asked) ∷ updates) (each_wished mirror items)

pub answered : (mirror : Places) (wait : ℕ) (request : Request) → mirror_answer mirror wait request ≡ place_wish_answer mirror wait (place_wishes_of mirror request.items)
answered mirror wait request =
    ap (λ (updates : List UpdatedList). let response : FetchResponse = record { items = updates; wait = (mirror_answer mirror wait request).wait } in response)
    (each_wished mirror (served_items mirror request.items))

pub one_text : (mirror : Places) (wait : ℕ) (first second : Request) → place_wishes_of mirror first.items ≡ place_wishes_of mirror second.items
    → mirror_text mirror wait first ≡ mirror_text mirror wait second
one_text mirror wait first second same =
    ap spelling_of_response (answered mirror wait first ∙ ap (place_wish_answer mirror wait) same ∙ sym (answered mirror wait second))

-- ---- served items, one by one

module _ (mirror : Places) (items : List AskedList) (i : ℕ) (asked : AskedList) (below : i < length items) (is : asked ≡ get_or items i asked) where
  one_further : served_items mirror (take (i + 1) items) ≡ served_items mirror (take i items) ++ served_items mirror (asked ∷ [])
  one_further =
      ap (served_items mirror) (take_more items i asked below)
      ∙ filter-append (λ (a : AskedList). is_served mirror a.name) (take i items) (get_or items i asked ∷ [])
      ∙ ap (λ (a : AskedList). served_items mirror (take i items) ++ served_items mirror (a ∷ [])) (sym is)

  with_end : (b : Bool) → is_served mirror asked.name ≡ b → served_items mirror (take (i + 1) items) ≡ served_items mirror (take i items) ++ cond b (asked ∷ []) []
  with_end b known = one_further ∙ ap (λ (s : Bool). served_items mirror (take i items) ++ cond s (asked ∷ []) []) known

  -- one whose list is not served wishes nothing
  pub not_wished : (wishes : List PlaceWish) → is_served mirror asked.name ≡ false → wishes ≡ place_wishes_of mirror (take i items) → wishes ≡ place_wishes_of mirror (take (i + 1) items)
  not_wished wishes known are =
      are ∙ sym (ap (map (place_wish_of mirror)) (with_end false known ∙ append-nil (served_items mirror (take i items))))

  -- one wish more
  pub wished_more : (wishes more : List PlaceWish) (wish : PlaceWish) → is_served mirror asked.name ≡ true → wish ≡ place_wish_of mirror asked → more ≡ wishes ++ wish ∷ []
      → wishes ≡ place_wishes_of mirror (take i items) → more ≡ place_wishes_of mirror (take (i + 1) items)
  wished_more wishes more wish known made pushed are =
      pushed ∙ ap (λ (ws : List PlaceWish). ws ++ wish ∷ []) are ∙ ap (λ (w : PlaceWish). place_wishes_of mirror (take i items) ++ w ∷ []) made
      ∙ sym (ap (map (place_wish_of mirror)) (with_end true known) ∙ map-append (place_wish_of mirror) (served_items mirror (take i items)) (asked ∷ []))
