-- Updates by the lists that answer, and their names.
use Rattle.std.proofs.Common.{◌≡◌, ◌⊎◌, ℕ, suc, ◌+◌, ◌<◌, ◌≤◌, Bool, true, false, not, cond, List, [], ◌∷◌, ◌++◌, length, map, take, drop, get_or, Option, Some, None, inl, inr, refl, sym, ap, ◌∙◌, arith, append-nil, append_assoc, add-one, drop-cons}
use Rattle.std.specs.Prelude.{◌&&◌, ◌||◌, if◌then◌else◌, option_map, All}
use Rattle.std.specs.List.{cons_option, filter_map, list_any}
use Rattle.std.proofs.lemmas.List.{take_more}
use Rattle.std.proofs.lemmas.List.Elements.{filter_map-append}
use Rattle.std.proofs.lemmas.List.Folds.{list_any_none}
use Rattle.sb_model.specs.declared.names.ListName.{ListName}
use Rattle.sb_model.specs.History.{History, declares}
use Rattle.sb_model.specs.Naming.{Naming}
use Rattle.answering_lists.specs.Lists.{answering, for_any_platform, is_answered_for_any}
use Rattle.update_messages.specs.Answer.{declared_items, fetch_answer, update_for, update_to, version_named}
use Rattle.update_messages.specs.Messages.{AskedList, Request, UpdatedList}
use Rattle.update_messages.specs.declared.response.FetchResponse.{FetchResponse}
use Rattle.named_answers.specs.Answers.{asked_of_list, named_fetch_answer, named_update, named_update_for, under_name}
use Rattle.named_answers.specs.Naming.{item_of_answering, name_if_answered, under_names}

-- ---- what is given of items, one by one

module _ {X Y : Type 0} (h : X → Option Y) (xs : List X) (i : ℕ) (x : X) (below : i < length xs) (is : x ≡ get_or xs i x) where
  one_further : filter_map h (take (i + 1) xs) ≡ filter_map h (take i xs) ++ cons_option (h x) []
  one_further =
      ap (filter_map h) (take_more xs i x below) ∙ filter_map-append h (take i xs) (get_or xs i x ∷ [])
      ∙ ap (λ (y : X). filter_map h (take i xs) ++ cons_option (h y) []) (sym is)

  -- nothing of one item more
  pub nothing_more : h x ≡ None → filter_map h (take i xs) ≡ filter_map h (take (i + 1) xs)
  nothing_more none =
      sym (one_further ∙ ap (λ (o : Option Y). filter_map h (take i xs) ++ cons_option o []) none ∙ append-nil (filter_map h (take i xs)))

  -- something of one item more
  pub one_more : (y : Y) (old new : List Y) → h x ≡ Some y → old ≡ filter_map h (take i xs) → new ≡ old ++ y ∷ [] → new ≡ filter_map h (take (i + 1) xs)
  one_more y old new some before pushed =
      pushed ∙ ap (λ (ys : List Y). ys ++ y ∷ []) before
      ∙ sym (one_further ∙ ap (λ (o : Option Y). filter_map h (take i xs) ++ cons_option o []) some)

pub few_given : {X Y : Type 0} (h : X → Option Y) (xs : List X) → length (filter_map h xs) ≤ length xs
few_given h [] = omega arith
few_given {X = X} {Y = Y} h (x ∷ xs) = go (h x) (few_given h xs)
  where
    go : (o : Option Y) → length (filter_map h xs) ≤ length xs → length (cons_option o (filter_map h xs)) ≤ suc (length xs)
    go None few = omega (arith, few)
    go (Some y) few = omega (arith, few)

-- ---- names put back, one by one

pub under_more : (names : List ListName) (i : ℕ) (d : ListName) (update : UpdatedList) (named new whole before after : List UpdatedList) → i < length names
    → before ≡ update ∷ after → new ≡ named ++ under_name (get_or names i d) update ∷ []
    → named ++ under_names (drop i names) before ≡ whole → new ++ under_names (drop (i + 1) names) after ≡ whole
under_more names i d update named new whole before after within first made so_far =
    let name : ListName = get_or names i d in
    let here : drop i names ≡ name ∷ drop (i + 1) names = rw (add-one, drop-cons names i d) refl in
    ap (λ (us : List UpdatedList). us ++ under_names (drop (i + 1) names) after) made
    ∙ append_assoc named _ _
    ∙ sym (ap (λ (ns : List ListName). named ++ under_names ns before) here ∙ ap (λ (us : List UpdatedList). named ++ under_names (name ∷ drop (i + 1) names) us) first)
    ∙ so_far

-- ---- the list that answers

when_one_or_other : (b c : Bool) (own general list : ListName) → (if b then Some own else if c then Some general else None) ≡ Some list
    → ((b ≡ true) × (list ≡ own)) ⊎ ((c ≡ true) × (list ≡ general))
when_one_or_other true c own general list is = inl (refl, cc)
when_one_or_other false true own general list is = inr (refl, cc)
when_one_or_other false false own general list is = absurd (cc)

-- it is the own list or that for any platform, and it is declared
pub answers_by : (history : History) (name list : ListName) → answering history name ≡ Some list
    → ((declares history name ≡ true) × (list ≡ name)) ⊎ ((declares history (for_any_platform name) ≡ true) × (list ≡ for_any_platform name))
answers_by history name list is = when_one_or_other (declares history name) (declares history (for_any_platform name)) name (for_any_platform name) list is

pub declared_if_answering : (history : History) (name list : ListName) → answering history name ≡ Some list → declares history list ≡ true
declared_if_answering history name list is = elim (answers_by history name list is) [
  | inl own ↦ ap (declares history) own.1 ∙ own.0
  | inr general ↦ ap (declares history) general.1 ∙ general.0
]

-- ---- the answer by lists that answer

module _ (history : History) (token_at : Naming) where
  all_declared : (items : List AskedList) → declared_items history (filter_map (item_of_answering history) items) ≡ filter_map (item_of_answering history) items
  all_declared [] = refl
  all_declared (asked ∷ items) = go (answering history asked.name) refl (all_declared items)
    where
      go : (o : Option ListName) → answering history asked.name ≡ o
          → declared_items history (filter_map (item_of_answering history) items) ≡ filter_map (item_of_answering history) items
          → declared_items history (cons_option (option_map (λ list. asked_of_list list asked) o) (filter_map (item_of_answering history) items))
          ≡ cons_option (option_map (λ list. asked_of_list list asked) o) (filter_map (item_of_answering history) items)
      go None is rest = rest
      go (Some list) is rest =
          ap (λ (b : Bool). cond b (asked_of_list list asked ∷ declared_items history (filter_map (item_of_answering history) items))
          (declared_items history (filter_map (item_of_answering history) items))) (declared_if_answering history asked.name list is)
          ∙ ap (λ (ys : List AskedList). asked_of_list list asked ∷ ys) rest

  named_again : (items : List AskedList)
      → under_names (filter_map (name_if_answered history) items) (map (update_for history token_at) (filter_map (item_of_answering history) items))
      ≡ filter_map (named_update_for history token_at) items
  named_again [] = refl
  named_again (asked ∷ items) = go (answering history asked.name) (named_again items)
    where
      go : (o : Option ListName)
          → under_names (filter_map (name_if_answered history) items) (map (update_for history token_at) (filter_map (item_of_answering history) items))
          ≡ filter_map (named_update_for history token_at) items
          → under_names (cons_option (option_map (λ list. asked.name) o) (filter_map (name_if_answered history) items))
          (map (update_for history token_at) (cons_option (option_map (λ list. asked_of_list list asked) o) (filter_map (item_of_answering history) items)))
          ≡ cons_option (option_map (named_update history token_at asked) o) (filter_map (named_update_for history token_at) items)
      go None rest = rest
      go (Some list) rest = ap (λ (us : List UpdatedList). named_update history token_at asked list ∷ us) rest

  same_count : (items : List AskedList)
      → length (map (update_for history token_at) (filter_map (item_of_answering history) items)) ≡ length (filter_map (name_if_answered history) items)
  same_count [] = refl
  same_count (asked ∷ items) = go (answering history asked.name) (same_count items)
    where
      go : (o : Option ListName)
          → length (map (update_for history token_at) (filter_map (item_of_answering history) items)) ≡ length (filter_map (name_if_answered history) items)
          → length (map (update_for history token_at) (cons_option (option_map (λ list. asked_of_list list asked) o) (filter_map (item_of_answering history) items)))
          ≡ length (cons_option (option_map (λ list. asked.name) o) (filter_map (name_if_answered history) items))
      go None rest = rest
      go (Some list) rest = ap (λ n. suc n) rest

  made_of : (items others : List AskedList) (updates : List UpdatedList) → others ≡ filter_map (item_of_answering history) items
      → updates ≡ map (update_for history token_at) (declared_items history others)
      → updates ≡ map (update_for history token_at) (filter_map (item_of_answering history) items)
  made_of items others updates are made =
      made ∙ ap (λ (all : List AskedList). map (update_for history token_at) (declared_items history all)) are ∙ ap (map (update_for history token_at)) (all_declared items)

  -- there are as many names as updates
  pub one_each : (items others : List AskedList) (names : List ListName) (updates : List UpdatedList) → names ≡ filter_map (name_if_answered history) items
      → others ≡ filter_map (item_of_answering history) items → updates ≡ map (update_for history token_at) (declared_items history others) → length updates ≡ length names
  one_each items others names updates named are made =
      ap length (made_of items others updates are made) ∙ same_count items ∙ ap length (sym named)

  -- the updates under these names are those of the answer
  pub answered_by : (items others : List AskedList) (names : List ListName) (updates named : List UpdatedList) → names ≡ filter_map (name_if_answered history) items
      → others ≡ filter_map (item_of_answering history) items → updates ≡ map (update_for history token_at) (declared_items history others)
      → named ≡ under_names names updates → named ≡ filter_map (named_update_for history token_at) items
  answered_by items others names updates named names_are are made is =
      is ∙ ap (λ (ns : List ListName). under_names ns updates) names_are
      ∙ ap (under_names (filter_map (name_if_answered history) items)) (made_of items others updates are made) ∙ named_again items

  -- ---- requests of which each item is answered by its own list, or by none

  own_name : (asked : AskedList) (held : Option ℕ) (version : ℕ) → under_name asked.name (update_to history token_at asked held version) ≡ update_to history token_at asked held version
  own_name asked None version = refl
  own_name asked (Some held) version = refl

  one_as_before : (asked : AskedList) (b c : Bool) → (not b && c) ≡ false
      → cons_option (option_map (named_update history token_at asked) (if b then Some asked.name else if c then Some (for_any_platform asked.name) else None)) []
      ≡ map (update_for history token_at) (cond b (asked ∷ []) [])
  one_as_before asked true c none =
      ap (λ (u : UpdatedList). u ∷ []) (own_name asked (version_named history token_at asked.name asked.state) _)
  one_as_before asked false true none = absurd (cc)
  one_as_before asked false false none = refl

  consed : (o : Option UpdatedList) (us : List UpdatedList) → cons_option o us ≡ cons_option o [] ++ us
  consed None us = refl
  consed (Some u) us = refl

  sent : (b : Bool) (asked : AskedList) (rest : List AskedList)
      → map (update_for history token_at) (cond b (asked ∷ rest) rest) ≡ map (update_for history token_at) (cond b (asked ∷ []) []) ++ map (update_for history token_at) rest
  sent true asked rest = refl
  sent false asked rest = refl

  either_false : (a b : Bool) → (a || b) ≡ false → (a ≡ false) × (b ≡ false)
  either_false true b is = absurd (cc)
  either_false false b is = (refl, is)

  pub updates_as_before : (items : List AskedList) → list_any (λ (asked : AskedList). is_answered_for_any history asked.name) items ≡ false
      → filter_map (named_update_for history token_at) items ≡ map (update_for history token_at) (declared_items history items)
  updates_as_before [] none = refl
  updates_as_before (asked ∷ items) none =
      let both = either_false (is_answered_for_any history asked.name) (list_any (λ (a : AskedList). is_answered_for_any history a.name) items) none in
      consed (named_update_for history token_at asked) (filter_map (named_update_for history token_at) items)
      ∙ ap (λ (us : List UpdatedList). us ++ filter_map (named_update_for history token_at) items)
      (one_as_before asked (declares history asked.name) (declares history (for_any_platform asked.name)) both.0)
      ∙ ap (λ (us : List UpdatedList). map (update_for history token_at) (cond (declares history asked.name) (asked ∷ []) []) ++ us) (updates_as_before items both.1)
      ∙ sym (sent (declares history asked.name) asked (declared_items history items))

  pub answer_as_before : (wait : ℕ) (request : Request) → list_any (λ (asked : AskedList). is_answered_for_any history asked.name) request.items ≡ false
      → named_fetch_answer history token_at wait request ≡ fetch_answer history token_at wait request
  answer_as_before wait request none =
      ap (λ (updates : List UpdatedList). let response : FetchResponse = record { items = updates; wait = (fetch_answer history token_at wait request).wait } in response)
      (updates_as_before request.items none)

-- ---- when that is so

own_list : (b c : Bool) → b ≡ true → (not b && c) ≡ false
own_list true c is = refl
own_list false c is = absurd (cc)

no_general : (b c : Bool) → c ≡ false → (not b && c) ≡ false
no_general true c is = refl
no_general false c is = is

pub if_declared : (history : History) (items : List AskedList) → All (λ asked. declares history asked.name ≡ true) items
    → list_any (λ (asked : AskedList). is_answered_for_any history asked.name) items ≡ false
if_declared history items all =
    list_any_none (λ (asked : AskedList). is_answered_for_any history asked.name) items
    (λ k d below. own_list _ (declares history (for_any_platform (get_or items k d).name)) (all k d below))

pub if_none_general : (history : History) (items : List AskedList) → ((name : ListName) → declares history (for_any_platform name) ≡ false)
    → list_any (λ (asked : AskedList). is_answered_for_any history asked.name) items ≡ false
if_none_general history items none =
    list_any_none (λ (asked : AskedList). is_answered_for_any history asked.name) items
    (λ k d below. no_general (declares history (get_or items k d).name) _ (none (get_or items k d).name))
