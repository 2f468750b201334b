-- A client that takes what a mirror answers holds the mirror's lists.
use Rattle.std.proofs.Common.{◌≡◌, ℕ, ◌+◌, ◌<◌, ◌≤◌, inl, inr, List, [], ◌∷◌, Bool, true, false, length, take, get_or, refl, sym, ap, subst, ◌∙◌, arith, Option, Some, None, length-take}
use Rattle.std.specs.Prelude.{if◌then◌else◌, Contains, slice_get, filter, All, ◌&&◌, not}
use Rattle.std.specs.List.{range_with_len}
use Rattle.std.specs.List.Sorted.{IsStrictlySortedBy}
use Rattle.std.specs.Str.{bytes_eq}
use Rattle.std.proofs.lemmas.List.{length-map, take_all}
use Rattle.std.proofs.lemmas.List.Elements.{All-contains, All-map, All-weaker, filter_passes}
use Rattle.std.proofs.lemmas.Option.{slice_get_within}
use Rattle.std.proofs.lemmas.Slice.Eq.{bytes_eq-Decides}
use Rattle.sb_model.specs.declared.names.ListName.{ListName}
use Rattle.sb_model.specs.Names.{same_name, name_cmp}
use Rattle.prefix_set.specs.Limits.{IsPrefixSet}
use Rattle.update_messages.specs.Answer.{difference_update, whole_update}
use Rattle.update_messages.specs.Messages.{AskedList, UpdatedList}
use Rattle.update_client.specs.Held.{AreHeldLists, Held, has_token}
use Rattle.update_client.specs.declared.fault.UpdateFault.{UpdateFault}
use Rattle.update_client.specs.declared.fault.UpdateFault.TheVariants.{StaleBase}
use Rattle.update_client.specs.Step.{after_update, after_updates, change_fault, fault_if, first_fault, held_after, is_installed, list_named, list_step, meaning_of, result_after, result_among, result_at, stale_fault, ◌or◌}
use Rattle.mirror_places.specs.Answer.{is_held, is_served, held_at_place, list_in, mirror_update, place_named, removal_size, set_in, update_from}
use Rattle.mirror_places.specs.Places.{AreAtPlace, Places, StandsForPlaces, last_place, lists_at_place, names_of_lists, newest_place}
use Rattle.mirror_places.specs.Replica.{AreMirrorItems, AnswersFromPlaces, FollowsMirrors, HaveByteSets, IsAtPlace, IsMirrorItem, IsMirrorReplica}
use Rattle.update_client.specs.Between.{IsSentSet, UpdatesLead}
use Rattle.mirror_places.specs.Tokens.{NamesPlaces, mirror_token}
use Rattle.mirror_places.proofs.Finding.{all_at, found_by, from_range, named_itself}
use Rattle.mirror_places.proofs.PlaceFacts.{kept_within, slice_get-take, stands_at}
use Rattle.mirror_places.proofs.TokenFacts.{NamesGoByCodes, names_places}

-- ---- what a list that is found is

pub record IsListAt (mirror : Places) (place : ℕ) (name : ListName) (own : Held) : Type 0 where
  pub lists : List Held
  pub there : lists_at_place mirror place ≡ Some lists
  pub named : list_named name lists ≡ Some own

pub list_there : (mirror : Places) (place : ℕ) (name : ListName) (own : Held) → held_at_place mirror place name ≡ Some own → IsListAt mirror place name own
list_there mirror place name own is = go (lists_at_place mirror place) refl is
  where
    go : (o : Option (List Held)) → lists_at_place mirror place ≡ o → list_in name o ≡ Some own → IsListAt mirror place name own
    go None e h = absurd (cc)
    go (Some lists) e h = record { lists = lists; there = e; named = h }

served_own : (o : Option Held) → is_held o ≡ true → (own : Held) × (o ≡ Some own) × (has_token own ≡ true)
served_own None h = absurd (cc)
served_own (Some own) h = (own, refl, h)

-- ---- what a fault leaves

none_before : (a b : Option UpdateFault) → (a or b) ≡ None → a ≡ None
none_before None b h = refl
none_before (Some fault) b h = absurd (cc)

no_fault : (b : Bool) (fault : UpdateFault) → fault_if b fault ≡ None → b ≡ false
no_fault true fault h = absurd (cc)
no_fault false fault h = refl

-- a partial update that names a state and is not refused names the held one
names_held : (p q : Bool) → (not false && not p && not q) ≡ false → p ≡ false → q ≡ true
names_held true q h none = absurd (cc)
names_held false true h none = refl
names_held false false h none = absurd (cc)

base_held : (held : Held) (asked : AskedList) (size : ℕ) (old newer : List (List ℕ)) (token : List ℕ) → (asked.state ≡ [] → ⊥)
    → first_fault held (difference_update asked size old newer token) ≡ None → asked.state ≡ held.token
base_held held asked size old newer token some none =
    (bytes_eq-Decides asked.state held.token).0
    (names_held (bytes_eq asked.state []) (bytes_eq asked.state held.token)
    (no_fault (not false && not (bytes_eq asked.state []) && not (bytes_eq asked.state held.token)) (StaleBase held.token asked.state)
    (none_before (stale_fault held (difference_update asked size old newer token)) (change_fault held (meaning_of (difference_update asked size old newer token))) none))
    (not_empty (bytes_eq asked.state []) refl))
  where
    not_empty : (b : Bool) → bytes_eq asked.state [] ≡ b → b ≡ false
    not_empty true e = absurd (some ((bytes_eq-Decides asked.state []).0 e))
    not_empty false e = refl

-- ---- the names stay

name_kept : (held : Held) (update : UpdatedList) (b : Bool) → (if b then list_step held update else held).name ≡ held.name
name_kept held update false = refl
name_kept held update true = go (first_fault held update)
  where
    go : (fault : Option UpdateFault) → (held_after held update fault).name ≡ held.name
    go None = refl
    go (Some fault) = refl

names_after : (lists : List Held) (update : UpdatedList) → names_of_lists (after_update lists update) ≡ names_of_lists lists
names_after [] update = refl
names_after (held ∷ lists) update =
    ap (λ (n : ListName). n ∷ names_of_lists (after_update lists update)) (name_kept held update (same_name held.name update.name))
    ∙ ap (λ (ns : List ListName). held.name ∷ ns) (names_after lists update)

pub names_kept : (lists : List Held) (updates : List UpdatedList) → names_of_lists (after_updates lists updates) ≡ names_of_lists lists
names_kept lists [] = refl
names_kept lists (update ∷ updates) = names_kept (after_update lists update) updates ∙ names_after lists update

held_after_update : (lists : List Held) (update : UpdatedList) → AreHeldLists lists → AreHeldLists (after_update lists update)
held_after_update lists update held_lists = record {
  few = omega (arith, length-map lists (λ (held : Held). if same_name held.name update.name then list_step held update else held), held_lists.few);
  rising = subst (IsStrictlySortedBy name_cmp) (sym (names_after lists update)) held_lists.rising;
}

-- ---- one update

module _ (by_codes : NamesGoByCodes) (leads : UpdatesLead) (epoch : ℕ) (names : NamesPlaces epoch) (places : List (List Held)) (few : length places ≤ last_place + 1)
    (kept : (k : ℕ) (lists : List Held) → slice_get places k ≡ Some lists → (held : Held) → Contains lists held → IsSentSet held.set) where
  -- a list at a kept place of a mirror that had come so far
  module _ (mirror : Places) (count : ℕ) (stands : StandsForPlaces mirror (take count places)) where
    place_there : (place : ℕ) (lists : List Held) → lists_at_place mirror place ≡ Some lists → slice_get places place ≡ Some lists
    place_there place lists is =
        let early : slice_get (take count places) place ≡ Some lists =
        sym (stands_at mirror (take count places) place stands (kept_within mirror place lists is)) ∙ is in
        let below : place < count = omega (arith, slice_get_within (take count places) place lists early, length-take count places) in
        sym (slice_get-take count place places below) ∙ early

    set_sent : (place : ℕ) (name : ListName) (own : Held) → IsListAt mirror place name own → IsSentSet own.set
    set_sent place name own at =
        kept place at.lists (place_there place at.lists at.there) own (found_by (λ (held : Held). same_name held.name name) at.lists own at.named).0

    -- the list after an update that led to the newest place
    at_newest : (held after : Held) (name : ListName) (own : Held) → IsListAt mirror (newest_place mirror) name own → has_token own ≡ true → mirror.epoch ≡ epoch → held.name ≡ name
        → after ≡ record { name = held.name; token = mirror_token mirror.epoch name (newest_place mirror); set = own.set; resync = false }
        → IsAtPlace epoch places after
    at_newest held after name own at fetched same is made = subst (IsAtPlace epoch places) (sym made) (record {
      place = newest_place mirror;
      lists = at.lists;
      there = place_there (newest_place mirror) at.lists at.there;
      own = own;
      named = ap (λ (n : ListName). list_named n at.lists) is ∙ at.named;
      token = ap (λ e. mirror_token e name (newest_place mirror)) same ∙ ap (λ (n : ListName). mirror_token epoch n (newest_place mirror)) (sym is);
      set = refl;
      fetched = fetched;
    })

  -- the update is the whole of the newest set
  whole_step : (held : Held) (update : UpdatedList) (item : IsMirrorItem epoch places update) → held.name ≡ update.name
      → update ≡ update_from item.mirror item.asked (set_in (held_at_place item.mirror (newest_place item.mirror) item.asked.name))
      (mirror_token item.mirror.epoch item.asked.name (newest_place item.mirror)) None
      → IsAtPlace epoch places (list_step held update)
  whole_step held update item same is =
      let mirror : Places = item.mirror in
      let asked : AskedList = item.asked in
      let token : List ℕ = mirror_token mirror.epoch asked.name (newest_place mirror) in
      let found = served_own (held_at_place mirror (newest_place mirror) asked.name) item.served in
      let own : Held = found.0 in
      let at : IsListAt mirror (newest_place mirror) asked.name own = list_there mirror (newest_place mirror) asked.name own found.1 in
      let made : update ≡ whole_update asked own.set token = is ∙ ap (λ (o : Option Held). whole_update asked (set_in o) token) found.1 in
      let named : held.name ≡ asked.name = same ∙ ap (λ (u : UpdatedList). u.name) made in
      at_newest mirror item.count item.stands held (list_step held update) asked.name own at found.2 item.own named
      (ap (list_step held) made ∙ (leads.whole asked own.set token held (set_sent mirror item.count item.stands (newest_place mirror) asked.name own at) named).1)

  -- the update leads from the set of a kept place
  partial_step : (held : Held) (update : UpdatedList) → IsMirrorReplica epoch places held → (item : IsMirrorItem epoch places update) → held.name ≡ update.name
      → first_fault held update ≡ None → (place : ℕ) → place_named item.mirror item.asked.name item.asked.state ≡ Some place
      → update ≡ update_from item.mirror item.asked (set_in (held_at_place item.mirror (newest_place item.mirror) item.asked.name))
      (mirror_token item.mirror.epoch item.asked.name (newest_place item.mirror)) (Some place)
      → IsAtPlace epoch places (list_step held update)
  partial_step held update replica item same none place e is =
      let mirror : Places = item.mirror in
      let asked : AskedList = item.asked in
      let token : List ℕ = mirror_token mirror.epoch asked.name (newest_place mirror) in
      let found = served_own (held_at_place mirror (newest_place mirror) asked.name) item.served in
      let own : Held = found.0 in
      let at : IsListAt mirror (newest_place mirror) asked.name own = list_there mirror (newest_place mirror) asked.name own found.1 in
      let old : List (List ℕ) = set_in (held_at_place mirror place asked.name) in
      let size : ℕ = removal_size old in
      let made : update ≡ difference_update asked size old own.set token = is ∙ ap (λ (o : Option Held). difference_update asked size old (set_in o) token) found.1 in
      let named : held.name ≡ asked.name = same ∙ ap (λ (u : UpdatedList). u.name) made in
      let there = found_by (λ (p : ℕ). bytes_eq (mirror_token mirror.epoch asked.name p) asked.state) (range_with_len mirror.gone (length mirror.kept)) place e in
      let within = from_range place mirror.gone (length mirror.kept) there.0 in
      let state : mirror_token epoch asked.name place ≡ asked.state =
      ap (λ n. mirror_token n asked.name place) (sym item.own) ∙ (bytes_eq-Decides (mirror_token mirror.epoch asked.name place) asked.state).0 there.1 in
      let base : asked.state ≡ held.token =
      base_held held asked size old own.set token (λ h. names.some asked.name place (state ∙ h)) (subst (λ (u : UpdatedList). first_fault held u ≡ None) made none) in
      let long = length-take item.count places in
      let below : place < item.count = omega (arith, within.1, item.stands.count, long) in
      let early : place < length places = omega (arith, within.1, item.stands.count, long) in
      let held_at : IsAtPlace epoch places held = elim replica [
        | inl empty ↦ absurd (names.some asked.name place (state ∙ base ∙ empty.token))
        | inr own_at ↦ own_at
      ] in
      let same_place : place ≡ held_at.place =
      names.place asked.name place held_at.place (omega (arith, early, few)) (omega (arith, slice_get_within places held_at.place held_at.lists held_at.there, few))
      (state ∙ base ∙ held_at.token ∙ ap (λ (n : ListName). mirror_token epoch n held_at.place) named) in
      let kept_there : lists_at_place mirror place ≡ Some held_at.lists =
      stands_at mirror (take item.count places) place item.stands within.0 ∙ slice_get-take item.count place places below
      ∙ ap (λ k. slice_get places k) same_place ∙ held_at.there in
      let old_is : held_at_place mirror place asked.name ≡ Some held_at.own =
      ap (list_in asked.name) kept_there ∙ ap (λ (n : ListName). list_named n held_at.lists) (sym named) ∙ held_at.named in
      let old_sent : IsSentSet old = subst IsSentSet (sym (ap set_in old_is))
      (set_sent mirror item.count item.stands place asked.name held_at.own (list_there mirror place asked.name held_at.own old_is)) in
      at_newest mirror item.count item.stands held (list_step held update) asked.name own at found.2 item.own named
      (ap (list_step held) made ∙ (leads.difference asked size old own.set token held old_sent
      (set_sent mirror item.count item.stands (newest_place mirror) asked.name own at) named (sym base) (held_at.set ∙ sym (ap set_in old_is))).1)

  step : (held : Held) (update : UpdatedList) → IsMirrorReplica epoch places held → IsMirrorItem epoch places update → held.name ≡ update.name
      → first_fault held update ≡ None → IsAtPlace epoch places (list_step held update)
  step held update replica item same none = go (place_named item.mirror item.asked.name item.asked.state) refl item.is
    where
      go : (found : Option ℕ) → place_named item.mirror item.asked.name item.asked.state ≡ found
          → update ≡ update_from item.mirror item.asked (set_in (held_at_place item.mirror (newest_place item.mirror) item.asked.name))
          (mirror_token item.mirror.epoch item.asked.name (newest_place item.mirror)) found
          → IsAtPlace epoch places (list_step held update)
      go None e is = whole_step held update item same is
      go (Some place) e is = partial_step held update replica item same none place e is

  -- ---- all lists

  marked : (held : Held) (mark : Bool) → IsMirrorReplica epoch places held
      → (let after : Held = record { name = held.name; token = held.token; set = held.set; resync = mark } in IsMirrorReplica epoch places after)
  marked held mark replica = elim replica [
    | inl empty ↦ inl (record { token = empty.token; set = empty.set })
    | inr at ↦ inr (record { place = at.place; lists = at.lists; there = at.there; own = at.own; named = at.named; token = at.token; set = at.set; fetched = at.fetched })
  ]

  module _ (lists : List Held) (update : UpdatedList) (held_lists : AreHeldLists lists) (item : is_installed (result_among lists update) ≡ true → IsMirrorItem epoch places update) where
    one : (held : Held) → IsMirrorReplica epoch places held → list_named held.name lists ≡ Some held
        → IsMirrorReplica epoch places (if same_name held.name update.name then list_step held update else held)
    one held replica named = go (same_name held.name update.name) refl
      where
        stepped : held.name ≡ update.name → (fault : Option UpdateFault) → first_fault held update ≡ fault → IsMirrorReplica epoch places (list_step held update)
        stepped same (Some fault) e = subst (IsMirrorReplica epoch places) (sym (ap (held_after held update) e)) (marked held true replica)
        stepped same None e = inr (step held update replica
            (item (ap (λ (o : Option Held). is_installed (result_at update o)) (ap (λ (n : ListName). list_named n lists) (sym same) ∙ named)
            ∙ ap (λ (f : Option UpdateFault). is_installed (result_after held update f)) e))
            same e)

        go : (b : Bool) → same_name held.name update.name ≡ b → IsMirrorReplica epoch places (if b then list_step held update else held)
        go true e = stepped ((by_codes held.name update.name).0 e) (first_fault held update) refl
        go false e = replica

    after_one : All (IsMirrorReplica epoch places) lists → All (IsMirrorReplica epoch places) (after_update lists update)
    after_one all =
        All-map (IsMirrorReplica epoch places) (λ (held : Held). if same_name held.name update.name then list_step held update else held) lists
        (λ k d below. one (get_or lists k d) (all k d below) (named_itself by_codes lists held_lists.rising k d below))

  pub follows : (updates : List UpdatedList) (lists : List Held) → AreHeldLists lists → All (IsMirrorReplica epoch places) lists
      → AreMirrorItems epoch places lists updates → All (IsMirrorReplica epoch places) (after_updates lists updates)
  follows [] lists held_lists all items = all
  follows (update ∷ updates) lists held_lists all items =
      follows updates (after_update lists update) (held_after_update lists update held_lists) (after_one lists update held_lists items.0 all) items.1

-- ---- the sets at the places

module _ (mirror : Places) (places : List (List Held)) (stands : StandsForPlaces mirror places) (bytes : HaveByteSets places) where
  pub sets_at : (k : ℕ) (lists : List Held) → slice_get places k ≡ Some lists → (held : Held) → Contains lists held → IsSentSet held.set
  sets_at k lists is held there = record {
    set = All-contains (λ (h : Held). IsPrefixSet h.set) lists held (all_at (AreAtPlace stands.names) places k lists stands.held is).sets there;
    bytes = All-contains (λ (h : Held). All (λ member. All (λ byte. byte < 256) member) h.set) lists held
        (all_at (λ (ls : List Held). All (λ (h : Held). All (λ member. All (λ byte. byte < 256) member) h.set) ls) places k lists bytes is) there;
  }

pub followed : NamesGoByCodes → UpdatesLead → FollowsMirrors
followed by_codes leads mirror lists updates fits held_lists places stands bytes all items =
    follows by_codes leads mirror.epoch (names_places by_codes mirror.epoch fits) places stands.few (sets_at mirror places stands bytes) updates lists held_lists all items

-- ---- what a mirror answers

pub answers : AnswersFromPlaces
answers mirror places wait request stands =
    All-map (IsMirrorItem mirror.epoch places) (mirror_update mirror) (filter (λ (asked : AskedList). is_served mirror asked.name) request.items)
    (All-weaker (λ (asked : AskedList). is_served mirror asked.name ≡ true) (λ (asked : AskedList). IsMirrorItem mirror.epoch places (mirror_update mirror asked))
    (λ asked served. record {
      count = length places;
      within = omega arith;
      mirror = mirror;
      stands = subst (StandsForPlaces mirror) (sym (take_all (length places) places (omega arith))) stands;
      own = refl;
      asked = asked;
      served = served;
      is = refl;
    })
    (filter (λ (asked : AskedList). is_served mirror asked.name) request.items)
    (filter_passes (λ (asked : AskedList). is_served mirror asked.name) request.items))
