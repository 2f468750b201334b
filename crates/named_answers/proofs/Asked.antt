-- What an answer under asked names has.
use Rattle.std.proofs.Common.{◌≡◌, ℕ, ◌*◌, true, List, [], filter, Contains, Option, Some, None, refl, sym, ap, ◌∙◌, subst}
use Rattle.std.specs.Prelude.{◌↔◌, is_some, option_map}
use Rattle.std.specs.List.{filter_map}
use Rattle.std.specs.Option.{option_map_or}
use Rattle.sb_model.specs.declared.names.ListName.{ListName}
use Rattle.sb_model.specs.History.{History, full_hashes_at, version_count}
use Rattle.sb_model.specs.Naming.{Naming}
use Rattle.sb_model.specs.Prefixes.{set_of}
use Rattle.answering_lists.specs.Lists.{answered_names, answering}
use Rattle.update_messages.specs.Messages.{AskedList, Request, UpdatedList}
use Rattle.hash_messages.specs.Matches.{asks_hash, asks_list, hashes_asked}
use Rattle.hash_messages.specs.Messages.{AskedHashes}
use Rattle.hash_messages.specs.declared.response.Match.{Match}
use Rattle.named_answers.specs.Answers.{hashes_for, named_matches, named_matches_in, named_update, named_update_for, names_asked, IsNamedMatch, IsNamedUpdate}
use Rattle.named_answers.proofs.Finds.{AnsweredLaw}
use Rattle.named_answers.proofs.Members.{nothing, in_filter, from_filter, in_filter_map, from_filter_map, in_flat_map, from_flat_map, in_map, from_map}

-- ---- updates

module _ (history : History) (token_at : Naming) (request : Request) (update : UpdatedList) where
  made_by : (asked : AskedList) → Contains request.items asked → named_update_for history token_at asked ≡ Some update → IsNamedUpdate history token_at request update
  made_by asked there is = go (answering history asked.name) refl is
    where
      go : (o : Option ListName) → answering history asked.name ≡ o → option_map (named_update history token_at asked) o ≡ Some update → IsNamedUpdate history token_at request update
      go None answers is = absurd (cc)
      go (Some list) answers is = record { asked = asked; is_asked = there; list = list; answers = answers; made = cc }

  pub update_asked : Contains (filter_map (named_update_for history token_at) request.items) update → IsNamedUpdate history token_at request update
  update_asked h = let found = from_filter_map (named_update_for history token_at) request.items update h in made_by found.0 found.1 found.2

  pub asked_updated : IsNamedUpdate history token_at request update → Contains (filter_map (named_update_for history token_at) request.items) update
  asked_updated is =
      in_filter_map (named_update_for history token_at) request.items is.asked update is.is_asked
      (ap (option_map (named_update history token_at is.asked)) is.answers ∙ ap Some (sym is.made))

-- ---- matches

-- what the law of sets says of members
abbrev pub MembersLaw : Type 0
MembersLaw = (ys : List (List ℕ)) (y : List ℕ) → Contains (set_of ys) y ↔ Contains ys y

module _ (answered : AnsweredLaw) (members : MembersLaw) (history : History) (cache : ℕ) (asked : AskedHashes) where
  abbrev made : ListName → List ℕ → Match
  made name hash = record { name = name; hash = record { bytes = hash }; cache = cache * 1000000000 }

  abbrev all : ListName → List (List ℕ)
  all list = full_hashes_at history list (version_count history)

  is_named : (name : ListName) (hash : List ℕ) → asks_list asked name ≡ true → Contains (hashes_for history asked name) hash → IsNamedMatch history cache asked (made name hash)
  is_named name hash asks h = go (answering history name) refl h
    where
      go : (o : Option ListName) → answering history name ≡ o → Contains (option_map_or (hashes_asked history asked) o []) hash → IsNamedMatch history cache asked (made name hash)
      go None answers h = absurd (nothing hash h)
      go (Some list) answers h =
          let found = from_filter (asks_hash asked) (all list) hash ((members (filter (asks_hash asked) (all list)) hash).0 h) in
          record { list = list; answers = answers; name_asked = asks; held = found.0; hash_asked = found.1; cache_told = refl }

  pub match_named : (found : Match) → Contains (named_matches history cache asked) found → IsNamedMatch history cache asked found
  match_named found h =
      let name = from_flat_map (named_matches_in history cache asked) (names_asked history asked) found h in
      let hash = from_map (made name.0) (hashes_for history asked name.0) found name.2 in
      subst (IsNamedMatch history cache asked) hash.2
      (is_named name.0 hash.0 (from_filter (asks_list asked) (answered_names history) name.0 name.1).1 hash.1)

  same_match : (found : Match) → found.cache ≡ cache * 1000000000 → made found.name found.hash.bytes ≡ found
  same_match found told = λ i. record { name = found.name; hash = found.hash; cache = sym told i }

  pub named_matched : (found : Match) → IsNamedMatch history cache asked found → Contains (named_matches history cache asked) found
  named_matched found is =
      let listed : Contains (answered_names history) found.name = (answered history found.name).1 (ap is_some is.answers) in
      let name = in_filter (asks_list asked) (answered_names history) found.name listed is.name_asked in
      let hash : Contains (hashes_asked history asked is.list) found.hash.bytes =
      (members (filter (asks_hash asked) (all is.list)) found.hash.bytes).1 (in_filter (asks_hash asked) (all is.list) found.hash.bytes is.held is.hash_asked) in
      let own : Contains (hashes_for history asked found.name) found.hash.bytes =
      subst (λ (o : Option ListName). Contains (option_map_or (hashes_asked history asked) o []) found.hash.bytes) (sym is.answers) hash in
      in_flat_map (named_matches_in history cache asked) (names_asked history asked) found.name found name
      (subst (Contains (named_matches_in history cache asked found.name)) (same_match found is.cache_told)
      (in_map (made found.name) (hashes_for history asked found.name) found.hash.bytes own))
