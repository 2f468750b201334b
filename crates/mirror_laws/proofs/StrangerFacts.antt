-- What the bytes of a token tell of whose it is.
use Rattle.std.proofs.Common.{◌≡◌, ℕ, ◌+◌, ◌-◌, ◌<◌, ◌≤◌, ◌^◌, inl, inr, List, [], Bool, length, take, drop, get_or, refl, sym, ap, ◌∙◌, arith, Option, Some, None}
use Rattle.std.specs.Prelude.{if◌then◌else◌, slice_get}
use Rattle.std.specs.Int.{w64, from_be_bytes}
use Rattle.std.specs.List.{range_with_len}
use Rattle.std.specs.Str.{bytes_eq}
use Rattle.std.proofs.lemmas.Bool.{le-ltb}
use Rattle.std.proofs.lemmas.Nat.{from_be_bytes-to_be_bytes_8}
use Rattle.std.proofs.lemmas.Option.{none-some, slice_get-get_or}
use Rattle.std.proofs.lemmas.Slice.Eq.{bytes_eq-Decides}
use Rattle.sb_model.specs.declared.names.ListName.{ListName}
use Rattle.sb_model.specs.History.{version_count}
use Rattle.sb_model.specs.Target.{target_version}
use Rattle.update_messages.specs.Answer.{update_to, version_named}
use Rattle.update_client.specs.Held.{Held}
use Rattle.delta_server.specs.Tokens.{server_naming, server_token}
use Rattle.mirror_places.specs.Answer.{held_at_place, place_named, set_in, update_from}
use Rattle.mirror_places.specs.Places.{Places, StandsForPlaces, lists_at_place, newest_place}
use Rattle.mirror_places.specs.Tokens.{NamesPlaces, mirror_token}
use Rattle.mirror_laws.specs.Strangers.{IsOtherMirrorToken, IsServerToken, IsStranger, MirrorTokensGetWholeLists, MirrorTokensNameNoVersion, StrangersGetWholeLists, StrangersNameNoPlace}
use Rattle.mirror_laws.proofs.Elements.{from_range, none_found}

-- ---- the bytes of a token

mirror_begins : (epoch : ℕ) (list : ListName) (place : ℕ) → get_or (mirror_token epoch list place) 0 0 ≡ 2
unfolding mirror_token
mirror_begins epoch list place = refl

server_begins : (epoch : ℕ) (list : ListName) (version : ℕ) → get_or (server_token epoch list version) 0 0 ≡ 1
unfolding server_token
server_begins epoch list version = refl

epoch_in_token : (epoch : ℕ) (list : ListName) (place : ℕ) → epoch < 2 ^ 64 → from_be_bytes w64 (take 8 (drop 1 (mirror_token epoch list place))) ≡ epoch
unfolding mirror_token
epoch_in_token epoch list place fits = from_be_bytes-to_be_bytes_8 epoch fits

-- no token is of both kinds
kinds_apart : (epoch : ℕ) (list : ListName) (place other : ℕ) (another : ListName) (version : ℕ) → mirror_token epoch list place ≡ server_token other another version → ⊥
kinds_apart epoch list place other another version same =
    let is : 2 ≡ 1 = sym (mirror_begins epoch list place) ∙ ap (λ (bytes : List ℕ). get_or bytes 0 0) same ∙ server_begins other another version in
    absurd (omega (arith, is))

pub no_token_is_empty : (epoch : ℕ) (list : ListName) (place : ℕ) → mirror_token epoch list place ≡ [] → ⊥
no_token_is_empty epoch list place none =
    let is : 2 ≡ 0 = sym (mirror_begins epoch list place) ∙ ap (λ (bytes : List ℕ). get_or bytes 0 0) none in
    absurd (omega (arith, is))

-- ---- at a mirror

-- each token of a mirror names a list and a place
abbrev pub TokensName : Type 0
TokensName = (epoch : ℕ) → epoch < 2 ^ 64 → NamesPlaces epoch

module _ (tokens : TokensName) (mirror : Places) (fits : mirror.epoch < 2 ^ 64) (places : List (List Held)) (stands : StandsForPlaces mirror places) (name : ListName) (state : List ℕ) where
  kept_there : (place : ℕ) → mirror.gone ≤ place → place < mirror.gone + length mirror.kept → (lists : List Held) × (lists_at_place mirror place ≡ Some lists)
  kept_there place low high = (
    get_or mirror.kept (place - mirror.gone) [],
    ap (λ (b : Bool). if b then None else slice_get mirror.kept (place - mirror.gone)) (le-ltb place mirror.gone low)
        ∙ slice_get-get_or mirror.kept (place - mirror.gone) [] (omega (arith, low, high)),
  )

  not_server : IsServerToken state → (place : ℕ) → mirror_token mirror.epoch name place ≡ state → ⊥
  not_server token place same = kinds_apart mirror.epoch name place token.epoch token.list token.version (same ∙ token.is)

  not_other : IsOtherMirrorToken mirror name state → (place : ℕ) → mirror.gone ≤ place → place < mirror.gone + length mirror.kept → mirror_token mirror.epoch name place ≡ state → ⊥
  not_other token place low high same =
      let is : mirror_token mirror.epoch name place ≡ mirror_token token.epoch token.list token.place = same ∙ token.is in
      let epochs : token.epoch ≡ mirror.epoch =
      sym (epoch_in_token token.epoch token.list token.place token.fits) ∙ ap (λ (bytes : List ℕ). from_be_bytes w64 (take 8 (drop 1 bytes))) (sym is)
      ∙ epoch_in_token mirror.epoch name place fits in
      let own : mirror_token mirror.epoch name place ≡ mirror_token mirror.epoch token.list token.place = is ∙ ap (λ e. mirror_token e token.list token.place) epochs in
      let lists : name ≡ token.list = (tokens mirror.epoch fits).list name token.list place token.place own in
      let here : place ≡ token.place =
      (tokens mirror.epoch fits).place name place token.place (omega (arith, high, stands.count, stands.few)) token.within
      (own ∙ ap (λ (n : ListName). mirror_token mirror.epoch n token.place) (sym lists)) in
      elim token.other [
        | inl other ↦ absurd (other epochs)
        | inr (inl other) ↦ absurd (other (sym lists))
        | inr (inr gone) ↦ let kept = kept_there place low high in absurd (none-some kept.0 (sym gone ∙ ap (lists_at_place mirror) (sym here) ∙ kept.1))
      ]

  pub names_none : IsStranger mirror name state → place_named mirror name state ≡ None
  names_none stranger = none_found (λ (place : ℕ). bytes_eq (mirror_token mirror.epoch name place) state) (range_with_len mirror.gone (length mirror.kept))
      (λ place there passes.
      let range = from_range place mirror.gone (length mirror.kept) there in
      let same : mirror_token mirror.epoch name place ≡ state = (bytes_eq-Decides (mirror_token mirror.epoch name place) state).0 passes in
      elim stranger [
        | inl token ↦ not_server token place same
        | inr token ↦ not_other token place range.0 range.1 same
      ])

pub strangers_name_none : TokensName → StrangersNameNoPlace
strangers_name_none tokens mirror places name state fits stands stranger = names_none tokens mirror fits places stands name state stranger

pub strangers_get_whole : TokensName → StrangersGetWholeLists
strangers_get_whole tokens mirror places asked fits stands stranger =
    ap (λ (found : Option ℕ). update_from mirror asked (set_in (held_at_place mirror (newest_place mirror) asked.name))
    (mirror_token mirror.epoch asked.name (newest_place mirror)) found)
    (names_none tokens mirror fits places stands asked.name asked.state stranger)

-- ---- at a list server

pub none_named : MirrorTokensNameNoVersion
none_named history name list epoch place =
    none_found (λ version. bytes_eq (server_naming history name version) (mirror_token epoch list place)) (range_with_len 0 (version_count history + 1))
    (λ version there passes.
    kinds_apart epoch list place history.epoch name version
    (sym ((bytes_eq-Decides (server_token history.epoch name version) (mirror_token epoch list place)).0 passes)))

pub whole_answered : MirrorTokensGetWholeLists
whole_answered history asked list epoch place is =
    ap (λ (held : Option ℕ). update_to history (server_naming history) asked held (target_version history asked.name held asked.max_update asked.max_database))
    (ap (version_named history (server_naming history) asked.name) is ∙ none_named history asked.name list epoch place)
