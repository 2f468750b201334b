-- Lists that can be asked for, through rounds.
use Rattle.std.proofs.Common.{◌≡◌, ◌≤◌, ℕ, List, [], ◌∷◌, Bool, true, false, cond, length, map, refl, sym, ap, ◌∙◌, subst, Option, Some, None, Result, arith}
use Rattle.std.specs.Char.{encode_utf8}
use Rattle.std.specs.Prelude.{All, IsTrue, codes}
use Rattle.std.specs.Str.{chars}
use Rattle.std.proofs.lemmas.List.Elements.{All-nil, All-cons, All-head, All-tail}
use Rattle.base64.specs.GeneralPurpose.{IsBytes}
use Rattle.sb_model.specs.declared.names.ListName.{ListName}
use Rattle.sb_model.specs.Names.{same_name}
use Rattle.sb_model.specs.History.{History, declares, up_to_version, version_count}
use Rattle.sb_model.specs.Naming.{Naming, IsNaming}
use Rattle.sb_model.specs.Target.{target_version}
use Rattle.sb_members.specs.Ranges.{IsText}
use Rattle.update_messages.specs.Answer.{update_for, update_to, version_named}
use Rattle.update_messages.specs.Messages.{AskedList, UpdatedList}
use Rattle.update_messages.specs.Ranges.{IsAskedInRange, IsRequestInRange}
use Rattle.update_messages.specs.declared.response.FetchResponse.{FetchResponse}
use Rattle.update_client.specs.Asked.{asked_list, request_asked}
use Rattle.update_client.specs.Held.{Held}
use Rattle.update_client.specs.Step.{first_fault, held_after, list_step, after_update, after_updates}
use Rattle.update_client.specs.declared.fault.UpdateFault.{UpdateFault}
use Rattle.update_client.specs.declared.options.FetchOptions.{FetchOptions}
use Rattle.sb_round.specs.Round.{Round, lists_after_round, updates_of}
use Rattle.sb_round.specs.declared.rounds.RoundFault.{RoundFault}
use Rattle.both_ends_laws.specs.Answered.{HasByteTokens, IsToken, CanBeAsked}
use Rattle.both_ends_laws.specs.Versions.{IsAnsweredRound, IsLostRound}
use Rattle.both_ends_laws.proofs.Answers.{TargetsAreVersions, count_up_to}
use Rattle.both_ends_laws.proofs.Declared.{all_kept, answer_is, update_of, updates_for}

-- ---- the request of such lists keeps to its ranges

no_bytes : IsBytes []
no_bytes = λ i. omega arith

pub empty_token : IsToken []
empty_token = record { bytes = no_bytes; short = omega arith }

state_of : (mark : Bool) (token : List ℕ) → IsToken token → IsToken (cond mark [] token)
state_of true token h = empty_token
state_of false token h = h

asked_in_range : (options : FetchOptions) → (held : Held) → IsToken held.token → IsAskedInRange (asked_list options held)
asked_in_range options held token =
    let state = state_of held.resync held.token token in
    record { limits = record { state = state.short; max_update = options.update_limit; max_database = options.database_limit }; state = state.bytes }

all_in_range : (options : FetchOptions) → (lists : List Held) → All (λ (held : Held). IsToken held.token) lists → All IsAskedInRange (map (asked_list options) lists)
all_in_range options [] h = All-nil IsAskedInRange
all_in_range options (held ∷ lists) h =
    All-cons IsAskedInRange (asked_list options held) (map (asked_list options) lists)
    (asked_in_range options held (All-head (λ (held : Held). IsToken held.token) held lists h))
    (all_in_range options lists (All-tail (λ (held : Held). IsToken held.token) held lists h))

length-map-asked : (options : FetchOptions) (lists : List Held) → length (map (asked_list options) lists) ≡ length lists
length-map-asked options [] = refl
length-map-asked options (held ∷ lists) = omega (arith, length-map-asked options lists)

text_of_id : IsText (codes "sblist")
unfolding chars encode_utf8
text_of_id = refl

text_of_version : IsText (codes "1")
unfolding chars encode_utf8
text_of_version = refl

pub request_in_range : (options : FetchOptions) (lists : List Held) → CanBeAsked lists → IsRequestInRange (request_asked lists options)
request_in_range options lists askable = record {
  limits = record { few = omega (arith, length-map-asked options lists, askable.few) };
  client = record { id = text_of_id; version = text_of_version };
  items = all_in_range options lists askable.tokens;
}

-- ---- after updates whose states are tokens

abbrev pub HasToken : UpdatedList → Type 0
HasToken update = IsToken update.new_state

token_after : (held : Held) (update : UpdatedList) (fault : Option UpdateFault) → HasToken update → IsToken held.token → IsToken (held_after held update fault).token
token_after held update None new old = new
token_after held update (Some fault) new old = old

token_if : (held : Held) (update : UpdatedList) (same : Bool) → HasToken update → IsToken held.token → IsToken (cond same (list_step held update) held).token
token_if held update true new old = token_after held update (first_fault held update) new old
token_if held update false new old = old

name_after : (held : Held) (update : UpdatedList) (fault : Option UpdateFault) → (held_after held update fault).name ≡ held.name
name_after held update None = refl
name_after held update (Some fault) = refl

name_if : (held : Held) (update : UpdatedList) (same : Bool) → (cond same (list_step held update) held).name ≡ held.name
name_if held update true = name_after held update (first_fault held update)
name_if held update false = refl

tokens_after_one : (lists : List Held) (update : UpdatedList) → HasToken update → All (λ (held : Held). IsToken held.token) lists → All (λ (held : Held). IsToken held.token) (after_update lists update)
tokens_after_one [] update new h = h
tokens_after_one (held ∷ lists) update new h =
    All-cons (λ (held : Held). IsToken held.token) (cond (same_name held.name update.name) (list_step held update) held) (after_update lists update)
    (token_if held update (same_name held.name update.name) new (All-head (λ (held : Held). IsToken held.token) held lists h))
    (tokens_after_one lists update new (All-tail (λ (held : Held). IsToken held.token) held lists h))

names_after_one : (lists : List Held) (update : UpdatedList) → map (λ (held : Held). held.name) (after_update lists update) ≡ map (λ (held : Held). held.name) lists
names_after_one [] update = refl
names_after_one (held ∷ lists) update =
    ap (λ (name : ListName). name ∷ map (λ (held : Held). held.name) (after_update lists update)) (name_if held update (same_name held.name update.name))
    ∙ ap (λ (names : List ListName). held.name ∷ names) (names_after_one lists update)

pub names_after : (lists : List Held) (updates : List UpdatedList) → map (λ (held : Held). held.name) (after_updates lists updates) ≡ map (λ (held : Held). held.name) lists
names_after lists [] = refl
names_after lists (update ∷ updates) = names_after (after_update lists update) updates ∙ names_after_one lists update

tokens_after : (lists : List Held) (updates : List UpdatedList) → All HasToken updates → All (λ (held : Held). IsToken held.token) lists → All (λ (held : Held). IsToken held.token) (after_updates lists updates)
tokens_after lists [] new h = h
tokens_after lists (update ∷ updates) new h =
    tokens_after (after_update lists update) updates (All-tail HasToken update updates new) (tokens_after_one lists update (All-head HasToken update updates new) h)

pub length-names : (lists : List Held) → length (map (λ (held : Held). held.name) lists) ≡ length lists
length-names [] = refl
length-names (held ∷ lists) = omega (arith, length-names lists)

pub as_many : (lists lists' : List Held) → map (λ (held : Held). held.name) lists' ≡ map (λ (held : Held). held.name) lists → length lists' ≡ length lists
as_many lists lists' same = sym (length-names lists') ∙ ap length same ∙ length-names lists

pub askable_after : (lists : List Held) (updates : List UpdatedList) → All HasToken updates → CanBeAsked lists → CanBeAsked (after_updates lists updates)
askable_after lists updates new askable =
    let same = names_after lists updates in
    record {
      few = omega (arith, as_many lists (after_updates lists updates) same, askable.few);
      tokens = tokens_after lists updates new askable.tokens;
    }

-- ---- what a server answers has tokens

state_to : (history : History) (token_at : Naming) (asked : AskedList) (held : Option ℕ) (version : ℕ) → (update_to history token_at asked held version).new_state ≡ token_at asked.name version
state_to history token_at asked (Some held) version = refl
state_to history token_at asked None version = refl

module _ (last : TargetsAreVersions) (history : History) (token_at : Naming) (naming : IsNaming history token_at) (bytes : HasByteTokens history token_at) (options : FetchOptions) (version : ℕ) (within : version ≤ version_count history) where
  update_has_token : (held : Held) → IsTrue (declares history held.name) → HasToken (update_for (up_to_version version history) token_at (asked_list options held))
  update_has_token held declared =
      let front = up_to_version version history in
      let asked = asked_list options held in
      let found = version_named (up_to_version version history) token_at held.name asked.state in
      let target = target_version (up_to_version version history) held.name found options.max_update options.max_database in
      let low : target ≤ version_count history = omega (arith, last (up_to_version version history) held.name found options.max_update options.max_database, count_up_to history version within, within) in
      subst IsToken (sym (state_to (up_to_version version history) token_at asked found target))
      (record { bytes = bytes.bytes held.name target declared low; short = naming.short held.name target declared low })

  answer_has_tokens : (lists : List Held) → All HasToken (updates_for history token_at options version lists)
  answer_has_tokens lists = all_kept HasToken (update_of history token_at options version) (λ (held : Held). declares history held.name) update_has_token lists

pub askable_after_answer : TargetsAreVersions → (history : History) (token_at : Naming) (options : FetchOptions) (lists : List Held) (round : Round) (version : ℕ) → IsNaming history token_at → HasByteTokens history token_at
    → CanBeAsked lists → IsAnsweredRound history token_at options lists round version → CanBeAsked (lists_after_round lists round)
askable_after_answer last history token_at options lists round version naming bytes askable is =
    subst (λ (answer : Result FetchResponse RoundFault). CanBeAsked (after_updates lists (updates_of answer))) (sym is.message)
    (subst (λ (updates : List UpdatedList). CanBeAsked (after_updates lists updates)) (sym (answer_is history token_at options version is.wait lists))
    (askable_after lists (updates_for history token_at options version lists) (answer_has_tokens last history token_at naming bytes options version is.within lists) askable))

pub nothing_came : (lists : List Held) (round : Round) → IsLostRound round → lists_after_round lists round ≡ lists
nothing_came lists round is = ap (λ (answer : Result FetchResponse RoundFault). after_updates lists (updates_of answer)) is.none
