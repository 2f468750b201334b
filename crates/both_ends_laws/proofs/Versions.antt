-- Lists do not go back from round to round.
use Rattle.std.proofs.Common.{◌≡◌, ◌⊎◌, ◌≤◌, ℕ, List, [], ◌∷◌, map, refl, sym, ap, ◌∙◌, subst, inl, inr, arith}
use Rattle.std.specs.Prelude.{Result}
use Rattle.sb_model.specs.History.{History, version_count}
use Rattle.sb_model.specs.Naming.{Naming}
use Rattle.update_messages.specs.Messages.{UpdatedList}
use Rattle.update_messages.specs.declared.response.FetchResponse.{FetchResponse}
use Rattle.update_client.specs.Genuine.{IsWithinLimitsAlways}
use Rattle.update_client.specs.Held.{Held}
use Rattle.update_client.specs.Step.{after_updates}
use Rattle.update_client.specs.declared.options.FetchOptions.{FetchOptions}
use Rattle.sb_round.specs.Round.{Round, lists_after_round, updates_of}
use Rattle.sb_round.specs.Rounds.{round_updates}
use Rattle.sb_round.specs.Run.{lists_after}
use Rattle.sb_round.specs.declared.rounds.RoundFault.{RoundFault}
use Rattle.both_ends_laws.specs.Versions.{HasNoLimits, IsAnsweredRound, IsLostRound, AreAnsweredFrom, HoldsVersion, StaysOrRises, StayOrRise, KeepsVersions}
use Rattle.both_ends_laws.proofs.Answers.{TargetsAreGreatest, TargetsAreVersions, updates_are_to}
use Rattle.both_ends_laws.proofs.Declared.{answer_is, updates_for}
use Rattle.both_ends_laws.proofs.Steps.{NamesGo, Each, each_through, ComesTo, after_all}

-- ---- each list goes on

each_is : (history : History) (token_at : Naming) (most : ℕ) (lists lists' : List Held) → Each (StaysOrRises history token_at most) lists lists' → StayOrRise history token_at most lists lists'
each_is history token_at most [] [] h = tt
each_is history token_at most [] (held' ∷ lists') h = h
each_is history token_at most (held ∷ lists) [] h = h
each_is history token_at most (held ∷ lists) (held' ∷ lists') h = (h.0, each_is history token_at most lists lists' h.1)

is_each : (history : History) (token_at : Naming) (most : ℕ) (lists lists' : List Held) → StayOrRise history token_at most lists lists' → Each (StaysOrRises history token_at most) lists lists'
is_each history token_at most [] [] h = tt
is_each history token_at most [] (held' ∷ lists') h = h
is_each history token_at most (held ∷ lists) [] h = h
is_each history token_at most (held ∷ lists) (held' ∷ lists') h = (h.0, is_each history token_at most lists lists' h.1)

stays_there : (history : History) (token_at : Naming) (most : ℕ) (held : Held) → StaysOrRises history token_at most held held
stays_there history token_at most held = record { named = refl; version = λ from holds within. (from, omega arith, holds) }

all_stay : (history : History) (token_at : Naming) (most : ℕ) (lists : List Held) → StayOrRise history token_at most lists lists
all_stay history token_at most [] = tt
all_stay history token_at most (held ∷ lists) = (stays_there history token_at most held, all_stay history token_at most lists)

-- a list that came to a version, and went on from there
went_on : (history : History) (token_at : Naming) (least version : ℕ) → least ≤ version → version ≤ version_count history
    → (a b c : Held) → ComesTo token_at version a b → StaysOrRises history token_at version b c → StaysOrRises history token_at least a c
went_on history token_at least version low within a b c comes goes = record {
  named = goes.named ∙ comes.named;
  version = λ from holds most. either from holds most comes.token;
}
  where
    either : (from : ℕ) → HoldsVersion history token_at a from → from ≤ least → (b.token ≡ a.token) ⊎ (b.token ≡ token_at a.name version)
        → (to : ℕ) × (from ≤ to) × HoldsVersion history token_at c to
    either from holds most (inl same) =
        goes.version from (record { within = holds.within; token = same ∙ holds.token ∙ ap (λ name. token_at name from) (sym comes.named) }) (omega (arith, most, low))
    either from holds most (inr new) =
        let later = goes.version version (record { within = within; token = new ∙ ap (λ name. token_at name version) (sym comes.named) }) (omega arith) in
        (later.0, omega (arith, most, low, later.1), later.2)

-- ---- rounds

module _ (go : NamesGo) (greatest : TargetsAreGreatest) (last : TargetsAreVersions) (history : History) (token_at : Naming) (options : FetchOptions) (limits : HasNoLimits options) (always : IsWithinLimitsAlways history) where
  comes_in : (lists : List Held) (round : Round) (version : ℕ) → IsAnsweredRound history token_at options lists round version → Each (ComesTo token_at version) lists (lists_after_round lists round)
  comes_in lists round version is =
      subst (λ (answer : Result FetchResponse RoundFault). Each (ComesTo token_at version) lists (after_updates lists (updates_of answer))) (sym is.message)
      (subst (λ (updates : List UpdatedList). Each (ComesTo token_at version) lists (after_updates lists updates)) (sym (answer_is history token_at options version is.wait lists))
      (after_all go token_at version lists (updates_for history token_at options version lists)
      (updates_are_to greatest last history token_at options limits always version is.within lists)))

  nothing_came : (lists : List Held) (round : Round) → IsLostRound round → lists_after_round lists round ≡ lists
  nothing_came lists round is = ap (λ (answer : Result FetchResponse RoundFault). after_updates lists (updates_of answer)) is.none

  pub keeps : (least : ℕ) (lists : List Held) (rounds : List Round) → AreAnsweredFrom history token_at options least lists rounds
      → StayOrRise history token_at least lists (lists_after lists (map round_updates rounds))
  keeps least lists [] are = all_stay history token_at least lists
  keeps least lists (round ∷ rounds) (inl (unanswered, rest)) =
      let same = nothing_came lists round unanswered in
      subst (λ (ls : List Held). StayOrRise history token_at least ls (lists_after (lists_after_round lists round) (map round_updates rounds))) same
      (keeps least (lists_after_round lists round) rounds rest)
  keeps least lists (round ∷ rounds) (inr (version, low, is, rest)) =
      let comes = comes_in lists round version is in
      let later = keeps version (lists_after_round lists round) rounds rest in
      let final = lists_after (lists_after_round lists round) (map round_updates rounds) in
      each_is history token_at least lists final
      (each_through (ComesTo token_at version) (StaysOrRises history token_at version) (StaysOrRises history token_at least) (went_on history token_at least version low is.within) lists (lists_after_round lists round) final
      comes (is_each history token_at version (lists_after_round lists round) final later))

pub keeps_versions : NamesGo → TargetsAreGreatest → TargetsAreVersions → (history : History) (token_at : Naming) (options : FetchOptions) (least : ℕ) (lists : List Held) (rounds : List Round)
    → KeepsVersions history token_at options least lists rounds
keeps_versions go greatest last history token_at options least lists rounds limits always are =
    keeps go greatest last history token_at options limits always least lists rounds are
