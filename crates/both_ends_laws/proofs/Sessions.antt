-- Answered sessions are answered rounds, one after another.
use Rattle.std.proofs.Common.{◌≡◌, ℕ, List, [], ◌∷◌, ◌++◌, Bool, map, refl, sym, ap, ◌∙◌, subst, inl, inr, Option, Some, None, append-nil}
use Rattle.std.proofs.lemmas.List.{append_cancel_left}
use Rattle.sb_model.specs.History.{History}
use Rattle.sb_model.specs.Naming.{Naming, IsNaming}
use Rattle.sb_outside.specs.Outside.{IfTold}
use Rattle.sb_outside.specs.declared.links.Session.{Session}
use Rattle.http_edge.specs.declared.messages.Target.{Target}
use Rattle.timed_sessions.specs.Told.{Outside, with_more}
use Rattle.update_client.specs.Held.{Held}
use Rattle.update_client.specs.declared.options.FetchOptions.{FetchOptions}
use Rattle.wait_rules.specs.declared.waits.WaitState.{WaitState}
use Rattle.sb_round.specs.Round.{Round, lists_after_round, waits_after_round}
use Rattle.sb_round.specs.Rounds.{AreRounds, round_entry, trace_of_rounds}
use Rattle.update_run.specs.Run.{HasMade}
use Rattle.update_run.specs.declared.plan.Plan.{Plan}
use Rattle.client_laws.specs.Met.{IsLogged}
use Rattle.both_ends_laws.specs.Answered.{HasByteTokens, CanBeAsked, AreAnsweredInOrder, AnsweredSessionsAreAnsweredRounds}
use Rattle.both_ends_laws.specs.Versions.{AreAnsweredFrom}
use Rattle.both_ends_laws.proofs.Answers.{TargetsAreVersions}
use Rattle.both_ends_laws.proofs.Asking.{request_in_range, askable_after_answer, nothing_came}
use Rattle.both_ends_laws.proofs.Rounds.{Below, answered_round, lost_round}

module _ (under : Below) (last : TargetsAreVersions) (history : History) (token_at : Naming) (naming : IsNaming history token_at) (bytes : HasByteTokens history token_at) (options : FetchOptions) (target : Target) (need : Bool)
  where
    pub are_answered : (lists : List Held) (waits : WaitState) (rounds : List Round) (least : ℕ) → CanBeAsked lists → AreRounds lists waits options target need rounds
        → AreAnsweredInOrder history token_at target need least (map round_entry rounds) → AreAnsweredFrom history token_at options least lists rounds
    are_answered lists waits [] least askable are sessions = tt
    are_answered lists waits (round ∷ rounds) least askable are (inl (lost, rest)) =
        let nothing = lost_round under history token_at lists waits options target need round are.0 lost in
        inl (
          nothing,
          are_answered (lists_after_round lists round) (waits_after_round waits round) rounds least (subst CanBeAsked (sym (nothing_came lists round nothing)) askable) are.1 rest,
        )
    are_answered lists waits (round ∷ rounds) least askable are (inr (version, low, answered, rest)) =
        let is = answered_round under history token_at lists waits options target need round are.0 (request_in_range options lists askable) version answered in
        inr (
          version,
          low,
          is,
          are_answered (lists_after_round lists round) (waits_after_round waits round) rounds version (askable_after_answer last history token_at options lists round version naming bytes askable is) are.1 rest,
        )

pub sessions_are_rounds : Below → TargetsAreVersions → AnsweredSessionsAreAnsweredRounds
sessions_are_rounds under last history token_at lists waits options target need rounds least naming bytes askable are sessions =
    are_answered under last history token_at naming bytes options target need lists waits rounds least askable are sessions

-- ---- the log of a run has the sessions of its rounds

sessions_of : (waits : WaitState) (rounds : List Round) → (trace_of_rounds waits rounds).sessions ≡ map round_entry rounds
sessions_of waits [] = refl
sessions_of waits (round ∷ rounds) = ap (λ (sessions : List Session). round_entry round ∷ sessions) (sessions_of (waits_after_round waits round) rounds)

or_none : Option (List Session) → List Session
or_none (Some a) = a
or_none None = []

some : List Session → Option (List Session)
some a = Some a

some_same : (a b : List Session) → some a ≡ some b → a ≡ b
unfolding or_none some
some_same a b e = ap or_none e

same_more : (earlier more sessions : List Session) (between after : Option (List Session)) → IfTold between (with_more (Some earlier) []) → IfTold after (with_more between more)
    → after ≡ Some (earlier ++ sessions) → more ≡ sessions
unfolding some
same_more earlier more sessions None after told then is = absurd (none_told after then is)
  where
    none_told : (after : Option (List Session)) → IfTold after (with_more None more) → after ≡ Some (earlier ++ sessions) → ⊥
    none_told None h e = cc e
    none_told (Some now) h e = cc h
same_more earlier more sessions (Some here) None told then is = absurd (cc is)
same_more earlier more sessions (Some here) (Some now) told then is =
    let first : earlier ++ [] ≡ here = some_same (earlier ++ []) here told in
    let next : here ++ more ≡ now = some_same (here ++ more) now then in
    let whole : now ≡ earlier ++ sessions = some_same now (earlier ++ sessions) is in
    let begins : earlier ≡ here = sym (append-nil earlier) ∙ first in
    append_cancel_left earlier more sessions (ap (λ (front : List Session). front ++ more) begins ∙ next ∙ whole)

pub logged_sessions : (plan : Plan) (kept : Option (List ℕ)) (rounds : List Round) (before after : Outside) (sessions : List Session) → HasMade plan kept rounds before after
    → IsLogged sessions before.log after.log → map round_entry rounds ≡ sessions
logged_sessions plan kept rounds before after sessions made logged =
    sym (sessions_of made.waits rounds)
    ∙ same_more logged.earlier (trace_of_rounds made.waits rounds).sessions sessions made.opened.log after.log
    (subst (λ (log : Option (List Session)). IfTold made.opened.log (with_more log [])) logged.was made.opens.told.log) made.made.told.log logged.is
