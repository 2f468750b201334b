-- Runs whose sessions were answered or lost are complete, and do not go back.
use Rattle.std.proofs.Common.{◌≡◌, ◌⊎◌, ℕ, List, [], ◌∷◌, Bool, true, false, map, refl, sym, ap, ◌∙◌, subst, inl, inr, Result, arith}
use Rattle.std.specs.Prelude.{All, ◌||◌}
use Rattle.std.specs.List.{list_any}
use Rattle.std.specs.List.Sorted.{IsStrictlySortedBy}
use Rattle.std.proofs.lemmas.List.Elements.{All-nil, All-cons, All-head, All-tail}
use Rattle.sb_model.specs.declared.names.ListName.{ListName}
use Rattle.sb_model.specs.Names.{name_cmp, same_name}
use Rattle.sb_model.specs.History.{History, up_to_version}
use Rattle.sb_model.specs.Naming.{Naming, IsNaming}
use Rattle.sb_outside.specs.declared.links.Session.{Session}
use Rattle.http_edge.specs.declared.messages.Target.{Target}
use Rattle.update_messages.specs.Answer.{fetch_answer}
use Rattle.update_messages.specs.Messages.{UpdatedList}
use Rattle.update_messages.specs.declared.response.FetchResponse.{FetchResponse}
use Rattle.update_client.specs.Asked.{request_asked}
use Rattle.update_client.specs.Genuine.{AnswersAreGenuine}
use Rattle.update_client.specs.Held.{Held, AreHeldLists}
use Rattle.update_client.specs.Replica.{AreReplicas}
use Rattle.update_client.specs.Step.{is_refused, after_updates, after_update, results_of}
use Rattle.update_client.specs.declared.fault.ListResult.{ListResult}
use Rattle.update_client.specs.declared.fault.ListResult.TheVariants.{Installed, Refused, NotKept}
use Rattle.update_client.specs.declared.options.FetchOptions.{FetchOptions}
use Rattle.wait_rules.specs.declared.waits.WaitState.{WaitState}
use Rattle.sb_round.specs.Round.{Round, IsRound, named_results, taken_from, lists_after_round, waits_after_round, updates_of}
use Rattle.sb_round.specs.Rounds.{AreRounds, round_updates, round_entry}
use Rattle.sb_round.specs.Run.{lists_after}
use Rattle.sb_round.specs.declared.rounds.RoundFault.{RoundFault}
use Rattle.sb_round.specs.declared.rounds.Taken.{Taken}
use Rattle.update_run.specs.Opening.{first_lists}
use Rattle.update_run.specs.Printed.{has_refusal, has_refusals}
use Rattle.both_ends_laws.specs.Answered.{IsAnsweredAt, IsAnsweredIn, IsLost, AreAnsweredOrLost, AreAnsweredInOrder, HasByteTokens, CanBeAsked}
use Rattle.both_ends_laws.specs.Complete.{declared_lists, InstallsEach, InstallAnswers, AnsweredRunsAreComplete, AnsweredRunsKeepVersions}
use Rattle.both_ends_laws.specs.Installs.{CanBeServed, IsInstalled}
use Rattle.both_ends_laws.specs.Versions.{IsAnsweredRound}
use Rattle.both_ends_laws.proofs.Answers.{TargetsAreGreatest, TargetsAreVersions}
use Rattle.both_ends_laws.proofs.Asking.{request_in_range, askable_after_answer, nothing_came, names_after, as_many}
use Rattle.both_ends_laws.proofs.Beginning.{first_are_lists, first_askable}
use Rattle.both_ends_laws.proofs.Declared.{answer_is, update_of}
use Rattle.both_ends_laws.proofs.Installing.{replicas_after}
use Rattle.both_ends_laws.proofs.Lists.{names_in, installs, name_of_update}
use Rattle.both_ends_laws.proofs.Places.{DecodesAgain}
use Rattle.both_ends_laws.proofs.Rounds.{Below, answered_round, lost_round}
use Rattle.both_ends_laws.proofs.Sessions.{are_answered, logged_sessions}
use Rattle.both_ends_laws.proofs.Steps.{NamesGo}
use Rattle.both_ends_laws.proofs.Versions.{keeps_versions}

-- ---- what was taken

as_many_results : (lists : List Held) (updates : List UpdatedList) → map (λ (one : Taken). one.name) (named_results updates (results_of lists updates)) ≡ map (λ (update : UpdatedList). update.name) updates
as_many_results lists [] = refl
as_many_results lists (update ∷ updates) = ap (λ (names : List ListName). update.name ∷ names) (as_many_results (after_update lists update) updates)

all_taken : (updates : List UpdatedList) (results : List ListResult) → All IsInstalled results → All (λ (one : Taken). IsInstalled one.result) (named_results updates results)
all_taken [] results h = All-nil (λ (one : Taken). IsInstalled one.result)
all_taken (update ∷ updates) [] h = All-nil (λ (one : Taken). IsInstalled one.result)
all_taken (update ∷ updates) (result ∷ results) h =
    All-cons (λ (one : Taken). IsInstalled one.result) (record { name = update.name; result = result }) (named_results updates results) (All-head IsInstalled result results h)
    (all_taken updates results (All-tail IsInstalled result results h))

not_refused : (result : ListResult) → IsInstalled result → is_refused result ≡ false
not_refused (Installed entries) h = refl
not_refused (Refused fault) h = absurd h
not_refused NotKept h = absurd h

or_none : (a b : Bool) → a ≡ false → b ≡ false → (a || b) ≡ false
or_none true b h k = absurd (cc h)
or_none false b h k = k

none_refused : (taken : List Taken) → All (λ (one : Taken). IsInstalled one.result) taken → list_any (λ (one : Taken). is_refused one.result) taken ≡ false
none_refused [] h = refl
none_refused (one ∷ taken) h =
    or_none (is_refused one.result) (list_any (λ (one : Taken). is_refused one.result) taken) (not_refused one.result (All-head (λ (one : Taken). IsInstalled one.result) one taken h))
    (none_refused taken (All-tail (λ (one : Taken). IsInstalled one.result) one taken h))

no_refusal_in : (history : History) (lists : List Held) (round : Round) → InstallsEach history lists round → has_refusal (taken_from lists round.answer) ≡ false
no_refusal_in history lists round is = ap has_refusal is.ok ∙ none_refused is.taken is.installed

update_names : (history : History) (token_at : Naming) (options : FetchOptions) (version : ℕ) (lists : List Held)
    → map (λ (update : UpdatedList). update.name) (map (update_of history token_at options version) lists) ≡ map (λ (held : Held). held.name) lists
update_names history token_at options version [] = refl
update_names history token_at options version (held ∷ lists) =
    ap (λ (name : ListName). name ∷ map (λ (update : UpdatedList). update.name) (map (update_of history token_at options version) lists)) (name_of_update history token_at options version held)
    ∙ ap (λ (names : List ListName). held.name ∷ names) (update_names history token_at options version lists)

answer_names : (history : History) (token_at : Naming) (options : FetchOptions) (version wait : ℕ) (lists : List Held)
    → map (λ (update : UpdatedList). update.name) (fetch_answer (up_to_version version history) token_at wait (request_asked lists options)).items ≡ map (λ (held : Held). held.name) (declared_lists history lists)
answer_names history token_at options version wait lists =
    ap (map (λ (update : UpdatedList). update.name)) (answer_is history token_at options version wait lists) ∙ update_names history token_at options version (declared_lists history lists)

-- ---- what stays through rounds

-- Lists of a client that a server can answer: they can be asked for, are in their order, and are replicas.
record AreServed (history : History) (token_at : Naming) (lists : List Held) : Type 0 where
  askable : CanBeAsked lists
  held : AreHeldLists lists
  replicas : AreReplicas history token_at lists

module _ (under : Below) (go : NamesGo) (itself : (name : ListName) → same_name name name ≡ true) (decodes : DecodesAgain) (genuine : AnswersAreGenuine) (last : TargetsAreVersions)
    (history : History) (token_at : Naming) (can : CanBeServed history) (naming : IsNaming history token_at) (bytes : HasByteTokens history token_at)
    (options : FetchOptions) (target : Target) (need : Bool)
  where
    is_answered : (lists : List Held) (waits : WaitState) (round : Round) → AreServed history token_at lists → IsRound lists waits options target need round → (version : ℕ) → IsAnsweredAt history token_at target (round_entry round) version
        → IsAnsweredRound history token_at options lists round version
    is_answered lists waits round served is version answered =
        answered_round under history token_at lists waits options target need round is (request_in_range options lists served.askable) version answered

    installs_each : (lists : List Held) (round : Round) (version : ℕ) → AreServed history token_at lists → IsAnsweredRound history token_at options lists round version → InstallsEach history lists round
    installs_each lists round version served answered =
        let message = fetch_answer (up_to_version version history) token_at answered.wait (request_asked lists options) in
        record {
          taken = named_results message.items (results_of lists message.items);
          ok = ap (taken_from lists) answered.message;
          all = as_many_results lists message.items ∙ answer_names history token_at options version answered.wait lists;
          installed =
              all_taken message.items (results_of lists message.items)
              (installs go itself decodes genuine history token_at options lists version answered.wait can naming answered.within served.held served.replicas);
        }

    served_after : (lists : List Held) (round : Round) (version : ℕ) → AreServed history token_at lists → IsAnsweredRound history token_at options lists round version → AreServed history token_at (lists_after_round lists round)
    unfolding names_in
    served_after lists round version served answered =
        let same = names_after lists (updates_of round.answer) in
        record {
          askable = askable_after_answer last history token_at options lists round version naming bytes served.askable answered;
          held = record {
            few = omega (arith, as_many lists (lists_after_round lists round) same, served.held.few);
            rising = subst (IsStrictlySortedBy name_cmp) (sym same) served.held.rising;
          };
          replicas =
              subst (λ (answer : Result FetchResponse RoundFault). AreReplicas history token_at (after_updates lists (updates_of answer))) (sym answered.message)
              (replicas_after go itself decodes genuine history token_at options lists version answered.wait can naming answered.within served.held.rising served.replicas);
        }

    served_then : (lists : List Held) (waits : WaitState) (round : Round) → AreServed history token_at lists → IsRound lists waits options target need round
        → IsLost need (round_entry round) ⊎ IsAnsweredIn history token_at target (round_entry round) → AreServed history token_at (lists_after_round lists round)
    served_then lists waits round served is (inl lost) =
        subst (AreServed history token_at) (sym (nothing_came lists round (lost_round under history token_at lists waits options target need round is lost))) served
    served_then lists waits round served is (inr answered) = served_after lists round answered.0 served (is_answered lists waits round served is answered.0 answered.1)

    each_installs : (lists : List Held) (waits : WaitState) (round : Round) → AreServed history token_at lists → IsRound lists waits options target need round
        → IsAnsweredIn history token_at target (round_entry round) → InstallsEach history lists round
    each_installs lists waits round served is answered = installs_each lists round answered.0 served (is_answered lists waits round served is answered.0 answered.1)

    abbrev OrLost : Session → Type 0
    OrLost session = IsLost need session ⊎ IsAnsweredIn history token_at target session

    all_install : (lists : List Held) (waits : WaitState) (rounds : List Round) → AreServed history token_at lists → AreRounds lists waits options target need rounds → All OrLost (map round_entry rounds)
        → InstallAnswers history token_at target lists rounds
    all_install lists waits [] served are h = tt
    all_install lists waits (round ∷ rounds) served are h = (
      each_installs lists waits round served are.0,
      all_install (lists_after_round lists round) (waits_after_round waits round) rounds
          (served_then lists waits round served are.0 (All-head OrLost (round_entry round) (map round_entry rounds) h)) are.1 (All-tail OrLost (round_entry round) (map round_entry rounds) h),
    )

    served_at_end : (lists : List Held) (waits : WaitState) (rounds : List Round) → AreServed history token_at lists → AreRounds lists waits options target need rounds → All OrLost (map round_entry rounds)
        → AreReplicas history token_at (lists_after lists (map round_updates rounds))
    served_at_end lists waits [] served are h = served.replicas
    served_at_end lists waits (round ∷ rounds) served are h =
        served_at_end (lists_after_round lists round) (waits_after_round waits round) rounds
        (served_then lists waits round served are.0 (All-head OrLost (round_entry round) (map round_entry rounds) h)) are.1 (All-tail OrLost (round_entry round) (map round_entry rounds) h)

no_refusals : (history : History) (token_at : Naming) (target : Target) (lists : List Held) (rounds : List Round) → InstallAnswers history token_at target lists rounds
    → All (IsAnsweredIn history token_at target) (map round_entry rounds) → has_refusals lists rounds ≡ false
no_refusals history token_at target lists [] h k = refl
no_refusals history token_at target lists (round ∷ rounds) h k =
    or_none (has_refusal (taken_from lists round.answer)) (has_refusals (lists_after_round lists round) rounds)
    (no_refusal_in history lists round (h.0 (All-head (IsAnsweredIn history token_at target) (round_entry round) (map round_entry rounds) k)))
    (no_refusals history token_at target (lists_after_round lists round) rounds h.1 (All-tail (IsAnsweredIn history token_at target) (round_entry round) (map round_entry rounds) k))

-- ---- the laws

pub complete : Below → NamesGo → ((name : ListName) → same_name name name ≡ true) → DecodesAgain → AnswersAreGenuine → TargetsAreVersions → AnsweredRunsAreComplete
complete under go itself decodes genuine last history token_at plan kept rounds before after sessions asks made logged answered =
    let lists = first_lists plan.names kept in
    let same = logged_sessions plan kept rounds before after sessions made logged in
    let served : AreServed history token_at (first_lists plan.names kept) =
    record { askable = first_askable go history token_at plan kept asks; held = first_are_lists go plan.names kept asks.few; replicas = asks.replicas } in
    let each = subst (AreAnsweredOrLost history token_at plan.target plan.need_digest) (sym same) answered in
    let install = all_install under go itself decodes genuine last history token_at asks.can asks.naming asks.tokens plan.options plan.target plan.need_digest (first_lists plan.names kept) made.waits rounds served made.made.are each in
    record {
      install = install;
      replicas = served_at_end under go itself decodes genuine last history token_at asks.can asks.naming asks.tokens plan.options plan.target plan.need_digest (first_lists plan.names kept) made.waits rounds served made.made.are each;
      no_refusal = λ all. no_refusals history token_at plan.target (first_lists plan.names kept) rounds install (subst (All (IsAnsweredIn history token_at plan.target)) (sym same) all);
    }

pub runs_keep_versions : Below → NamesGo → TargetsAreGreatest → TargetsAreVersions → AnsweredRunsKeepVersions
runs_keep_versions under go greatest last history token_at plan kept rounds before after sessions least asks made logged answered =
    let same = logged_sessions plan kept rounds before after sessions made logged in
    keeps_versions go greatest last history token_at plan.options least (first_lists plan.names kept) rounds asks.limits asks.always
    (are_answered under last history token_at asks.naming asks.tokens plan.options plan.target plan.need_digest (first_lists plan.names kept) made.waits rounds least asks.lists made.made.are
    (subst (AreAnsweredInOrder history token_at plan.target plan.need_digest least) (sym same) answered))
