-- Verdicts that are given, and the events that they go back to.
use Rattle.std.proofs.Common.{◌≡◌, false, None, List, [], ◌∷◌, ◌++◌, flat_map, take, inr, refl, sym, ap, ◌∙◌, subst, append_assoc}
use Rattle.std.specs.Prelude.{All, Bool, Contains, IfOk, Result, Err, Ok}
use Rattle.std.proofs.lemmas.List.Elements.{All-append, All-cons, All-contains_itself, All-head, All-nil, All-tail, All-take, All-weaker, Contains-append_left, Contains-append_right, Contains-push}
use Rattle.sb_model.specs.declared.time.Moment.{Moment}
use Rattle.client_line.specs.Lines.{LineView}
use Rattle.full_hash_cache.specs.Cache.{Pairs}
use Rattle.hash_messages.specs.declared.response.FindResponse.{FindResponse}
use Rattle.http_edge.specs.declared.messages.Target.{Target}
use Rattle.sb_model.specs.declared.names.ListName.{ListName}
use Rattle.url_checker.specs.Resolving.{open_cause, unsafe_lists, verdict_by, verdict_from}
use Rattle.url_checker.specs.Several.{all_asked, IsLookOf}
use Rattle.url_checker.specs.declared.findings.Hit.{Hit}
use Rattle.url_checker.specs.declared.looking.Looks.{Looks}
use Rattle.verdict_report.specs.declared.verdicts.Cause.{Cause}
use Rattle.verdict_report.specs.declared.verdicts.Cause.TheVariants.{NotBefore}
use Rattle.verdict_report.specs.declared.verdicts.Verdict.{Verdict}
use Rattle.find_desk.specs.Desk.{looked_up, DeskSeen, DeskStart, HasKeptDesk}
use Rattle.find_desk.specs.Events.{DeskEvent, Found, MadeFind, kept_after_events}
use Rattle.find_desk.specs.Verdicts.{AskForFirstLooks, AskForOpenHits, is_left_undecided, HasAskedFor, IsEndOf, IsLookIn, IsVerdictByFind, IsVerdictByLook, IsVerdictIn, LooksStay, WasLeftOpen}
use Rattle.find_desk.specs.declared.desk.EndedFind.{EndedFind}

-- the look that came last
pub look_is_last : (target : Target) (need : Bool) (start : DeskStart) (events : List DeskEvent) (seen : DeskSeen) (line : LineView) (now : Moment) (hits : List Hit) (look : Looks)
    → HasKeptDesk target need start events seen line → IsLookOf seen.kept now hits look
    → IsLookIn start (events ++ looked_up now hits ∷ []) hits look
look_is_last target need start events seen line now hits look has is = record {
  before = events;
  after = [];
  now = now;
  splits = refl;
  is = subst (λ (kept : Pairs). IsLookOf kept now hits look) has.kept_is is;
}

pub looks_stay_in : LooksStay
looks_stay_in start events more hits look is = record {
  before = is.before;
  after = is.after ++ more;
  now = is.now;
  splits = ap (λ (all : List DeskEvent). all ++ more) is.splits ∙ append_assoc is.before (looked_up is.now hits ∷ is.after) more;
  is = is.is;
}

-- by a find after the look
pub given_after : (start : DeskStart) (events more : List DeskEvent) (hits : List Hit) (one : MadeFind) (look : Looks) (ended : EndedFind) (verdict : Verdict)
    → HasAskedFor ended.asked look → (is : IsLookIn start events hits look) → IsEndOf one ended
    → verdict ≡ verdict_by (kept_after_events start.kept is.before) is.now ended.answer hits
    → IsVerdictIn start (events ++ Found one ∷ more) hits verdict
given_after start events more hits one look ended verdict asked is ends by = record {
  before = is.before;
  after = is.after ++ Found one ∷ more;
  now = is.now;
  splits = ap (λ (all : List DeskEvent). all ++ Found one ∷ more) is.splits ∙ append_assoc is.before (looked_up is.now hits ∷ is.after) (Found one ∷ more);
  is = inr (record {
    one = one;
    found = Contains-append_right is.after (Found one ∷ more) (Found one) (Contains-append_left (Found one ∷ []) more (Found one) (Contains-push [] (Found one)));
    asked = subst (λ (open_hits : List Hit). All (λ (hit : Hit). Contains one.asked hit) open_hits) is.is.asked
        (subst (λ (all : List Hit). All (λ (hit : Hit). Contains all hit) look.asked) ends.asked asked);
    verdict_is = by ∙ ap (λ (answer : Result FindResponse Cause). verdict_by (kept_after_events start.kept is.before) is.now answer hits) ends.answered;
  });
}

pub given_after_if : {E : Type 0} (start : DeskStart) (events more : List DeskEvent) (hits : List Hit) (one : MadeFind) (look : Looks) (ended : EndedFind) (result : Result Verdict E)
    → HasAskedFor ended.asked look → IsLookIn start events hits look → IsEndOf one ended
    → ((pairs : Pairs) (now : Moment) (of : List Hit) → IsLookOf pairs now of look → IfOk result (λ (verdict : Verdict). verdict ≡ verdict_by pairs now ended.answer of))
    → IfOk result (λ (verdict : Verdict). IsVerdictIn start (events ++ Found one ∷ more) hits verdict)
given_after_if start events more hits one look ended (Ok verdict) asked is ends says =
    given_after start events more hits one look ended verdict asked is ends (says (kept_after_events start.kept is.before) is.now hits is.is)
given_after_if start events more hits one look ended (Err fault) asked is ends says = tt

by_find : (start : DeskStart) (events more : List DeskEvent) (hits : List Hit) (one : MadeFind) (look : Looks) (ended : EndedFind) (verdict : Verdict)
    → HasAskedFor ended.asked look → (is : IsLookIn start events hits look) → IsEndOf one ended
    → verdict ≡ verdict_by (kept_after_events start.kept is.before) is.now ended.answer hits
    → IsVerdictByFind start (events ++ Found one ∷ more) hits one verdict
by_find start events more hits one look ended verdict asked is ends by = record {
  before = is.before;
  after = is.after ++ Found one ∷ more;
  now = is.now;
  splits = ap (λ (all : List DeskEvent). all ++ Found one ∷ more) is.splits ∙ append_assoc is.before (looked_up is.now hits ∷ is.after) (Found one ∷ more);
  found = Contains-append_right is.after (Found one ∷ more) (Found one) (Contains-append_left (Found one ∷ []) more (Found one) (Contains-push [] (Found one)));
  asked = subst (λ (open_hits : List Hit). All (λ (hit : Hit). Contains one.asked hit) open_hits) is.is.asked
      (subst (λ (all : List Hit). All (λ (hit : Hit). Contains all hit) look.asked) ends.asked asked);
  verdict_is = by ∙ ap (λ (answer : Result FindResponse Cause). verdict_by (kept_after_events start.kept is.before) is.now answer hits) ends.answered;
}

pub by_find_if : {E : Type 0} (start : DeskStart) (events more : List DeskEvent) (hits : List Hit) (one : MadeFind) (look : Looks) (ended : EndedFind) (result : Result Verdict E)
    → HasAskedFor ended.asked look → IsLookIn start events hits look → IsEndOf one ended
    → ((pairs : Pairs) (now : Moment) (of : List Hit) → IsLookOf pairs now of look → IfOk result (λ (verdict : Verdict). verdict ≡ verdict_by pairs now ended.answer of))
    → IfOk result (λ (verdict : Verdict). IsVerdictByFind start (events ++ Found one ∷ more) hits one verdict)
by_find_if start events more hits one look ended (Ok verdict) asked is ends says =
    by_find start events more hits one look ended verdict asked is ends (says (kept_after_events start.kept is.before) is.now hits is.is)
by_find_if start events more hits one look ended (Err fault) asked is ends says = tt

-- by a look alone
pub by_look_if : {E : Type 0} (start : DeskStart) (events : List DeskEvent) (hits : List Hit) (allowed : Moment) (look : Looks) (result : Result Verdict E)
    → IsLookIn start events hits look
    → ((pairs : Pairs) (now : Moment) (of : List Hit) → IsLookOf pairs now of look → IfOk result (λ (verdict : Verdict). verdict ≡ verdict_by pairs now (Err (NotBefore allowed)) of))
    → IfOk result (λ (verdict : Verdict). IsVerdictByLook start events hits verdict)
by_look_if start events hits allowed look (Ok verdict) is says = record {
  before = is.before;
  after = is.after;
  now = is.now;
  splits = is.splits;
  allowed = allowed;
  verdict_is = says (kept_after_events start.kept is.before) is.now hits is.is;
}
by_look_if start events hits allowed look (Err fault) is says = tt

decides_all : (names : List ListName) → is_left_undecided (verdict_from names None) ≡ false
decides_all [] = refl
decides_all (name ∷ names) = refl

pub decided_if : {E : Type 0} (start : DeskStart) (events : List DeskEvent) (hits : List Hit) (allowed : Moment) (look : Looks) (result : Result Verdict E)
    → IsLookIn start events hits look → look.asked ≡ []
    → ((pairs : Pairs) (now : Moment) (of : List Hit) → IsLookOf pairs now of look → IfOk result (λ (verdict : Verdict). verdict ≡ verdict_by pairs now (Err (NotBefore allowed)) of))
    → IfOk result (λ (verdict : Verdict). is_left_undecided verdict ≡ false)
decided_if start events hits allowed look (Ok verdict) is none says =
    let kept : Pairs = kept_after_events start.kept is.before in
    let names : List ListName = unsafe_lists kept is.now None hits in
    ap is_left_undecided (says kept is.now hits is.is
    ∙ ap (λ (asked : List Hit). verdict_from names (open_cause (Err (NotBefore allowed)) asked)) (sym is.is.asked ∙ none))
    ∙ decides_all names
decided_if start events hits allowed look (Err fault) is none says = tt

-- ---- what finds ask for

-- what holds of the items that each gives holds of all that they give
all_in : {A B : Type 0} (P : B → Type 0) (f : A → List B) (xs : List A) → All (λ (x : A). All P (f x)) xs → All P (flat_map f xs)
all_in P f [] each = All-nil P
all_in P f (x ∷ xs) each =
    All-append P (f x) (flat_map f xs) (All-head (λ a. All P (f a)) x xs each) (all_in P f xs (All-tail (λ a. All P (f a)) x xs each))

left_open : (start : DeskStart) (events : List DeskEvent) (look : Looks) (hits : List Hit) → IsLookIn start events hits look
    → All (λ (hit : Hit). WasLeftOpen start events hit) look.asked
left_open start events look hits is =
    All-weaker (Contains look.asked) (WasLeftOpen start events)
    (λ hit has. record {
      before = is.before;
      after = is.after;
      now = is.now;
      hits = hits;
      splits = is.splits;
      was_open = subst (λ (asked : List Hit). Contains asked hit) is.is.asked has;
    })
    look.asked (All-contains_itself look.asked)

pub ask_for_open_hits : AskForOpenHits
ask_for_open_hits start events looks together are first =
    subst (λ (asked : List Hit). All (WasLeftOpen start events) asked) (sym first.asked)
    (all_in (WasLeftOpen start events) (λ (look : Looks). look.asked) (take together.count looks)
    (All-weaker (λ (look : Looks). (hits : List Hit) × IsLookIn start events hits look) (λ (look : Looks). All (WasLeftOpen start events) look.asked)
    (λ look found. left_open start events look found.0 found.1)
    (take together.count looks) (All-take (λ (look : Looks). (hits : List Hit) × IsLookIn start events hits look) together.count looks are)))

each_is_asked : (looks : List Looks) → All (λ (look : Looks). All (Contains (all_asked looks)) look.asked) looks
each_is_asked [] = All-nil (λ (look : Looks). All (Contains (all_asked [])) look.asked)
each_is_asked (look ∷ looks) =
    All-cons (λ (one : Looks). All (Contains (all_asked (look ∷ looks))) one.asked) look looks
    (All-weaker (Contains look.asked) (Contains (all_asked (look ∷ looks))) (λ hit has. Contains-append_left look.asked (all_asked looks) hit has)
    look.asked (All-contains_itself look.asked))
    (All-weaker (λ (one : Looks). All (Contains (all_asked looks)) one.asked) (λ (one : Looks). All (Contains (all_asked (look ∷ looks))) one.asked)
    (λ one are. All-weaker (Contains (all_asked looks)) (Contains (all_asked (look ∷ looks))) (λ hit has. Contains-append_right look.asked (all_asked looks) hit has) one.asked are)
    looks (each_is_asked looks))

pub ask_for_first_looks : AskForFirstLooks
ask_for_first_looks looks together first =
    subst (λ (asked : List Hit). All (λ (look : Looks). HasAskedFor asked look) (take together.count looks)) (sym first.asked)
    (each_is_asked (take together.count looks))
