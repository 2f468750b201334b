-- What becomes of one URL: it stays as it is, a look decides it or leaves it open, or a find decides it.
use Rattle.std.proofs.Common.{◌≡◌, ◌≢◌, ◌≤◌, ℕ, Bool, List, length, get_or, drop, arith, [], ◌∷◌, ◌++◌, Option, Some, None, Result, Ok, Err, inl, inr, refl, sym, ap, ◌∙◌, subst}
use Rattle.std.specs.Prelude.{OnErr, ⊤, true, false, is_some}
use Rattle.std.proofs.lemmas.Bool.{false≢true, true≢false}
use Rattle.std.proofs.lemmas.List.{append-nil}
use Rattle.std.proofs.lemmas.List.Elements.{All-head}
use Rattle.client_line.specs.Lines.{LineView}
use Rattle.find_desk.specs.Desk.{DeskSeen, DeskStart, HasKeptDesk, looked_up}
use Rattle.find_desk.specs.Events.{DeskEvent, Found, MadeFind}
use Rattle.find_desk.specs.Verdicts.{HasAskedFor, IsEndOf, IsLookIn, IsVerdictByFind, IsVerdictByLook}
use Rattle.find_desk.specs.declared.desk.EndedFind.{EndedFind}
use Rattle.http_edge.specs.declared.messages.Target.{Target}
use Rattle.proxy_looks.proofs.OneMore.{drop_none, goes_nowhere, goes_once, nothing}
use Rattle.proxy_looks.specs.declared.urls.LookUrl.{LookUrl}
use Rattle.proxy_looks.specs.Settled.{desk_at, AreAskedBy, HasAskedForAll, IsUrlSettled, SettlesHits, SettlesOne, find_for, looks_at}
use Rattle.proxy_looks.specs.Urls.{open_hits_of}
use Rattle.sb_model.specs.declared.time.Moment.{Moment}
use Rattle.url_checker.specs.declared.findings.Hit.{Hit}
use Rattle.url_checker.specs.declared.looking.Looks.{Looks}
use Rattle.verdict_report.specs.declared.verdicts.Verdict.{Verdict}

-- what holds in any case holds after an error
pub err_says : {T E : Type 0} (result : Result T E) (P : Type 0) → P → OnErr result P
err_says (Ok x) P says = tt
err_says (Err e) P says = says

-- ---- looks

pub decided_by_look : (target : Target) (need : Bool) (start : DeskStart) (events : List DeskEvent) (now : Moment) (hits : List Hit) (look : Looks) (verdict : Verdict) (looks : List Looks)
    (desk : DeskSeen) (line : LineView) → HasKeptDesk target need start (events ++ looked_up now hits ∷ []) desk line → IsLookIn start (events ++ looked_up now hits ∷ []) hits look
    → look.asked ≡ [] → IsVerdictByLook start (events ++ looked_up now hits ∷ []) hits verdict
    → SettlesHits (desk_at target need start events now line) None [] hits (Some verdict) looks looks desk
decided_by_look target need start events now hits look verdict looks desk line has is closed by = record {
  goes = goes_once target need start events now (looked_up now hits) desk line (inl (hits, refl)) has;
  first = [];
  appended = sym (append-nil looks);
  is = inl (record { look = look; is = is; closed = closed; none = refl; given = verdict; verdict_is = refl; by = by });
  looked = refl;
}

pub left_open : (target : Target) (need : Bool) (start : DeskStart) (events : List DeskEvent) (now : Moment) (hits : List Hit) (look : Looks) (looks looks' : List Looks)
    (desk : DeskSeen) (line : LineView) → HasKeptDesk target need start (events ++ looked_up now hits ∷ []) desk line → IsLookIn start (events ++ looked_up now hits ∷ []) hits look
    → look.asked ≢ [] → looks' ≡ looks ++ look ∷ []
    → SettlesHits (desk_at target need start events now line) None [] hits None looks looks' desk
left_open target need start events now hits look looks looks' desk line has is opened appended = record {
  goes = goes_once target need start events now (looked_up now hits) desk line (inl (hits, refl)) has;
  first = look ∷ [];
  appended = appended;
  is = inr (record { look = look; is = is; opened = opened; its = refl; undecided = refl });
  looked = refl;
}

-- where no look is left for which a find asked, there is none by which the hits are decided
pub looked_without_find : (target : Target) (need : Bool) (start : DeskStart) (events : List DeskEvent) (now : Moment) (by : Option MadeFind) (asked : List Looks) (hits : List Hit)
    (verdict : Option Verdict) (looks looks' : List Looks) (desk : DeskSeen) (line : LineView) → asked ≡ []
    → SettlesHits (desk_at target need start events now line) None [] hits verdict looks looks' desk
    → SettlesHits (desk_at target need start events now line) by asked hits verdict looks looks' desk
looked_without_find target need start events now by asked hits verdict looks looks' desk line none is = record {
  goes = is.goes;
  first = is.first;
  appended = is.appended;
  is = subst (λ (asked : List Looks). IsUrlSettled start (events ++ is.goes.more) (find_for by asked) (Some hits) None verdict is.first) (sym none) is.is;
  looked = subst (λ (asked : List Looks). is.goes.more ≡ looks_at now (drop (length asked) (hits ∷ []))) (sym none) is.looked;
}

-- ---- finds

pub first_is : {A : Type 0} (xs : List A) (x : A) → 1 ≤ length xs → x ≡ get_or xs 0 x → xs ≡ x ∷ drop 1 xs
first_is [] x some is = let no : ⊥ = omega (arith, some) in absurd no
first_is (y ∷ xs) x some is = ap (λ (first : _). first ∷ xs) (sym is)

pub asked_for_first : (asked : List Looks) (ended : Option EndedFind) (look : Looks) (rest : List Looks) (one : EndedFind) → asked ≡ look ∷ rest → ended ≡ Some one
    → HasAskedForAll asked ended → HasAskedFor one.asked look
asked_for_first asked ended look rest one first is all =
    All-head (HasAskedFor one.asked) look rest
    (subst (λ (asked : List Looks). HasAskedForAll asked (Some one)) first (subst (λ (ended : Option EndedFind). HasAskedForAll asked ended) is all))

-- a find that asked for hits spares them a look
looked_nowhere : (now : Moment) (n : ℕ) → nothing DeskEvent ≡ looks_at now (drop n (nothing (List Hit)))
looked_nowhere now n = ap (looks_at now) (sym (drop_none (List Hit) n))

found_by : (target : Target) (need : Bool) (start : DeskStart) (events : List DeskEvent) (now : Moment) (by : Option MadeFind) (hits : List Hit) (others : List (List Hit)) (look : Looks)
    (rest : List Looks) (ended : EndedFind) (verdict : Verdict) (looks : List Looks) (desk : DeskSeen) (line : LineView)
    → HasKeptDesk target need start events desk line → AreAskedBy start events (hits ∷ others) (look ∷ rest) (Some ended) by
    → ((before more : List DeskEvent) (one : MadeFind) → IsLookIn start before hits look → IsEndOf one ended → IsVerdictByFind start (before ++ Found one ∷ more) hits one verdict)
    → SettlesHits (desk_at target need start events now line) by (look ∷ rest) hits (Some verdict) looks looks desk
found_by target need start events now by hits others look rest ended verdict looks desk line has is found =
    let were = is.2 in record {
      goes = goes_nowhere target need start events now desk line has;
      first = [];
      appended = sym (append-nil looks);
      is = subst (λ (by : Option MadeFind). IsUrlSettled start (events ++ []) by (Some hits) None (Some verdict) []) (sym is.1) (record {
        none = refl;
        given = verdict;
        verdict_is = refl;
        by = subst (λ (all : List DeskEvent). IsVerdictByFind start all hits is.0 verdict) (sym (append-nil events ∙ were.splits)) (found were.before were.after is.0 were.looks.0 were.ends);
      });
      looked = looked_nowhere now (length rest);
    }

pub decided_by_find : (target : Target) (need : Bool) (start : DeskStart) (events : List DeskEvent) (now : Moment) (by : Option MadeFind) (asked : List Looks) (hits : List Hit) (others : List (List Hit))
    (ended : Option EndedFind) (look : Looks) (rest : List Looks) (one : EndedFind) (verdict : Verdict) (looks : List Looks) (desk : DeskSeen) (line : LineView)
    → asked ≡ look ∷ rest → ended ≡ Some one → HasKeptDesk target need start events desk line → AreAskedBy start events (hits ∷ others) asked ended by
    → ((before more : List DeskEvent) (found : MadeFind) → IsLookIn start before hits look → IsEndOf found one → IsVerdictByFind start (before ++ Found found ∷ more) hits found verdict)
    → SettlesHits (desk_at target need start events now line) by asked hits (Some verdict) looks looks desk
decided_by_find target need start events now by asked hits others ended look rest one verdict looks desk line first is has are found =
    subst (λ (asked : List Looks). SettlesHits (desk_at target need start events now line) by asked hits (Some verdict) looks looks desk) (sym first)
    (found_by target need start events now by hits others look rest one verdict looks desk line has
    (subst (λ (asked : List Looks). AreAskedBy start events (hits ∷ others) asked (Some one) by) first
    (subst (λ (ended : Option EndedFind). AreAskedBy start events (hits ∷ others) asked ended by) is are)) found)

-- ---- a URL

abbrev HasFirst : {A : Type 0} → List A → Type 0
HasFirst [] = ⊥
HasFirst (x ∷ xs) = ⊤

cons_is_no_nil : {A : Type 0} (x : A) (xs : List A) → x ∷ xs ≡ [] → ⊥
cons_is_no_nil x xs is = subst HasFirst is tt

unchanged : (start : DeskStart) (events : List DeskEvent) (by : Option MadeFind) (hits : Option (List Hit)) (verdict : Option Verdict) → open_hits_of hits verdict ≡ []
    → IsUrlSettled start events by hits verdict verdict []
unchanged start events by None verdict closed = (refl, refl)
unchanged start events by (Some hits) (Some verdict) closed = (refl, refl)
unchanged start events by (Some hits) None closed = absurd (cons_is_no_nil hits [] closed)

pub one_stays : (target : Target) (need : Bool) (start : DeskStart) (events : List DeskEvent) (now : Moment) (by : Option MadeFind) (asked : List Looks) (one : LookUrl) (looks : List Looks)
    (desk : DeskSeen) (line : LineView) → open_hits_of one.hits one.verdict ≡ [] → HasKeptDesk target need start events desk line
    → SettlesOne (desk_at target need start events now line) by asked one one looks looks desk
one_stays target need start events now by asked one looks desk line closed has = record {
  goes = goes_nowhere target need start events now desk line has;
  first = [];
  appended = sym (append-nil looks);
  is = record { url = refl; hits = refl; settled = unchanged start (events ++ []) (find_for by asked) one.hits one.verdict closed };
  looked = subst (λ (hits : List (List Hit)). nothing DeskEvent ≡ looks_at now (drop (length asked) hits)) (sym closed) (looked_nowhere now (length asked));
}

pub asked_open : (start : DeskStart) (events : List DeskEvent) (hits : Option (List Hit)) (verdict : Option Verdict) (found : List Hit) (others : List (List Hit)) (asked : List Looks)
    (ended : Option EndedFind) (by : Option MadeFind) → hits ≡ Some found → verdict ≡ None
    → AreAskedBy start events (open_hits_of hits verdict ++ others) asked ended by → AreAskedBy start events (found ∷ others) asked ended by
asked_open start events hits verdict found others asked ended by is none are =
    subst (λ (hits : Option (List Hit)). AreAskedBy start events (open_hits_of hits None ++ others) asked ended by) is
    (subst (λ (verdict : Option Verdict). AreAskedBy start events (open_hits_of hits verdict ++ others) asked ended by) none are)

pub one_settled : (target : Target) (need : Bool) (start : DeskStart) (events : List DeskEvent) (now : Moment) (by : Option MadeFind) (asked : List Looks) (one : LookUrl) (found : List Hit)
    (verdict : Option Verdict) (looks looks' : List Looks) (desk : DeskSeen) (line : LineView) → one.hits ≡ Some found → one.verdict ≡ None
    → SettlesHits (desk_at target need start events now line) by asked found verdict looks looks' desk
    → SettlesOne (desk_at target need start events now line) by asked one (record { url = one.url; hits = one.hits; verdict = verdict }) looks looks' desk
one_settled target need start events now by asked one found verdict looks looks' desk line is none settled = record {
  goes = settled.goes;
  first = settled.first;
  appended = settled.appended;
  is = record {
    url = refl;
    hits = refl;
    settled = subst (λ (hits : Option (List Hit)). IsUrlSettled start (events ++ settled.goes.more) (find_for by asked) hits one.verdict verdict settled.first) (sym is)
        (subst (λ (was : Option Verdict). IsUrlSettled start (events ++ settled.goes.more) (find_for by asked) (Some found) was verdict settled.first) (sym none) settled.is);
  };
  looked = subst (λ (hits : Option (List Hit)). settled.goes.more ≡ looks_at now (drop (length asked) (open_hits_of hits one.verdict))) (sym is)
      (subst (λ (was : Option Verdict). settled.goes.more ≡ looks_at now (drop (length asked) (open_hits_of (Some found) was))) (sym none) settled.looked);
}

pub none_open : (hits : Option (List Hit)) (verdict : Option Verdict) → hits ≡ None → open_hits_of hits verdict ≡ []
none_open hits verdict is = ap (λ (hits : Option (List Hit)). open_hits_of hits verdict) is

pub decided_closed : (hits : Option (List Hit)) (verdict : Option Verdict) → is_some verdict ≡ true → open_hits_of hits verdict ≡ []
decided_closed None verdict is = refl
decided_closed (Some hits) (Some verdict) is = refl
decided_closed (Some hits) None is = absurd (false≢true is)

pub no_verdict : (verdict : Option Verdict) → is_some verdict ≡ false → verdict ≡ None
no_verdict None is = refl
no_verdict (Some verdict) is = absurd (true≢false is)
