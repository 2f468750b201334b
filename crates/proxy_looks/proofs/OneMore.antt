-- URLs that were settled, and one more; and events that come after.
use Rattle.std.proofs.Common.{◌≡◌, ◌-◌, ℕ, zero, suc, Bool, List, [], ◌∷◌, ◌++◌, length, drop, Option, Some, None, inl, inr, refl, sym, ap, ◌∙◌, subst, append_assoc, arith, length-append, length-drop}
use Rattle.std.specs.Prelude.{All}
use Rattle.std.proofs.lemmas.Grind.{flat_map-append}
use Rattle.std.proofs.lemmas.List.{append-nil, map-append}
use Rattle.std.proofs.lemmas.List.Elements.{All-append, All-cons, All-nil, All-tail, Contains-append_left}
use Rattle.client_line.specs.Lines.{LineView}
use Rattle.find_desk.specs.Desk.{DeskSeen, DeskStart, HasKeptDesk, looked_up}
use Rattle.find_desk.specs.Events.{DeskEvent, Found, MadeFind}
use Rattle.find_desk.specs.Verdicts.{HasAskedFor, IsVerdictByFind, IsVerdictByLook, LooksStay}
use Rattle.find_desk.specs.declared.desk.EndedFind.{EndedFind}
use Rattle.http_edge.specs.declared.messages.Target.{Target}
use Rattle.proxy_looks.specs.declared.urls.LookUrl.{LookUrl}
use Rattle.proxy_looks.specs.Settled.{desk_at, AreAskedBy, AreLooksAsFar, AreLooksOf, AreOnlyLooks, AreUrlsSettled, GoesOnLooking, HasAskedForAll, IsOnlyLook, IsUrlSettled, SettledKeepLooks, SettlesAll, SettlesOne, SettlesUrl, asked_after, find_for, looks_at}
use Rattle.proxy_looks.specs.Urls.{open_hits, open_hits_of}
use Rattle.sb_model.specs.declared.time.Moment.{Moment}
use Rattle.url_checker.specs.declared.findings.Hit.{Hit}
use Rattle.url_checker.specs.declared.looking.Looks.{Looks}
use Rattle.verdict_report.specs.declared.verdicts.Verdict.{Verdict}

-- ---- events that come after

by_look_more : (start : DeskStart) (events more : List DeskEvent) (hits : List Hit) (verdict : Verdict) → IsVerdictByLook start events hits verdict → IsVerdictByLook start (events ++ more) hits verdict
by_look_more start events more hits verdict is = record {
  before = is.before;
  after = is.after ++ more;
  now = is.now;
  splits = ap (λ (all : List DeskEvent). all ++ more) is.splits ∙ append_assoc is.before (looked_up is.now hits ∷ is.after) more;
  allowed = is.allowed;
  verdict_is = is.verdict_is;
}

by_find_more : (start : DeskStart) (events more : List DeskEvent) (hits : List Hit) (one : MadeFind) (verdict : Verdict) → IsVerdictByFind start events hits one verdict → IsVerdictByFind start (events ++ more) hits one verdict
by_find_more start events more hits one verdict is = record {
  before = is.before;
  after = is.after ++ more;
  now = is.now;
  splits = ap (λ (all : List DeskEvent). all ++ more) is.splits ∙ append_assoc is.before (looked_up is.now hits ∷ is.after) more;
  found = Contains-append_left is.after more (Found one) is.found;
  asked = is.asked;
  verdict_is = is.verdict_is;
}

settled_more : LooksStay → (start : DeskStart) (events more : List DeskEvent) (by : Option MadeFind) (hits : Option (List Hit)) (verdict verdict' : Option Verdict) (looks : List Looks)
    → IsUrlSettled start events by hits verdict verdict' looks → IsUrlSettled start (events ++ more) by hits verdict verdict' looks
settled_more stay start events more by None verdict verdict' looks is = is
settled_more stay start events more by (Some hits) (Some verdict) verdict' looks is = is
settled_more stay start events more (Some one) (Some hits) None verdict' looks is = record {
  none = is.none;
  given = is.given;
  verdict_is = is.verdict_is;
  by = by_find_more start events more hits one is.given is.by;
}
settled_more stay start events more None (Some hits) None verdict' looks (inl is) = inl (record {
  look = is.look;
  is = stay start events more hits is.look is.is;
  closed = is.closed;
  none = is.none;
  given = is.given;
  verdict_is = is.verdict_is;
  by = by_look_more start events more hits is.given is.by;
})
settled_more stay start events more None (Some hits) None verdict' looks (inr is) = inr (record {
  look = is.look;
  is = stay start events more hits is.look is.is;
  opened = is.opened;
  its = is.its;
  undecided = is.undecided;
})

pub settles_more : LooksStay → (start : DeskStart) (events more : List DeskEvent) (by : Option MadeFind) (one one' : LookUrl) (looks : List Looks)
    → SettlesUrl start events by one one' looks → SettlesUrl start (events ++ more) by one one' looks
settles_more stay start events more by one one' looks is = record {
  url = is.url;
  hits = is.hits;
  settled = settled_more stay start events more by one.hits one.verdict one'.verdict looks is.settled;
}

pub are_settled_more : LooksStay → (start : DeskStart) (events more : List DeskEvent) (by : Option MadeFind) (asked : List Looks) (urls urls' : List LookUrl) (looks : List Looks)
    → AreUrlsSettled start events by asked urls urls' looks → AreUrlsSettled start (events ++ more) by asked urls urls' looks
are_settled_more stay start events more by asked [] [] looks are = are
are_settled_more stay start events more by asked [] (one' ∷ urls') looks are = absurd are
are_settled_more stay start events more by asked (one ∷ urls) [] looks are = absurd are
are_settled_more stay start events more by asked (one ∷ urls) (one' ∷ urls') looks are = (
  are.0,
  are.1,
  are.2,
  settles_more stay start events more (find_for by asked) one one' are.0 are.3,
  are_settled_more stay start events more by (asked_after asked one) urls urls' are.1 are.4,
)

pub are_looks_more : LooksStay → (start : DeskStart) (events more : List DeskEvent) (hits : List (List Hit)) (looks : List Looks) → AreLooksOf start events hits looks → AreLooksOf start (events ++ more) hits looks
are_looks_more stay start events more [] [] are = are
are_looks_more stay start events more [] (look ∷ looks) are = absurd are
are_looks_more stay start events more (hits ∷ all) [] are = absurd are
are_looks_more stay start events more (hits ∷ all) (look ∷ looks) are = (stay start events more hits look are.0, are_looks_more stay start events more all looks are.1)

-- ---- the looks that are left for which a find asked

abbrev pub asked_left : List Looks → List LookUrl → List Looks
asked_left asked [] = asked
asked_left asked (one ∷ urls) = asked_left (asked_after asked one) urls

pub asked_left_more : (asked : List Looks) (urls : List LookUrl) (one : LookUrl) → asked_left asked (urls ++ one ∷ []) ≡ asked_after (asked_left asked urls) one
asked_left_more asked [] one = refl
asked_left_more asked (first ∷ urls) one = asked_left_more (asked_after asked first) urls one

abbrev pub nothing : (A : Type 0) → List A
nothing A = []

pub drop_none : (A : Type 0) (n : ℕ) → drop n (nothing A) ≡ []
drop_none A zero = refl
drop_none A (suc n) = refl

far_after : (start : DeskStart) (before : List DeskEvent) (hits : Option (List Hit)) (verdict : Option Verdict) (others : List (List Hit)) (asked : List Looks)
    → AreLooksAsFar start before (open_hits_of hits verdict ++ others) asked → AreLooksAsFar start before others (drop (length (open_hits_of hits verdict)) asked)
far_after start before None verdict others asked far = far
far_after start before (Some hits) (Some verdict) others asked far = far
far_after start before (Some hits) None [] [] far = tt
far_after start before (Some hits) None (other ∷ others) [] far = tt
far_after start before (Some hits) None others (look ∷ asked) far = far.1

-- as many as were asked for, less those of the URLs that were open
count_asked_left : (asked : List Looks) (urls : List LookUrl) → length (asked_left asked urls) ≡ length asked - length (open_hits urls)
count_asked_left asked [] = omega arith
count_asked_left asked (one ∷ urls) =
    let mine = open_hits_of one.hits one.verdict in
    let rest = count_asked_left (asked_after asked one) urls in
    let fewer = length-drop (length mine) asked in
    let many = length-append mine (open_hits urls) in
    omega (arith, rest, fewer, many)

-- of all hits that are left
pub asked_by_rest : (start : DeskStart) (events more : List DeskEvent) (one : LookUrl) (others : List (List Hit)) (asked : List Looks) (ended : Option EndedFind) (by : Option MadeFind)
    → AreAskedBy start events (open_hits_of one.hits one.verdict ++ others) asked ended by → AreAskedBy start (events ++ more) others (asked_after asked one) ended by
asked_by_rest start events more one others asked None by is = is
asked_by_rest start events more one others asked (Some ended) by is =
    let were = is.2 in (
      is.0,
      is.1,
      record {
        before = were.before;
        after = were.after ++ more;
        splits = ap (λ (all : List DeskEvent). all ++ more) were.splits ∙ append_assoc were.before (Found is.0 ∷ were.after) more;
        ends = were.ends;
        looks = far_after start were.before one.hits one.verdict others asked were.looks;
      },
    )

all_dropped : {A : Type 0} (P : A → Type 0) (n : ℕ) (xs : List A) → All P xs → All P (drop n xs)
all_dropped P zero xs all = all
all_dropped P (suc n) [] all = all
all_dropped P (suc n) (x ∷ xs) all = all_dropped P n xs (All-tail P x xs all)

pub asked_for_rest : (one : LookUrl) (asked : List Looks) (ended : Option EndedFind) → HasAskedForAll asked ended → HasAskedForAll (asked_after asked one) ended
asked_for_rest one asked None none =
    ap (λ (all : List Looks). drop (length (open_hits_of one.hits one.verdict)) all) none ∙ drop_none Looks (length (open_hits_of one.hits one.verdict))
asked_for_rest one asked (Some ended) all = all_dropped (HasAskedFor ended.asked) (length (open_hits_of one.hits one.verdict)) asked all

-- ---- one more

pub are_settled_push : (start : DeskStart) (events : List DeskEvent) (by : Option MadeFind) (asked : List Looks) (urls urls' : List LookUrl) (looks : List Looks) (one one' : LookUrl) (first : List Looks)
    → AreUrlsSettled start events by asked urls urls' looks → SettlesUrl start events (find_for by (asked_left asked urls)) one one' first
    → AreUrlsSettled start events by asked (urls ++ one ∷ []) (urls' ++ one' ∷ []) (looks ++ first)
are_settled_push start events by asked [] [] looks one one' first are is =
    (first, [], ap (λ (all : List Looks). all ++ first) are ∙ sym (append-nil first), is, refl)
are_settled_push start events by asked [] (other ∷ urls') looks one one' first are is = absurd are
are_settled_push start events by asked (other ∷ urls) [] looks one one' first are is = absurd are
are_settled_push start events by asked (other ∷ urls) (other' ∷ urls') looks one one' first are is = (
  are.0,
  are.1 ++ first,
  ap (λ (all : List Looks). all ++ first) are.2 ∙ append_assoc are.0 are.1 first,
  are.3,
  are_settled_push start events by (asked_after asked other) urls urls' are.1 one one' first are.4 is,
)

pub only_more : (now : Moment) (events more : List DeskEvent) → AreOnlyLooks now events → AreOnlyLooks now more → AreOnlyLooks now (events ++ more)
only_more now events more first second = All-append (IsOnlyLook now) events more first second

-- ---- the looks that were made

dropped_append : {A : Type 0} (n : ℕ) (xs ys : List A) → drop n (xs ++ ys) ≡ drop n xs ++ drop (n - length xs) ys
dropped_append zero xs ys =
    let none : 0 ≡ 0 - length xs = omega arith in
    ap (λ (k : ℕ). xs ++ drop k ys) none
dropped_append (suc n) [] ys =
    let all : suc n ≡ suc n - 0 = omega arith in
    ap (λ (k : ℕ). drop k ys) all
dropped_append (suc n) (x ∷ xs) ys =
    let same : n - length xs ≡ suc n - suc (length xs) = omega arith in
    dropped_append n xs ys ∙ ap (λ (k : ℕ). drop n xs ++ drop k ys) same

open_hits_push : (urls : List LookUrl) (one : LookUrl) → open_hits (urls ++ one ∷ []) ≡ open_hits urls ++ open_hits_of one.hits one.verdict
open_hits_push urls one =
    flat_map-append (λ (one : LookUrl). open_hits_of one.hits one.verdict) urls (one ∷ []) ∙ ap (λ (hits : List (List Hit)). open_hits urls ++ hits) (append-nil (open_hits_of one.hits one.verdict))

looked_push : (now : Moment) (asked left : List Looks) (urls : List LookUrl) (one : LookUrl) (first second : List DeskEvent) → left ≡ asked_left asked urls
    → first ≡ looks_at now (drop (length asked) (open_hits urls)) → second ≡ looks_at now (drop (length left) (open_hits_of one.hits one.verdict))
    → first ++ second ≡ looks_at now (drop (length asked) (open_hits (urls ++ one ∷ [])))
looked_push now asked left urls one first second is so next =
    let mine = open_hits_of one.hits one.verdict in
    let count : length left ≡ length asked - length (open_hits urls) = ap (λ (left : List Looks). length left) is ∙ count_asked_left asked urls in
    let halves : drop (length asked) (open_hits (urls ++ one ∷ [])) ≡ drop (length asked) (open_hits urls) ++ drop (length left) mine =
    ap (λ (hits : List (List Hit)). drop (length asked) hits) (open_hits_push urls one) ∙ dropped_append (length asked) (open_hits urls) mine
    ∙ ap (λ (n : ℕ). drop (length asked) (open_hits urls) ++ drop n mine) (sym count) in
    ap (λ (events : List DeskEvent). events ++ second) so ∙ ap (λ (events : List DeskEvent). looks_at now (drop (length asked) (open_hits urls)) ++ events) next
    ∙ sym (map-append (looked_up now) (drop (length asked) (open_hits urls)) (drop (length left) mine)) ∙ ap (λ (hits : List (List Hit)). looks_at now hits) (sym halves)

-- ---- events one after the other

abbrev pub goes_nowhere : (target : Target) (need : Bool) (start : DeskStart) (events : List DeskEvent) (now : Moment) (desk : DeskSeen) (line : LineView)
    → HasKeptDesk target need start events desk line → GoesOnLooking (desk_at target need start events now line) desk
goes_nowhere target need start events now desk line has = record {
  more = [];
  only = All-nil (IsOnlyLook now);
  has = subst (λ (all : List DeskEvent). HasKeptDesk target need start all desk line) (sym (append-nil events)) has;
}

abbrev pub goes_once : (target : Target) (need : Bool) (start : DeskStart) (events : List DeskEvent) (now : Moment) (one : DeskEvent) (desk : DeskSeen) (line : LineView)
    → IsOnlyLook now one → HasKeptDesk target need start (events ++ one ∷ []) desk line → GoesOnLooking (desk_at target need start events now line) desk
goes_once target need start events now one desk line is has = record { more = one ∷ []; only = All-cons (IsOnlyLook now) one [] is (All-nil (IsOnlyLook now)); has = has }

abbrev pub goes_twice : (target : Target) (need : Bool) (start : DeskStart) (events : List DeskEvent) (now : Moment) (between desk : DeskSeen) (line : LineView)
    → (first : GoesOnLooking (desk_at target need start events now line) between) → GoesOnLooking (desk_at target need start (events ++ first.more) now line) desk
    → GoesOnLooking (desk_at target need start events now line) desk
goes_twice target need start events now between desk line first second = record {
  more = first.more ++ second.more;
  only = only_more now first.more second.more first.only second.only;
  has = subst (λ (all : List DeskEvent). HasKeptDesk target need start all desk line) (append_assoc events first.more second.more) second.has;
}

-- ---- the URLs so far

-- These URLs were settled, and these are left. The desk looked at the hits of those that were open and for which no find asked.
pub record SettledSoFar (target : Target) (need : Bool) (start : DeskStart) (events : List DeskEvent) (now : Moment) (by : Option MadeFind) (asked : List Looks) (ended : Option EndedFind)
    (urls rest : List LookUrl) (left : List Looks) (done : List LookUrl) (looks : List Looks) (desk : DeskSeen) (line : LineView) : Type 0 where
  pub goes : GoesOnLooking (desk_at target need start events now line) desk
  pub are : AreUrlsSettled start (events ++ goes.more) by asked urls done looks
  pub asks : AreAskedBy start (events ++ goes.more) (open_hits rest) left ended by
  pub looked : goes.more ≡ looks_at now (drop (length asked) (open_hits urls))

pub settled_none : (target : Target) (need : Bool) (start : DeskStart) (events : List DeskEvent) (now : Moment) (by : Option MadeFind) (asked : List Looks) (ended : Option EndedFind)
    (rest : List LookUrl) (desk : DeskSeen) (line : LineView) → HasKeptDesk target need start events desk line → AreAskedBy start events (open_hits rest) asked ended by
    → SettledSoFar target need start events now by asked ended [] rest asked [] [] desk line
settled_none target need start events now by asked ended rest desk line has asks = record {
  goes = goes_nowhere target need start events now desk line has;
  are = refl;
  asks = subst (λ (all : List DeskEvent). AreAskedBy start all (open_hits rest) asked ended by) (sym (append-nil events)) asks;
  looked = ap (λ (hits : List (List Hit)). looks_at now hits) (sym (drop_none (List Hit) (length asked)));
}

pub settled_next : LooksStay → (target : Target) (need : Bool) (start : DeskStart) (events : List DeskEvent) (now : Moment) (by : Option MadeFind) (asked : List Looks) (ended : Option EndedFind)
    (urls : List LookUrl) (one one' : LookUrl) (rest : List LookUrl) (left : List Looks) (done : List LookUrl) (looks looks' : List Looks) (desk desk' : DeskSeen) (line : LineView)
    → (so : SettledSoFar target need start events now by asked ended urls (one ∷ rest) left done looks desk line) → left ≡ asked_left asked urls
    → SettlesOne (desk_at target need start (events ++ so.goes.more) now line) by left one one' looks looks' desk'
    → SettledSoFar target need start events now by asked ended (urls ++ one ∷ []) rest (asked_after left one) (done ++ one' ∷ []) looks' desk' line
settled_next stay target need start events now by asked ended urls one one' rest left done looks looks' desk desk' line so is next = record {
  goes = goes_twice target need start events now desk desk' line so.goes next.goes;
  are = subst (λ (all : List DeskEvent). AreUrlsSettled start all by asked (urls ++ one ∷ []) (done ++ one' ∷ []) looks') (append_assoc events so.goes.more next.goes.more)
      (subst (λ (all : List Looks). AreUrlsSettled start ((events ++ so.goes.more) ++ next.goes.more) by asked (urls ++ one ∷ []) (done ++ one' ∷ []) all) (sym next.appended)
      (are_settled_push start ((events ++ so.goes.more) ++ next.goes.more) by asked urls done looks one one' next.first
      (are_settled_more stay start (events ++ so.goes.more) next.goes.more by asked urls done looks so.are)
      (subst (λ (all : List Looks). SettlesUrl start ((events ++ so.goes.more) ++ next.goes.more) (find_for by all) one one' next.first) is next.is)));
  asks = subst (λ (all : List DeskEvent). AreAskedBy start all (open_hits rest) (asked_after left one) ended by) (append_assoc events so.goes.more next.goes.more)
      (asked_by_rest start (events ++ so.goes.more) next.goes.more one (open_hits rest) left ended by so.asks);
  looked = looked_push now asked left urls one so.goes.more next.goes.more is so.looked next.looked;
}

pub settled_first : (target : Target) (need : Bool) (start : DeskStart) (events : List DeskEvent) (now : Moment) (by : Option MadeFind) (asked : List Looks) (ended : Option EndedFind)
    (urls items done : List LookUrl) (looks : List Looks) (desk : DeskSeen) (line : LineView) → items ≡ urls → done ≡ [] → looks ≡ []
    → HasKeptDesk target need start events desk line → AreAskedBy start events (open_hits urls) asked ended by
    → SettledSoFar target need start events now by asked ended [] items asked done looks desk line
settled_first target need start events now by asked ended urls items done looks desk line are none nothing has asks =
    subst (λ (items : List LookUrl). SettledSoFar target need start events now by asked ended [] items asked done looks desk line) (sym are)
    (subst (λ (done : List LookUrl). SettledSoFar target need start events now by asked ended [] urls asked done looks desk line) (sym none)
    (subst (λ (looks : List Looks). SettledSoFar target need start events now by asked ended [] urls asked [] looks desk line) (sym nothing)
    (settled_none target need start events now by asked ended urls desk line has asks)))

pub settled_step : LooksStay → (target : Target) (need : Bool) (start : DeskStart) (events : List DeskEvent) (now : Moment) (by : Option MadeFind) (asked : List Looks) (ended : Option EndedFind)
    (urls : List LookUrl) (one one' : LookUrl) (items rest : List LookUrl) (left left' : List Looks) (done done' : List LookUrl) (looks looks' : List Looks) (desk desk' : DeskSeen) (line : LineView)
    → items ≡ one ∷ rest → left ≡ asked_left asked urls → left' ≡ asked_after left one → done' ≡ done ++ one' ∷ []
    → SettledSoFar target need start events now by asked ended urls items left done looks desk line
    → ((more : List DeskEvent) → HasKeptDesk target need start (events ++ more) desk line → AreAskedBy start (events ++ more) (open_hits_of one.hits one.verdict ++ open_hits rest) left ended by
    → SettlesOne (desk_at target need start (events ++ more) now line) by left one one' looks looks' desk')
    → SettledSoFar target need start events now by asked ended (urls ++ one ∷ []) rest left' done' looks' desk' line
settled_step stay target need start events now by asked ended urls one one' items rest left left' done done' looks looks' desk desk' line steps at after pushed so next =
    let so' = subst (λ (items : List LookUrl). SettledSoFar target need start events now by asked ended urls items left done looks desk line) steps so in
    subst (λ (left : List Looks). SettledSoFar target need start events now by asked ended (urls ++ one ∷ []) rest left done' looks' desk' line) (sym after)
    (subst (λ (done : List LookUrl). SettledSoFar target need start events now by asked ended (urls ++ one ∷ []) rest (asked_after left one) done looks' desk' line) (sym pushed)
    (settled_next stay target need start events now by asked ended urls one one' rest left done looks looks' desk desk' line so' at (next so'.goes.more so'.goes.has so'.asks)))

pub goes_step : (target : Target) (need : Bool) (start : DeskStart) (events : List DeskEvent) (now : Moment) (by : Option MadeFind) (asked : List Looks) (ended : Option EndedFind)
    (urls : List LookUrl) (one : LookUrl) (items rest : List LookUrl) (left : List Looks) (done : List LookUrl) (looks : List Looks) (desk desk' : DeskSeen) (line : LineView)
    → items ≡ one ∷ rest → SettledSoFar target need start events now by asked ended urls items left done looks desk line
    → ((more : List DeskEvent) → HasKeptDesk target need start (events ++ more) desk line → AreAskedBy start (events ++ more) (open_hits_of one.hits one.verdict ++ open_hits rest) left ended by
    → GoesOnLooking (desk_at target need start (events ++ more) now line) desk')
    → GoesOnLooking (desk_at target need start events now line) desk'
goes_step target need start events now by asked ended urls one items rest left done looks desk desk' line steps so next =
    let so' = subst (λ (items : List LookUrl). SettledSoFar target need start events now by asked ended urls items left done looks desk line) steps so in
    goes_twice target need start events now desk desk' line so'.goes (next so'.goes.more so'.goes.has so'.asks)

whole : (yielded urls items : List LookUrl) → yielded ++ items ≡ urls → items ≡ [] → yielded ≡ urls
whole yielded urls items all none = sym (append-nil yielded) ∙ ap (λ (rest : List LookUrl). yielded ++ rest) (sym none) ∙ all

pub settled_all : (target : Target) (need : Bool) (start : DeskStart) (events : List DeskEvent) (now : Moment) (by : Option MadeFind) (asked : List Looks) (ended : Option EndedFind)
    (yielded urls items : List LookUrl) (left : List Looks) (done : List LookUrl) (looks : List Looks) (desk : DeskSeen) (line : LineView)
    → yielded ++ items ≡ urls → items ≡ [] → SettledSoFar target need start events now by asked ended yielded items left done looks desk line
    → SettlesAll (desk_at target need start events now line) by asked urls (record { urls = done; looks = looks }) desk
settled_all target need start events now by asked ended yielded urls items left done looks desk line all none so = record {
  goes = so.goes;
  are = subst (λ (urls : List LookUrl). AreUrlsSettled start (events ++ so.goes.more) by asked urls done looks) (whole yielded urls items all none) so.are;
  looked = subst (λ (urls : List LookUrl). so.goes.more ≡ looks_at now (drop (length asked) (open_hits urls))) (whole yielded urls items all none) so.looked;
}

-- ---- those that are open still

no_looks : (start : DeskStart) (events : List DeskEvent) (hits : List (List Hit)) (looks : List Looks) → hits ≡ [] → looks ≡ [] → AreLooksOf start events hits looks
no_looks start events hits looks closed none =
    subst (λ (hits : List (List Hit)). AreLooksOf start events hits looks) (sym closed) (subst (λ (looks : List Looks). AreLooksOf start events [] looks) (sym none) tt)

look_kept : (start : DeskStart) (events : List DeskEvent) (by : Option MadeFind) (hits : Option (List Hit)) (verdict verdict' : Option Verdict) (looks : List Looks)
    → IsUrlSettled start events by hits verdict verdict' looks → AreLooksOf start events (open_hits_of hits verdict') looks
look_kept start events by None verdict verdict' looks is = no_looks start events [] looks refl is.1
look_kept start events by (Some hits) (Some verdict) verdict' looks is = no_looks start events (open_hits_of (Some hits) verdict') looks (ap (open_hits_of (Some hits)) is.0) is.1
look_kept start events (Some one) (Some hits) None verdict' looks is =
    no_looks start events (open_hits_of (Some hits) verdict') looks (ap (open_hits_of (Some hits)) is.verdict_is) is.none
look_kept start events None (Some hits) None verdict' looks (inl is) =
    no_looks start events (open_hits_of (Some hits) verdict') looks (ap (open_hits_of (Some hits)) is.verdict_is) is.none
look_kept start events None (Some hits) None verdict' looks (inr is) =
    subst (λ (verdict : Option Verdict). AreLooksOf start events (open_hits_of (Some hits) verdict) looks) (sym is.undecided)
    (subst (λ (looks : List Looks). AreLooksOf start events (hits ∷ []) looks) (sym is.its) (is.is, tt))

looks_append : (start : DeskStart) (events : List DeskEvent) (hits more : List (List Hit)) (looks others : List Looks)
    → AreLooksOf start events hits looks → AreLooksOf start events more others → AreLooksOf start events (hits ++ more) (looks ++ others)
looks_append start events [] more [] others are rest = rest
looks_append start events [] more (look ∷ looks) others are rest = absurd are
looks_append start events (first ∷ hits) more [] others are rest = absurd are
looks_append start events (first ∷ hits) more (look ∷ looks) others are rest = (are.0, looks_append start events hits more looks others are.1 rest)

pub settled_keep_looks : SettledKeepLooks
settled_keep_looks start events by asked [] [] looks are = subst (λ (looks : List Looks). AreLooksOf start events [] looks) (sym are) tt
settled_keep_looks start events by asked [] (one' ∷ urls') looks are = absurd are
settled_keep_looks start events by asked (one ∷ urls) [] looks are = absurd are
settled_keep_looks start events by asked (one ∷ urls) (one' ∷ urls') looks are =
    subst (λ (looks : List Looks). AreLooksOf start events (open_hits (one' ∷ urls')) looks) (sym are.2)
    (looks_append start events (open_hits_of one'.hits one'.verdict) (open_hits urls') are.0 are.1
    (subst (λ (hits : Option (List Hit)). AreLooksOf start events (open_hits_of hits one'.verdict) are.0) (sym are.3.hits)
    (look_kept start events (find_for by asked) one.hits one.verdict one'.verdict are.0 are.3.settled))
    (settled_keep_looks start events by (asked_after asked one) urls urls' are.1 are.4))
