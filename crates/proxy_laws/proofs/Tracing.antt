-- What a proxy holds goes back to the connections that it took, step by step.
use Rattle.std.proofs.Common.{◌≡◌, ℕ, Bool, true, false, List, [], ◌∷◌, ◌++◌, Option, Some, None, Result, inl, inr, refl, sym, ap, ◌∙◌, subst}
use Rattle.std.specs.Prelude.{⊤, option_map}
use Rattle.std.proofs.lemmas.List.{append-nil}
use Rattle.find_desk.specs.Events.{DeskEvent, Found}
use Rattle.held_connections.specs.Over.{ServedConnection}
use Rattle.http_edge.specs.declared.faults.RequestFault.{RequestFault}
use Rattle.http_edge.specs.declared.messages.HttpRequest.{HttpRequest}
use Rattle.lookup_messages.specs.Messages.{AskedUrls}
use Rattle.proxy_looks.specs.Urls.{urls_asked}
use Rattle.proxy_looks.specs.declared.urls.LookUrl.{LookUrl}
use Rattle.proxy_run.specs.Allowed.{MayAllProxyEventsCome, MayProxyEventCome, MayReadClock, proxy_look_at}
use Rattle.proxy_run.specs.Events.{ProxyEvent}
use Rattle.proxy_run.specs.Events.ProxyEvent.{TurnBegun, RoundBegun, RoundOver, RoundsStopped, AllBegun, ClockRead, LookDone, NothingCame, NoMoreCame, DoorFailed, RunEnding}
use Rattle.proxy_run.specs.LookAllowed.{IsAnsweredBy, IsFirstLook, IsRefusedLook, MayLookEventCome, MayLookUp, MayReleaseFirst, MaySettleFirst}
use Rattle.proxy_run.specs.LookEvents.{LookEvent, behind_first, behind_waiting, first_in_hand, first_released, held_with}
use Rattle.proxy_run.specs.LookEvents.LookEvent.{Taken, LookedUp, FindBegan, FindGone, FindEnded, SettledFirst, ReleasedFirst, PutOff, Answered, CountsTold}
use Rattle.proxy_run.specs.LookState.{HandLook, HeldLook}
use Rattle.proxy_run.specs.State.{ProxyFirst, before_proxy, proxy_lists}
use Rattle.proxy_run.specs.declared.plan.ProxyPlan.{ProxyPlan}
use Rattle.proxy_serving.specs.HeardLook.{IsHeardLook}
use Rattle.proxy_serving.specs.Response.{ProxyServed}
use Rattle.update_client.specs.Held.{Held}
use Rattle.proxy_laws.specs.Traced.{AnswerGoesBack, AnswersGoBack, WasTaken, proxy_after}
use Rattle.proxy_laws.proofs.Grounds.{AreGrounded, grounded_at_first, grounded_more, grounded_settled, grounded_told}

-- ---- what is held

-- the events of the desk after some events
abbrev pub desk_after : ProxyFirst → List ProxyEvent → List DeskEvent
desk_after first events = (proxy_after first events).looks.desk

-- A look-up that is held goes back to a connection that was taken, and its URLs to the lists that were held then.
pub record IsTraced (first : ProxyFirst) (events : List ProxyEvent) (number : ℕ) (received : Result HttpRequest RequestFault) (urls : List LookUrl) : Type 0 where
  pub lists : List Held
  pub taken : WasTaken first events number received lists
  pub message : AskedUrls
  pub heard : IsHeardLook received message
  pub are : AreGrounded first.desk (desk_after first events) (urls_asked lists message) urls

abbrev pub AreHandUrlsTraced : ProxyFirst → List ProxyEvent → ℕ → Result HttpRequest RequestFault → Option (List LookUrl) → Type 0
AreHandUrlsTraced first events number received None = ⊤
AreHandUrlsTraced first events number received (Some urls) = IsTraced first events number received urls

-- So does the connection in hand; and if it was taken just now, the lists are those of now.
pub record IsHandTraced (first : ProxyFirst) (events : List ProxyEvent) (hand : HandLook) : Type 0 where
  pub lists : List Held
  pub taken : WasTaken first events hand.number hand.received lists
  pub now : hand.fresh ≡ true → lists ≡ proxy_lists first (proxy_after first events)
  pub urls : AreHandUrlsTraced first events hand.number hand.received hand.urls

abbrev pub HandGoesBack : ProxyFirst → List ProxyEvent → Option HandLook → Type 0
HandGoesBack first events None = ⊤
HandGoesBack first events (Some hand) = IsHandTraced first events hand

abbrev pub AllGoBack : ProxyFirst → List ProxyEvent → List HeldLook → Type 0
AllGoBack first events [] = ⊤
AllGoBack first events (one ∷ all) = IsTraced first events one.number one.received one.urls × AllGoBack first events all

pub record GoesBackAll (first : ProxyFirst) (events : List ProxyEvent) : Type 0 where
  pub hand : HandGoesBack first events (proxy_after first events).looks.hand
  pub unsettled : AllGoBack first events (proxy_after first events).looks.unsettled
  pub waiting : AllGoBack first events (proxy_after first events).looks.waiting

-- ---- one more event

taken_more : (first : ProxyFirst) (events : List ProxyEvent) (event : ProxyEvent) (number : ℕ) (received : Result HttpRequest RequestFault) (lists : List Held)
    → WasTaken first events number received lists → WasTaken first (event ∷ events) number received lists
taken_more first events event number received lists was = record {
  later = event ∷ was.later;
  earlier = was.earlier;
  pieces = was.pieces;
  splits = ap (λ (all : List ProxyEvent). event ∷ all) was.splits;
  placed = was.placed;
  held = was.held;
}

traced_more : (first : ProxyFirst) (events : List ProxyEvent) (event : ProxyEvent) (more : List DeskEvent) → desk_after first (event ∷ events) ≡ desk_after first events ++ more
    → (number : ℕ) (received : Result HttpRequest RequestFault) (urls : List LookUrl) → IsTraced first events number received urls → IsTraced first (event ∷ events) number received urls
traced_more first events event more desk number received urls is = record {
  lists = is.lists;
  taken = taken_more first events event number received is.lists is.taken;
  message = is.message;
  heard = is.heard;
  are = subst (λ (all : List DeskEvent). AreGrounded first.desk all (urls_asked is.lists is.message) urls) (sym desk)
      (grounded_more first.desk (desk_after first events) more (urls_asked is.lists is.message) urls is.are);
}

all_more : (first : ProxyFirst) (events : List ProxyEvent) (event : ProxyEvent) (more : List DeskEvent) → desk_after first (event ∷ events) ≡ desk_after first events ++ more
    → (all : List HeldLook) → AllGoBack first events all → AllGoBack first (event ∷ events) all
all_more first events event more desk [] are = tt
all_more first events event more desk (one ∷ all) are = (traced_more first events event more desk one.number one.received one.urls are.0, all_more first events event more desk all are.1)

all_together : (first : ProxyFirst) (events : List ProxyEvent) (all others : List HeldLook) → AllGoBack first events all → AllGoBack first events others → AllGoBack first events (all ++ others)
all_together first events [] others are more = more
all_together first events (one ∷ all) others are more = (are.0, all_together first events all others are.1 more)

all_behind : (first : ProxyFirst) (events : List ProxyEvent) (all : List HeldLook) → AllGoBack first events all → AllGoBack first events (behind_first all)
all_behind first events [] are = tt
all_behind first events (one ∷ all) are = are.1

waiting_behind : (first : ProxyFirst) (events : List ProxyEvent) (waiting : List HeldLook) (hand : Option HandLook) → AllGoBack first events waiting → HandGoesBack first events hand
    → AllGoBack first events (behind_waiting waiting hand)
waiting_behind first events waiting None are goes = are
waiting_behind first events waiting (Some hand) are goes = all_together first events waiting _ are (of_hand hand.urls goes.urls)
  where
    of_hand : (urls : Option (List LookUrl)) → AreHandUrlsTraced first events hand.number hand.received urls → AllGoBack first events (held_with hand urls)
    of_hand None traced = tt
    of_hand (Some urls) traced = (traced, tt)

-- An event after which no connection is in hand, and that leaves who is to be settled and who waits.
quiet : (first : ProxyFirst) (events : List ProxyEvent) (event : ProxyEvent) → GoesBackAll first events
    → (proxy_after first (event ∷ events)).looks.hand ≡ None
    → desk_after first (event ∷ events) ≡ desk_after first events
    → (proxy_after first (event ∷ events)).looks.unsettled ≡ (proxy_after first events).looks.unsettled
    → (proxy_after first (event ∷ events)).looks.waiting ≡ (proxy_after first events).looks.waiting
    → GoesBackAll first (event ∷ events)
quiet first events event goes none desk unsettled waiting =
    let grows : desk_after first (event ∷ events) ≡ desk_after first events ++ [] = desk ∙ sym (append-nil (desk_after first events)) in
    record {
      hand = subst (λ (hand : Option HandLook). HandGoesBack first (event ∷ events) hand) (sym none) tt;
      unsettled = subst (λ (all : List HeldLook). AllGoBack first (event ∷ events) all) (sym unsettled) (all_more first events event [] grows _ goes.unsettled);
      waiting = subst (λ (all : List HeldLook). AllGoBack first (event ∷ events) all) (sym waiting) (all_more first events event [] grows _ goes.waiting);
    }

-- ---- each event

-- a connection that was taken just now is in hand
after_taken : (first : ProxyFirst) (events : List ProxyEvent) (pieces : List (List ℕ)) (received : Result HttpRequest RequestFault) → GoesBackAll first events
    → GoesBackAll first (LookDone (Taken pieces received) ∷ events)
after_taken first events pieces received goes =
    let event : ProxyEvent = LookDone (Taken pieces received) in
    let grows : desk_after first (event ∷ events) ≡ desk_after first events ++ [] = sym (append-nil (desk_after first events)) in
    record {
      hand = record {
        lists = proxy_lists first (proxy_after first events);
        taken = record { later = []; earlier = events; pieces = pieces; splits = refl; placed = refl; held = refl };
        now = λ _. refl;
        urls = tt;
      };
      unsettled = all_more first events event [] grows _ goes.unsettled;
      waiting = all_more first events event [] grows _ goes.waiting;
    }

-- the URLs of the one in hand are looked up, on the lists of now
urls_looked_up : (plan : ProxyPlan) (first : ProxyFirst) (events : List ProxyEvent) (urls : List LookUrl) (more : List DeskEvent)
    → (may : IsFirstLook (proxy_look_at plan first (proxy_after first events)) (proxy_after first events).looks urls more)
    → IsHandTraced first events may.hand → IsTraced first (LookDone (LookedUp (Some urls) more) ∷ events) may.hand.number may.hand.received urls
urls_looked_up plan first events urls more may hand =
    let lists : hand.lists ≡ proxy_lists first (proxy_after first events) = hand.now may.fresh in
    let desk : List DeskEvent = desk_after first events ++ more in
    let asked : AreGrounded first.desk desk (urls_asked (proxy_lists first (proxy_after first events)) may.message) urls =
    grounded_settled first.desk desk None [] _ _ urls may.looks may.settled
    (grounded_at_first first.desk desk (proxy_lists first (proxy_after first events)) may.message may.message.urls) in
    record {
      lists = hand.lists;
      taken = taken_more first events (LookDone (LookedUp (Some urls) more)) may.hand.number may.hand.received hand.lists hand.taken;
      message = may.message;
      heard = may.heard;
      are = subst (λ (held : List Held). AreGrounded first.desk desk (urls_asked held may.message) urls) (sym lists) asked;
    }

hand_of : (first : ProxyFirst) (events : List ProxyEvent) (hand : Option HandLook) (one : HandLook) → hand ≡ Some one → HandGoesBack first events hand → IsHandTraced first events one
hand_of first events hand one is goes = subst (λ (h : Option HandLook). HandGoesBack first events h) is goes

after_looked_up : (plan : ProxyPlan) (first : ProxyFirst) (events : List ProxyEvent) (urls : Option (List LookUrl)) (more : List DeskEvent)
    → MayLookUp (proxy_look_at plan first (proxy_after first events)) (proxy_after first events).looks urls more → GoesBackAll first events
    → GoesBackAll first (LookDone (LookedUp urls more) ∷ events)
after_looked_up plan first events (Some urls) more may goes =
    let event : ProxyEvent = LookDone (LookedUp (Some urls) more) in
    let hand : IsHandTraced first events may.hand = hand_of first events _ may.hand may.is goes.hand in
    let given : HandLook → HandLook = λ (hand : HandLook). record hand { urls = Some urls } in
    let now : IsHandTraced first (event ∷ events) (given may.hand) = record {
      lists = hand.lists;
      taken = taken_more first events event may.hand.number may.hand.received hand.lists hand.taken;
      now = hand.now;
      urls = urls_looked_up plan first events urls more may hand;
    } in
    record {
      hand = subst (λ (h : Option HandLook). HandGoesBack first (event ∷ events) h) (sym (ap (λ (h : Option HandLook). option_map given h) may.is)) now;
      unsettled = all_more first events event more refl _ goes.unsettled;
      waiting = all_more first events event more refl _ goes.waiting;
    }
after_looked_up plan first events None more may goes =
    let event : ProxyEvent = LookDone (LookedUp None more) in
    let hand : IsHandTraced first events may.hand = hand_of first events _ may.hand may.is goes.hand in
    let given : HandLook → HandLook = λ (hand : HandLook). record hand { urls = None } in
    let now : IsHandTraced first (event ∷ events) (given may.hand) = record {
      lists = hand.lists;
      taken = taken_more first events event may.hand.number may.hand.received hand.lists hand.taken;
      now = hand.now;
      urls = tt;
    } in
    record {
      hand = subst (λ (h : Option HandLook). HandGoesBack first (event ∷ events) h) (sym (ap (λ (h : Option HandLook). option_map given h) may.is)) now;
      unsettled = all_more first events event more refl _ goes.unsettled;
      waiting = all_more first events event more refl _ goes.waiting;
    }

-- those who waited are to be settled
after_find : (first : ProxyFirst) (events : List ProxyEvent) (event : ProxyEvent) (more : List DeskEvent) → GoesBackAll first events
    → (proxy_after first (event ∷ events)).looks.hand ≡ None
    → desk_after first (event ∷ events) ≡ desk_after first events ++ more
    → (proxy_after first (event ∷ events)).looks.unsettled ≡ (proxy_after first events).looks.waiting
    → (proxy_after first (event ∷ events)).looks.waiting ≡ []
    → GoesBackAll first (event ∷ events)
after_find first events event more goes none desk unsettled waiting = record {
  hand = subst (λ (hand : Option HandLook). HandGoesBack first (event ∷ events) hand) (sym none) tt;
  unsettled = subst (λ (all : List HeldLook). AllGoBack first (event ∷ events) all) (sym unsettled) (all_more first events event more desk _ goes.waiting);
  waiting = subst (λ (all : List HeldLook). AllGoBack first (event ∷ events) all) (sym waiting) tt;
}

-- the first of those who are to be settled is in hand
hand_settled : (first : ProxyFirst) (events : List ProxyEvent) (one : HeldLook) (urls : Option (List LookUrl)) (released : Bool) → IsTraced first events one.number one.received one.urls
    → AreHandUrlsTraced first events one.number one.received urls
    → IsHandTraced first events (record { number = one.number; received = one.received; urls = urls; fresh = false; released = released })
hand_settled first events one urls released is traced = record { lists = is.lists; taken = is.taken; now = λ (e : false ≡ true). absurd (cc e); urls = traced }

first_of : (first : ProxyFirst) (events : List ProxyEvent) (all : List HeldLook) (one : HeldLook) (rest : List HeldLook) → all ≡ one ∷ rest → AllGoBack first events all
    → IsTraced first events one.number one.received one.urls
first_of first events all one rest is goes = (subst (λ (a : List HeldLook). AllGoBack first events a) is goes).0

after_settled : (plan : ProxyPlan) (first : ProxyFirst) (events : List ProxyEvent) (urls : Option (List LookUrl)) (more : List DeskEvent)
    → MaySettleFirst (proxy_look_at plan first (proxy_after first events)) (proxy_after first events).looks urls more → GoesBackAll first events
    → GoesBackAll first (LookDone (SettledFirst urls more) ∷ events)
after_settled plan first events (Some urls) more may goes =
    let event : ProxyEvent = LookDone (SettledFirst (Some urls) more) in
    let was : IsTraced first events may.first.number may.first.received may.first.urls = first_of first events _ may.first may.next.rest may.next.is goes.unsettled in
    let is : IsTraced first (event ∷ events) may.first.number may.first.received may.first.urls =
    traced_more first events event more refl may.first.number may.first.received may.first.urls was in
    let settled : IsTraced first (event ∷ events) may.first.number may.first.received urls = record {
      lists = is.lists;
      taken = is.taken;
      message = is.message;
      heard = is.heard;
      are = grounded_settled first.desk (desk_after first (event ∷ events)) (Some may.one) may.asked _ may.first.urls urls may.looks may.settled is.are;
    } in
    record {
      hand = subst (λ (all : List HeldLook). HandGoesBack first (event ∷ events) (first_in_hand all (Some urls))) (sym may.next.is)
          (hand_settled first (event ∷ events) may.first (Some urls) false is settled);
      unsettled = all_behind first (event ∷ events) _ (all_more first events event more refl _ goes.unsettled);
      waiting = all_more first events event more refl _ goes.waiting;
    }
after_settled plan first events None more may goes =
    let event : ProxyEvent = LookDone (SettledFirst None more) in
    let was : IsTraced first events may.first.number may.first.received may.first.urls = first_of first events _ may.first may.next.rest may.next.is goes.unsettled in
    let is : IsTraced first (event ∷ events) may.first.number may.first.received may.first.urls =
    traced_more first events event more refl may.first.number may.first.received may.first.urls was in
    record {
      hand = subst (λ (all : List HeldLook). HandGoesBack first (event ∷ events) (first_in_hand all None)) (sym may.next.is)
          (hand_settled first (event ∷ events) may.first None false is tt);
      unsettled = all_behind first (event ∷ events) _ (all_more first events event more refl _ goes.unsettled);
      waiting = all_more first events event more refl _ goes.waiting;
    }

after_released : (first : ProxyFirst) (events : List ProxyEvent) → MayReleaseFirst (proxy_after first events).looks → GoesBackAll first events
    → GoesBackAll first (LookDone ReleasedFirst ∷ events)
after_released first events may goes =
    let event : ProxyEvent = LookDone ReleasedFirst in
    let grows : desk_after first (event ∷ events) ≡ desk_after first events ++ [] = sym (append-nil (desk_after first events)) in
    let was : IsTraced first events may.first.number may.first.received may.first.urls = first_of first events _ may.first may.next.rest may.next.is goes.unsettled in
    let is : IsTraced first (event ∷ events) may.first.number may.first.received may.first.urls =
    traced_more first events event [] grows may.first.number may.first.received may.first.urls was in
    record {
      hand = subst (λ (all : List HeldLook). HandGoesBack first (event ∷ events) (first_released all)) (sym may.next.is)
          (hand_settled first (event ∷ events) may.first (Some may.first.urls) true is is);
      unsettled = all_behind first (event ∷ events) _ (all_more first events event [] grows _ goes.unsettled);
      waiting = all_more first events event [] grows _ goes.waiting;
    }

hand_more : (first : ProxyFirst) (events : List ProxyEvent) (event : ProxyEvent) → desk_after first (event ∷ events) ≡ desk_after first events ++ []
    → proxy_lists first (proxy_after first (event ∷ events)) ≡ proxy_lists first (proxy_after first events)
    → (hand : Option HandLook) → HandGoesBack first events hand → HandGoesBack first (event ∷ events) hand
hand_more first events event grows lists None goes = tt
hand_more first events event grows lists (Some hand) goes = record {
  lists = goes.lists;
  taken = taken_more first events event hand.number hand.received goes.lists goes.taken;
  now = λ fresh. goes.now fresh ∙ sym lists;
  urls = urls_more hand.urls goes.urls;
}
  where
    urls_more : (urls : Option (List LookUrl)) → AreHandUrlsTraced first events hand.number hand.received urls → AreHandUrlsTraced first (event ∷ events) hand.number hand.received urls
    urls_more None traced = tt
    urls_more (Some urls) traced = traced_more first events event [] grows hand.number hand.received urls traced

after_put_off : (first : ProxyFirst) (events : List ProxyEvent) → GoesBackAll first events → GoesBackAll first (LookDone PutOff ∷ events)
after_put_off first events goes =
    let event : ProxyEvent = LookDone PutOff in
    let grows : desk_after first (event ∷ events) ≡ desk_after first events ++ [] = sym (append-nil (desk_after first events)) in
    record {
      hand = tt;
      unsettled = all_more first events event [] grows _ goes.unsettled;
      waiting = waiting_behind first (event ∷ events) _ _ (all_more first events event [] grows _ goes.waiting) (hand_more first events event grows refl _ goes.hand);
    }

after_look : (plan : ProxyPlan) (first : ProxyFirst) (events : List ProxyEvent) (one : LookEvent)
    → MayLookEventCome (proxy_look_at plan first (proxy_after first events)) (proxy_after first events).looks one → GoesBackAll first events → GoesBackAll first (LookDone one ∷ events)
after_look plan first events (Taken pieces received) may goes = after_taken first events pieces received goes
after_look plan first events (LookedUp urls more) may goes = after_looked_up plan first events urls more may goes
after_look plan first events (FindBegan find) may goes = quiet first events (LookDone (FindBegan find)) goes may.due.left.none_in_hand refl refl refl
after_look plan first events (FindGone by more) may goes = after_find first events (LookDone (FindGone by more)) more goes may.0.none_in_hand refl refl refl
after_look plan first events (FindEnded one part) may goes = after_find first events (LookDone (FindEnded one part)) (Found one ∷ []) goes may.left.none_in_hand refl refl refl
after_look plan first events (SettledFirst urls more) may goes = after_settled plan first events urls more may goes
after_look plan first events ReleasedFirst may goes = after_released first events may goes
after_look plan first events PutOff may goes = after_put_off first events goes
after_look plan first events (Answered one part) may goes = quiet first events (LookDone (Answered one part)) goes refl refl refl refl
after_look plan first events (CountsTold part) may goes = quiet first events (LookDone (CountsTold part)) goes may.0.none_in_hand refl refl refl

-- the clock is read if no connection is in hand
none_at_reading : (first : ProxyFirst) (events : List ProxyEvent) → MayReadClock (proxy_after first events) → (proxy_after first events).looks.hand ≡ None
none_at_reading first events (inl may) = may.0.none_in_hand
none_at_reading first events (inr may) = may.0.none_in_hand

after_event : (plan : ProxyPlan) (first : ProxyFirst) (events : List ProxyEvent) (event : ProxyEvent) → MayProxyEventCome plan first (proxy_after first events) event
    → GoesBackAll first events → GoesBackAll first (event ∷ events)
after_event plan first events (TurnBegun now) may goes = quiet first events (TurnBegun now) goes may.left.none_in_hand refl refl refl
after_event plan first events RoundBegun may goes = quiet first events RoundBegun goes may.0.none_in_hand refl refl refl
after_event plan first events (RoundOver round) may goes = quiet first events (RoundOver round) goes may.0.none_in_hand refl refl refl
after_event plan first events (RoundsStopped why written) may goes = quiet first events (RoundsStopped why written) goes may.0.none_in_hand refl refl refl
after_event plan first events AllBegun may goes = quiet first events AllBegun goes may.0.none_in_hand refl refl refl
after_event plan first events (ClockRead now) may goes = quiet first events (ClockRead now) goes (none_at_reading first events may) refl refl refl
after_event plan first events (LookDone one) may goes = after_look plan first events one may.0 goes
after_event plan first events NothingCame may goes = quiet first events NothingCame goes may.0.none_in_hand refl refl refl
after_event plan first events NoMoreCame may goes = quiet first events NoMoreCame goes may.0.none_in_hand refl refl refl
after_event plan first events DoorFailed may goes = quiet first events DoorFailed goes may.0.none_in_hand refl refl refl
after_event plan first events RunEnding may goes = quiet first events RunEnding goes may.0.none_in_hand refl refl refl

-- ---- all events

pub all_go_back : (plan : ProxyPlan) (first : ProxyFirst) (events : List ProxyEvent) → MayAllProxyEventsCome plan first before_proxy events → GoesBackAll first events
all_go_back plan first [] may = record { hand = tt; unsettled = tt; waiting = tt }
all_go_back plan first (event ∷ events) may = after_event plan first events event may.0 (all_go_back plan first events may.1)

may_behind : (plan : ProxyPlan) (first : ProxyFirst) (later earlier : List ProxyEvent) → MayAllProxyEventsCome plan first before_proxy (later ++ earlier)
    → MayAllProxyEventsCome plan first before_proxy earlier
may_behind plan first [] earlier may = may
may_behind plan first (event ∷ later) earlier may = may_behind plan first later earlier may.1

-- ---- what an answer goes back to

refused : (first : ProxyFirst) (events : List ProxyEvent) (hand : HandLook) (one : ServedConnection ProxyServed) → one.number ≡ hand.number → IsHandTraced first events hand → IsRefusedLook hand one
    → AnswerGoesBack first events one
refused first events hand one number traced (inl memory) = inl memory
refused first events hand one number traced (inr none) = inr (inl (record {
  received = hand.received;
  lists = traced.lists;
  taken = subst (λ (n : ℕ). WasTaken first events n hand.received traced.lists) (sym number) traced.taken;
  none = none;
}))

answered : (plan : ProxyPlan) (first : ProxyFirst) (events : List ProxyEvent) (hand : HandLook) (one : ServedConnection ProxyServed) → one.number ≡ hand.number → IsHandTraced first events hand
    → (urls : Option (List LookUrl)) → AreHandUrlsTraced first events hand.number hand.received urls
    → IsAnsweredBy (proxy_look_at plan first (proxy_after first events)) (proxy_after first events).looks hand urls one → AnswerGoesBack first events one
answered plan first events hand one number traced None are (inl by) = refused first events hand one number traced by
answered plan first events hand one number traced None are (inr by) = inr (inr (inl by.0))
answered plan first events hand one number traced (Some urls) are (inl by) = refused first events hand one number traced by
answered plan first events hand one number traced (Some urls) are (inr by) = inr (inr (inr (record {
  received = hand.received;
  lists = are.lists;
  taken = subst (λ (n : ℕ). WasTaken first events n hand.received are.lists) (sym number) are.taken;
  message = are.message;
  heard = are.heard;
  told = by.0.told;
  are = grounded_told first.desk (desk_after first events) _ urls by.0.told by.0.are are.are;
  is = by.0.is;
})))

pub answers_go : AnswersGoBack
answers_go plan first later earlier one part may =
    let here : MayAllProxyEventsCome plan first before_proxy (LookDone (Answered one part) ∷ earlier) = may_behind plan first later _ may in
    let goes : GoesBackAll first earlier = all_go_back plan first earlier here.1 in
    let by = here.0.0 in
    let traced : IsHandTraced first earlier by.hand = hand_of first earlier _ by.hand by.is goes.hand in
    answered plan first earlier by.hand one by.number traced by.hand.urls traced.urls by.by
