-- A connection that is put off, and why it waits or does not.
use Rattle.std.proofs.Common.{◌≡◌, ◌≢◌, ◌<◌, ◌≤◌, ◌+◌, ℕ, Bool, true, List, [], ◌∷◌, ◌++◌, length, map, Option, Some, None, Result, Ok, Err, inl, inr, refl, sym, ap, ◌∙◌, subst, append_assoc, length-append, arith}
use Rattle.std.proofs.lemmas.List.{append-nil, length-map, map-append, take-append-le}
use Rattle.std.proofs.lemmas.List.Elements.{All-append, All-cons, All-nil}
use Rattle.std.specs.Prelude.{◌⊎◌, ◌-◌, ◌^◌, All, IfOk, if◌then◌else◌, is_some, min}
use Rattle.find_desk.specs.Verdicts.{HasAskedFor}
use Rattle.find_desk.specs.declared.desk.OpenDeskFind.{OpenDeskFind}
use Rattle.held_connections.specs.Held.{HeardView, HeldView, HoldsConnections, waiting_limit}
use Rattle.held_connections.specs.Steps.{PutsHandOff}
use Rattle.held_connections.specs.Over.{ServedConnection}
use Rattle.proxy_looks.specs.Fates.{IsFateOf}
use Rattle.proxy_looks.specs.Settled.{AreLooksOf}
use Rattle.proxy_looks.specs.Urls.{IsAskableUrl, open_hits}
use Rattle.proxy_looks.specs.declared.urls.LookUrl.{LookUrl}
use Rattle.proxy_run.specs.LookAllowed.{IsAnsweredBy, IsRefusedLook, LookAt, MayNotWait, MayWaitOn, look_at, MayFindCome}
use Rattle.proxy_run.specs.LookEvents.{after_look_event, behind_waiting, counted_up, held_with, waited_with}
use Rattle.proxy_run.specs.LookEvents.LookEvent.{Answered, PutOff}
use Rattle.proxy_run.specs.LookSoFar.{HoldLooksSo, IsAskingOf, IsHandOf, LookOutside, LookOwn, LookStart, ProxyRight, look_of}
use Rattle.proxy_run.specs.LookState.{HandLook, HeldLook, LookState, StartedAsking, open_of}
use Rattle.proxy_run.specs.LookSteps.{IsSettlingLook, GivesLook, HasFateOrRefused, HasSettledHand, IsToDecide, LooksGoTo, LooksMayNotWait, LooksMayWait}
use Rattle.proxy_run.specs.declared.plan.ProxyPlan.{ProxyPlan}
use Rattle.proxy_run.proofs.LookFacts.{looks_together, open_of_append}
use Rattle.proxy_serving.specs.Response.{ProxyServed}
use Rattle.proxy_serving.specs.declared.fate.LookFate.{LookFate}
use Rattle.sb_model.specs.declared.time.Moment.{Moment}
use Rattle.update_client.specs.Held.{Held}
use Rattle.url_checker.specs.declared.findings.Hit.{Hit}
use Rattle.url_checker.specs.declared.looking.Looks.{Looks}
use Rattle.wait_rules.specs.declared.waits.WaitState.{WaitState}

some_same : {A : Type 0} {a b : A} → Some a ≡ Some b → a ≡ b
some_same e = cc

-- the connection in hand is the one that was heard
pub hand_heard : (heard : Option HeardView) (hand : Option HandLook) (view : HeardView) (one : HandLook) → IsHandOf heard hand → heard ≡ Some view → hand ≡ Some one
    → (one.number ≡ view.number) × (one.received ≡ view.received)
hand_heard (Some heard) (Some hand) view one are was is =
    let h = some_same was in let o = some_same is in
    (ap (λ (x : HandLook). x.number) (sym o) ∙ are.0 ∙ ap (λ (x : HeardView). x.number) h, ap (λ (x : HandLook). x.received) (sym o) ∙ are.1 ∙ ap (λ (x : HeardView). x.received) h)
hand_heard (Some heard) None view one are was is = absurd are
hand_heard None (Some hand) view one are was is = absurd are
hand_heard None None view one are was is = cc

-- a find that is open asks for the first looks, whichever come behind them
asking_put : (opened : Option OpenDeskFind) (asked : ℕ) (looks more : List Looks) (find : Option StartedAsking) → IsAskingOf opened asked looks find → IsAskingOf opened asked (looks ++ more) find
asking_put None asked looks more find is = is
asking_put (Some session) asked looks more find is = (
  is.0,
  subst (λ (ls : List Looks). All (HasAskedFor session.asked) ls) (sym (take-append-le asked looks more is.2)) is.1,
  let longer = length-append looks more in omega (arith, longer, is.2),
)

look_same : (hand : HandLook) (view : HeardView) (urls : List LookUrl) → (hand.number ≡ view.number) × (hand.received ≡ view.received)
    → look_of (record { heard = view; wait = urls }) ≡ record { number = hand.number; received = hand.received; urls = urls }
look_same hand view urls same = cc

waited_is : (fresh : Bool) (hand : HandLook) (waited : ℕ) → hand.fresh ≡ fresh → waited_with waited (Some hand) ≡ (if fresh then counted_up waited else waited)
waited_is fresh hand waited is = ap (λ (f : Bool). if f then counted_up waited else waited) is

module _ (plan : ProxyPlan) (start : LookStart) (state : LookState) (own : LookOwn) (seen : LookOutside) (so : HoldLooksSo plan start state own seen) where
  -- ---- how many wait

  pub waiting_count : length own.connections.waiting ≡ length state.unsettled + length state.waiting
  waiting_count = sym (length-map own.connections.waiting look_of) ∙ ap (λ (all : List HeldLook). length all) so.are.waiting ∙ length-append state.unsettled state.waiting

  -- ---- one that is put off

  pub look_put : (hand : HandLook) (fresh : Bool) (urls : List LookUrl) (looks : List Looks) (conns : HeldView (List LookUrl)) (waited' : ℕ) → IsToDecide start state hand fresh urls looks
      → PutsHandOff urls own.connections conns → HoldsConnections ProxyRight start.outside.door state.taken state.over conns seen.door
      → waited' ≡ (if fresh then counted_up own.waited else own.waited)
      → HoldLooksSo plan start (after_look_event state PutOff) (record own { looks = own.looks ++ looks; connections = conns; waited = waited' }) seen
  look_put hand fresh urls looks conns waited' decides puts connections counted =
      let one : HeldLook = record { number = hand.number; received = hand.received; urls = urls } in
      let behind : behind_waiting state.waiting state.hand ≡ state.waiting ++ one ∷ [] = ap (behind_waiting state.waiting) decides.is ∙ ap (λ (us : Option (List LookUrl)). state.waiting ++ held_with hand us) decides.known in
      let same = look_same hand puts.heard urls (hand_heard own.connections.hand state.hand puts.heard hand so.are.hand puts.was decides.is) in
      record {
        are = record {
          find = asking_put own.desk.opened own.asked own.looks looks state.find_open so.are.find;
          waiting = ap (λ (cs : HeldView (List LookUrl)). map look_of cs.waiting) puts.is ∙ map-append look_of own.connections.waiting (record { heard = puts.heard; wait = urls } ∷ [])
              ∙ ap (λ (x : HeldLook). map look_of own.connections.waiting ++ x ∷ []) same ∙ ap (λ (xs : List HeldLook). xs ++ one ∷ []) so.are.waiting ∙ append_assoc state.unsettled state.waiting (one ∷ [])
              ∙ ap (λ (xs : List HeldLook). state.unsettled ++ xs) (sym behind);
          left = so.are.left;
          hand = subst (λ (cs : HeldView (List LookUrl)). IsHandOf cs.hand None) (sym puts.is) tt;
          looks = subst (λ (xs : List HeldLook). AreLooksOf start.desk state.desk (open_of xs) (own.looks ++ looks)) (sym behind)
              (subst (λ (hits : List (List Hit)). AreLooksOf start.desk state.desk hits (own.looks ++ looks)) (sym (open_of_append state.waiting (one ∷ []) ∙ ap (λ (hits : List (List Hit)). open_of state.waiting ++ hits) (append-nil (open_hits urls))))
              (looks_together start.desk state.desk (open_of state.waiting) (open_hits urls) own.looks looks so.are.looks decides.are));
          askable = subst (λ (xs : List HeldLook). All (λ (x : HeldLook). All IsAskableUrl x.urls) (state.unsettled ++ xs)) (sym behind)
              (subst (λ (xs : List HeldLook). All (λ (x : HeldLook). All IsAskableUrl x.urls) xs) (append_assoc state.unsettled state.waiting (one ∷ []))
              (All-append (λ (x : HeldLook). All IsAskableUrl x.urls) (state.unsettled ++ state.waiting) (one ∷ []) so.are.askable
              (All-cons (λ (x : HeldLook). All IsAskableUrl x.urls) one [] decides.askable (All-nil (λ (x : HeldLook). All IsAskableUrl x.urls)))));
          past = so.are.past;
          waited = counted ∙ ap (λ (n : ℕ). if fresh then counted_up n else n) so.are.waited ∙ sym (waited_is fresh hand state.waited decides.fresh_is) ∙ ap (waited_with state.waited) (sym decides.is);
          finds = so.are.finds;
          stop = so.are.stop;
        };
        desk = so.desk;
        connections = connections;
        printed = so.printed;
        faults = so.faults;
        same_finds = so.same_finds;
      }

  -- ---- why it waits, or does not

  asking_open : (opened : Option OpenDeskFind) (asked : ℕ) (looks : List Looks) (find : Option StartedAsking) → IsAskingOf opened asked looks find → is_some opened ≡ true → is_some find ≡ true
  asking_open None asked looks find is some = cc
  asking_open (Some session) asked looks find is some = ap (λ (f : Option StartedAsking). is_some f) is.0

  asking_closed : (opened : Option OpenDeskFind) (asked : ℕ) (looks : List Looks) (find : Option StartedAsking) → IsAskingOf opened asked looks find → opened ≡ None → find ≡ None
  asking_closed None asked looks find is none = is
  asking_closed (Some session) asked looks find is none = cc

  pub find_is_open : is_some own.desk.opened ≡ true → is_some state.find_open ≡ true
  find_is_open = asking_open own.desk.opened own.asked own.looks state.find_open so.are.find

  pub find_is_closed : own.desk.opened ≡ None → state.find_open ≡ None
  find_is_closed = asking_closed own.desk.opened own.asked own.looks state.find_open so.are.find

  no_looks_none : (hits : List (List Hit)) (looks : List Looks) → AreLooksOf start.desk state.desk hits looks → looks ≢ [] → hits ≢ []
  no_looks_none [] [] are some e = some refl
  no_looks_none [] (look ∷ looks) are some e = are
  no_looks_none (hit ∷ hits) looks are some e = cc

  none_open : (hits : List (List Hit)) (looks : List Looks) → AreLooksOf start.desk state.desk hits looks → looks ≡ [] → hits ≡ []
  none_open [] looks are none = refl
  none_open (hit ∷ hits) [] are none = absurd are
  none_open (hit ∷ hits) (look ∷ looks) are none = cc

  pub may_wait_on : (lists : List Held) (now : Moment) (ending : Bool) (hand : HandLook) (fresh : Bool) (urls : List LookUrl) (looks : List Looks) → IsToDecide start state hand fresh urls looks
      → LooksMayWait plan own now urls looks → MayWaitOn (look_at plan start.desk lists now ending) state
  may_wait_on lists now ending hand fresh urls looks decides waits = record {
    hand = hand;
    is = decides.is;
    urls = urls;
    known = decides.known;
    kept = decides.kept;
    opened = no_looks_none (open_hits urls) looks decides.are waits.opened;
    without_fault = waits.without_fault;
    room = subst (λ (n : ℕ). n < waiting_limit) waiting_count waits.room;
    comes = comes_of waits.comes;
  }
    where
      comes_of : ((is_some own.desk.opened ≡ true) ⊎ (own.desk.waits.allowed_at.0 ≤ min (now.0 + plan.patience) (2 ^ 64 - 1))) → MayFindCome (look_at plan start.desk lists now ending) state
      comes_of (inl is) = inl (find_is_open is)
      comes_of (inr soon) = inr (subst (λ (w : WaitState). w.allowed_at.0 ≤ min (now.0 + plan.patience) (2 ^ 64 - 1)) so.desk.waits_are soon)

  pub may_not_wait : (lists : List Held) (now : Moment) (ending : Bool) (hand : HandLook) (fresh : Bool) (urls : List LookUrl) (looks : List Looks) → IsToDecide start state hand fresh urls looks
      → LooksMayNotWait plan own now urls looks → MayNotWait (look_at plan start.desk lists now ending) state hand urls
  may_not_wait lists now ending hand fresh urls looks decides (inl none) = inl (none_open (open_hits urls) looks decides.are none)
  may_not_wait lists now ending hand fresh urls looks decides (inr (inl fault)) = inr (inl fault)
  may_not_wait lists now ending hand fresh urls looks decides (inr (inr (inl full))) = inr (inr (inl (sym waiting_count ∙ full)))
  may_not_wait lists now ending hand fresh urls looks decides (inr (inr (inr late))) =
      inr (inr (inr (inl (find_is_closed late.0, subst (λ (w : WaitState). min (now.0 + plan.patience) (2 ^ 64 - 1) < w.allowed_at.0) so.desk.waits_are late.1))))

  -- ---- what was done with it

  hand_said : (at : LookAt) (hand : HandLook) (urls : List LookUrl) (one : ServedConnection ProxyServed) → hand.urls ≡ Some urls → IsAnsweredBy at state hand (Some urls) one → IsAnsweredBy at state hand hand.urls one
  hand_said at hand urls one known by = subst (λ (us : Option (List LookUrl)). IsAnsweredBy at state hand us one) (sym known) by

  pub refused_goes : (lists : List Held) (now : Moment) (ending : Bool) (hand : HandLook) (fresh : Bool) (urls : List LookUrl) (looks : List Looks) (own' : LookOwn) (seen' : LookOutside)
      → IsToDecide start state hand fresh urls looks → GivesLook plan start state hand (IsRefusedLook hand) own' seen'
      → LooksGoTo (look_at plan start.desk lists now ending) start state (HasSettledHand state) own' seen'
  refused_goes lists now ending hand fresh urls looks own' seen' decides gives = record {
    events = Answered gives.one gives.part ∷ [];
    kinds = All-cons IsSettlingLook (Answered gives.one gives.part) ([]) tt (All-nil IsSettlingLook);
    may = (
      record {
        hand = hand;
        is = decides.is;
        number = gives.number;
        by = hand_said (look_at plan start.desk lists now ending) hand urls gives.one decides.known (inl gives.says);
        told = gives.told;
      },
      tt,
    );
    so = gives.so;
    ends = record { none_in_hand = refl; unsettled = refl; by = refl; find = refl };
  }

  by_fate : {E : Type 0} (at : LookAt) (hand : HandLook) (urls : List LookUrl) (fate : Result LookFate E) (one : ServedConnection ProxyServed) → HasFateOrRefused hand fate one
      → IfOk fate (IsFateOf at.desk state.desk urls) → MayNotWait at state hand urls → IsAnsweredBy at state hand (Some urls) one
  by_fate at hand urls (Ok fate) one says is because = inr (subst (λ (f : LookFate). IsFateOf at.desk state.desk urls f) (sym says) is, because)
  by_fate at hand urls (Err why) one says is because = inl says

  pub answered_goes : {E : Type 0} (lists : List Held) (now : Moment) (ending : Bool) (hand : HandLook) (fresh : Bool) (urls : List LookUrl) (looks : List Looks) (fate : Result LookFate E) (own' : LookOwn) (seen' : LookOutside)
      → IsToDecide start state hand fresh urls looks → IfOk fate (IsFateOf start.desk state.desk urls)
      → MayNotWait (look_at plan start.desk lists now ending) state hand urls → GivesLook plan start state hand (HasFateOrRefused hand fate) own' seen'
      → LooksGoTo (look_at plan start.desk lists now ending) start state (HasSettledHand state) own' seen'
  answered_goes lists now ending hand fresh urls looks fate own' seen' decides is because gives = record {
    events = Answered gives.one gives.part ∷ [];
    kinds = All-cons IsSettlingLook (Answered gives.one gives.part) ([]) tt (All-nil IsSettlingLook);
    may = (
      record {
        hand = hand;
        is = decides.is;
        number = gives.number;
        by = hand_said (look_at plan start.desk lists now ending) hand urls gives.one decides.known
            (by_fate (look_at plan start.desk lists now ending) hand urls fate gives.one gives.says is because);
        told = gives.told;
      },
      tt,
    );
    so = gives.so;
    ends = record { none_in_hand = refl; unsettled = refl; by = refl; find = refl };
  }
