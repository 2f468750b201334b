-- A look-up that is taken, and whose URLs are looked up.
use Rattle.std.proofs.Common.{◌≡◌, ℕ, Bool, true, false, List, [], ◌∷◌, ◌++◌, Option, Some, None, Result, inl, inr, refl, sym, ap, ◌∙◌, subst, length}
use Rattle.std.proofs.lemmas.List.Elements.{All-cons, All-nil}
use Rattle.std.specs.Prelude.{All, IfSome, is_some, map, option_map}
use Rattle.find_desk.specs.Desk.{DeskSeen, HasKeptDesk}
use Rattle.find_desk.specs.Events.{DeskEvent, MadeFind}
use Rattle.find_desk.specs.declared.desk.OpenDeskFind.{OpenDeskFind}
use Rattle.held_connections.specs.Held.{HeardView, HeldView, HoldsConnections, WireView}
use Rattle.held_connections.specs.Over.{DoorView, ServedConnection}
use Rattle.held_connections.specs.Steps.{HandsOutWire, TakesInHand}
use Rattle.http_edge.specs.declared.faults.RequestFault.{RequestFault}
use Rattle.http_edge.specs.declared.messages.HttpRequest.{HttpRequest}
use Rattle.lookup_messages.specs.Messages.{AskedUrls}
use Rattle.proxy_looks.specs.Settled.{AreUrlsSettled, GoesOnLooking, DeskAt, SettledKeepLooks, SettlesAll, desk_at, looks_at}
use Rattle.proxy_looks.specs.Urls.{IsAskableUrl, lists_are_ready, open_hits, urls_asked}
use Rattle.proxy_looks.specs.declared.settling.Settled.{Settled}
use Rattle.proxy_looks.specs.declared.urls.LookUrl.{LookUrl}
use Rattle.proxy_run.specs.LookAllowed.{HasNoLookLeft, IsAnsweredBy, IsNotLookedUp, IsRefusedLook, MayLookEventCome, look_at}
use Rattle.proxy_run.specs.LookEvents.{after_look_event}
use Rattle.proxy_run.specs.LookEvents.LookEvent.{Answered, LookedUp, Taken}
use Rattle.proxy_run.specs.LookSoFar.{HoldLooksSo, IsAskingOf, IsHandOf, LookOutside, LookOwn, LookStart, ProxyRight, look_of, past_looks}
use Rattle.proxy_run.specs.LookState.{HandLook, LookState, open_of}
use Rattle.proxy_run.specs.LookSteps.{IsSettlingLook, GivesLook, HasFate, HasSettledHand, IsToDecide, IsToLookUp, LooksGoTo}
use Rattle.proxy_run.specs.declared.plan.ProxyPlan.{ProxyPlan}
use Rattle.proxy_run.proofs.LookFacts.{looks_count, looks_stay_more}
use Rattle.proxy_run.proofs.LookStepping.{goes_ends, goes_then, hand_known, past_stays}
use Rattle.proxy_serving.specs.HeardLook.{IsHeardLook}
use Rattle.proxy_serving.specs.Response.{ProxyServed}
use Rattle.proxy_serving.specs.declared.fate.LookFate.TheVariants.{Unanswered}
use Rattle.sb_model.specs.declared.time.Moment.{Moment}
use Rattle.update_client.specs.Held.{Held}
use Rattle.url_checker.specs.declared.looking.Looks.{Looks}

-- the connection in hand, with its URLs
abbrev pub hand_with : HandLook → Option (List LookUrl) → HandLook
hand_with hand urls = record hand { urls = urls }

-- how many looks there are of URLs that are settled
pub settled_count : SettledKeepLooks → (at : DeskAt) (by : Option MadeFind) (asked : List Looks) (urls : List LookUrl) (settled : Settled) (desk : DeskSeen)
    → SettlesAll at by asked urls settled desk → length settled.looks ≡ length (open_hits settled.urls)
settled_count keep at by asked urls settled desk settles =
    looks_count at.start (at.events ++ settles.goes.more) (open_hits settled.urls) settled.looks
    (keep at.start (at.events ++ settles.goes.more) by asked urls settled.urls settled.looks settles.are)

module _ (plan : ProxyPlan) (start : LookStart) (state : LookState) (own : LookOwn) (seen : LookOutside) (so : HoldLooksSo plan start state own seen) where
  -- ---- more looks

  pub looked_goes : (urls : Option (List LookUrl)) (more : List DeskEvent) (desk : DeskSeen) → desk.opened ≡ own.desk.opened
      → HasKeptDesk plan.updates.target plan.updates.need_digest start.desk (state.desk ++ more) desk seen.finds
      → HoldLooksSo plan start (after_look_event state (LookedUp urls more)) (record own { desk = desk }) seen
  looked_goes urls more desk opened has = record {
    are = record {
      find = subst (λ (o : Option OpenDeskFind). IsAskingOf o own.asked own.looks state.find_open) (sym opened) so.are.find;
      waiting = so.are.waiting;
      left = so.are.left;
      hand = hand_known own.connections.hand state.hand urls so.are.hand;
      looks = looks_stay_more start.desk state.desk more (open_of state.waiting) own.looks so.are.looks;
      askable = so.are.askable;
      past = past_stays start.desk state.desk more state.unsettled state.asked (past_looks own) state.by so.are.past;
      waited = so.are.waited;
      finds = so.are.finds;
      stop = so.are.stop;
    };
    desk = has;
    connections = so.connections;
    printed = so.printed;
    faults = so.faults;
    same_finds = so.same_finds;
  }

  pub hand_now : (hand : HandLook) (urls : Option (List LookUrl)) → state.hand ≡ Some hand → option_map (λ (h : HandLook). record h { urls = urls }) state.hand ≡ Some (hand_with hand urls)
  hand_now hand urls is = ap (option_map (λ (h : HandLook). record h { urls = urls })) is

  pub to_decide : SettledKeepLooks → (now : Moment) (hand : HandLook) (urls : List LookUrl) (settled : Settled) (desk : DeskSeen) → IsToLookUp state hand
      → (settles : SettlesAll (desk_at plan.updates.target plan.updates.need_digest start.desk state.desk now seen.finds) None [] urls settled desk) → All IsAskableUrl settled.urls
      → IsToDecide start (after_look_event state (LookedUp (Some settled.urls) settles.goes.more)) (hand_with hand (Some settled.urls)) true settled.urls settled.looks
  to_decide keep now hand urls settled desk looks settles askable = record {
    is = hand_now hand (Some settled.urls) looks.is;
    known = refl;
    kept = looks.kept;
    fresh_is = looks.fresh;
    are = keep start.desk (state.desk ++ settles.goes.more) None [] urls settled.urls settled.looks settles.are;
    askable = askable;
  }

  left_over : (hand : HandLook) (urls : Option (List LookUrl)) (more : List DeskEvent) → IsToLookUp state hand → (s : LookState) → HasSettledHand (after_look_event state (LookedUp urls more)) s → HasNoLookLeft s
  left_over hand urls more looks s settled = record { none_in_hand = settled.none_in_hand; none_unsettled = settled.unsettled ∙ looks.unsettled }

  -- its URLs were looked up, and it was answered or put off
  pub looked_up_goes : (lists : List Held) (now : Moment) (ending : Bool) (hand : HandLook) (message : AskedUrls) (urls : List LookUrl) (settled : Settled) (desk : DeskSeen) (own' : LookOwn) (seen' : LookOutside)
      → IsToLookUp state hand → IsHeardLook hand.received message → lists_are_ready lists message ≡ true → urls ≡ urls_asked lists message
      → (settles : SettlesAll (desk_at plan.updates.target plan.updates.need_digest start.desk state.desk now seen.finds) None [] urls settled desk)
      → LooksGoTo (look_at plan start.desk lists now ending) start (after_look_event state (LookedUp (Some settled.urls) settles.goes.more))
      (HasSettledHand (after_look_event state (LookedUp (Some settled.urls) settles.goes.more))) own' seen'
      → LooksGoTo (look_at plan start.desk lists now ending) start state HasNoLookLeft own' seen'
  looked_up_goes lists now ending hand message urls settled desk own' seen' looks heard ready are settles goes =
      goes_then (look_at plan start.desk lists now ending) start state HasNoLookLeft own' seen' (LookedUp (Some settled.urls) settles.goes.more ∷ []) (All-cons IsSettlingLook (LookedUp (Some settled.urls) settles.goes.more) ([]) tt (All-nil IsSettlingLook)) (
        record {
          hand = hand;
          is = looks.is;
          fresh = looks.fresh;
          message = message;
          heard = heard;
          ready = ready;
          looks = settled.looks;
          settled = subst (λ (us : List LookUrl). AreUrlsSettled start.desk (state.desk ++ settles.goes.more) None [] us settled.urls settled.looks) are settles.are;
          only = settles.looked ∙ ap (λ (us : List LookUrl). looks_at now (open_hits us)) are;
        },
        tt,
      )
      (goes_ends (look_at plan start.desk lists now ending) start (after_look_event state (LookedUp (Some settled.urls) settles.goes.more))
      (HasSettledHand (after_look_event state (LookedUp (Some settled.urls) settles.goes.more))) HasNoLookLeft own' seen'
      (left_over hand (Some settled.urls) settles.goes.more looks) goes)

  -- memory was refused while they were looked up
  pub look_stopped_goes : (lists : List Held) (now : Moment) (ending : Bool) (hand : HandLook) (desk : DeskSeen) (own' : LookOwn) (seen' : LookOutside) → IsToLookUp state hand
      → (goes : GoesOnLooking (desk_at plan.updates.target plan.updates.need_digest start.desk state.desk now seen.finds) desk)
      → GivesLook plan start (after_look_event state (LookedUp None goes.more)) (hand_with hand None) (IsRefusedLook (hand_with hand None)) own' seen'
      → LooksGoTo (look_at plan start.desk lists now ending) start state HasNoLookLeft own' seen'
  look_stopped_goes lists now ending hand desk own' seen' looks goes gives = record {
    events = Answered gives.one gives.part ∷ LookedUp None goes.more ∷ [];
    kinds = All-cons IsSettlingLook (Answered gives.one gives.part) (LookedUp None goes.more ∷ []) tt (All-cons IsSettlingLook (LookedUp None goes.more) ([]) tt (All-nil IsSettlingLook));
    may = (
      record { hand = hand_with hand None; is = hand_now hand None looks.is; number = gives.number; by = inl gives.says; told = gives.told },
      (record { hand = hand; is = looks.is; unknown = looks.unknown; only = goes.only }, tt),
    );
    so = gives.so;
    ends = record { none_in_hand = refl; none_unsettled = looks.unsettled };
  }

  -- nothing was looked up
  by_unknown : (lists : List Held) (now : Moment) (ending : Bool) (hand : HandLook) (one : ServedConnection ProxyServed) → hand.urls ≡ None
      → IsAnsweredBy (look_at plan start.desk lists now ending) state hand None one → IsAnsweredBy (look_at plan start.desk lists now ending) state hand hand.urls one
  by_unknown lists now ending hand one unknown by = subst (λ (us : Option (List LookUrl)). IsAnsweredBy (look_at plan start.desk lists now ending) state hand us one) (sym unknown) by

  pub refused_unknown : (lists : List Held) (now : Moment) (ending : Bool) (hand : HandLook) (own' : LookOwn) (seen' : LookOutside) → IsToLookUp state hand
      → GivesLook plan start state hand (IsRefusedLook hand) own' seen' → LooksGoTo (look_at plan start.desk lists now ending) start state HasNoLookLeft own' seen'
  refused_unknown lists now ending hand own' seen' looks gives = record {
    events = Answered gives.one gives.part ∷ [];
    kinds = All-cons IsSettlingLook (Answered gives.one gives.part) ([]) tt (All-nil IsSettlingLook);
    may = (record { hand = hand; is = looks.is; number = gives.number; by = by_unknown lists now ending hand gives.one looks.unknown (inl gives.says); told = gives.told }, tt);
    so = gives.so;
    ends = record { none_in_hand = refl; none_unsettled = looks.unsettled };
  }

  pub answered_unknown : (lists : List Held) (now : Moment) (ending : Bool) (hand : HandLook) (own' : LookOwn) (seen' : LookOutside) → IsToLookUp state hand
      → IsNotLookedUp (look_at plan start.desk lists now ending) hand → GivesLook plan start state hand (HasFate Unanswered) own' seen'
      → LooksGoTo (look_at plan start.desk lists now ending) start state HasNoLookLeft own' seen'
  answered_unknown lists now ending hand own' seen' looks because gives = record {
    events = Answered gives.one gives.part ∷ [];
    kinds = All-cons IsSettlingLook (Answered gives.one gives.part) ([]) tt (All-nil IsSettlingLook);
    may = (record { hand = hand; is = looks.is; number = gives.number; by = by_unknown lists now ending hand gives.one looks.unknown (inr (gives.says, looks.fresh, because)); told = gives.told }, tt);
    so = gives.so;
    ends = record { none_in_hand = refl; none_unsettled = looks.unsettled };
  }

-- what was heard of the connection in hand
pub hand_says : (P : Result HttpRequest RequestFault → Type 0) (heard : Option HeardView) (hand : Option HandLook) (one : HandLook) → IsHandOf heard hand → hand ≡ Some one → is_some heard ≡ true
    → IfSome heard (λ heard. P heard.received) → P one.received
hand_says P (Some heard) (Some hand) one are is some says = subst P (sym (ap (λ (h : HandLook). h.received) (sym (same_of is)) ∙ are.1)) says
  where
    same_of : {A : Type 0} {a b : A} → Some a ≡ Some b → a ≡ b
    same_of e = cc
hand_says P (Some heard) None one are is some says = absurd are
hand_says P None (Some hand) one are is some says = absurd are
hand_says P None None one are is some says = cc

-- ---- one that is taken

module _ (plan : ProxyPlan) (start : LookStart) (state : LookState) (own : LookOwn) (seen : LookOutside) (before : DoorView) (so : HoldLooksSo plan start state own (record seen { door = before })) where
  pub taken_goes : (pieces : List (List ℕ)) (wire : WireView) (conns : HeldView (List LookUrl)) → HasNoLookLeft state → (takes : TakesInHand wire.left own.connections conns)
      → HoldsConnections ProxyRight start.outside.door (state.taken ++ pieces ∷ []) state.over conns seen.door
      → HoldLooksSo plan start (after_look_event state (Taken pieces takes.heard.received)) (record own { connections = conns }) seen
  taken_goes pieces wire conns left takes connections = record {
    are = record {
      find = so.are.find;
      waiting = ap (λ (cs : HeldView (List LookUrl)). map look_of cs.waiting) takes.is ∙ so.are.waiting;
      left = so.are.left;
      hand = subst (λ (cs : HeldView (List LookUrl)). IsHandOf cs.hand (Some (record { number = length state.taken; received = takes.heard.received; urls = None; fresh = true; released = false }))) (sym takes.is)
          (sym so.connections.count ∙ sym takes.numbered, refl);
      looks = so.are.looks;
      askable = so.are.askable;
      past = so.are.past;
      waited = so.are.waited;
      finds = so.are.finds;
      stop = so.are.stop;
    };
    desk = so.desk;
    connections = connections;
    printed = so.printed;
    faults = so.faults;
    same_finds = so.same_finds;
  }

  pub taken_may : (lists : List Held) (now : Moment) (ending : Bool) (pieces : List (List ℕ)) (wire : WireView) (conns : HeldView (List LookUrl)) → HasNoLookLeft state
      → (takes : TakesInHand wire.left own.connections conns) → HandsOutWire pieces before seen.door wire → MayLookEventCome (look_at plan start.desk lists now ending) state (Taken pieces takes.heard.received)
  taken_may lists now ending pieces wire conns left takes hands = (left, (wire.left, takes.heard.wire.left, hands.fresh.remains, takes.hears))

-- nothing is known yet of one that was taken
abbrev pub hand_taken : LookState → Result HttpRequest RequestFault → HandLook
hand_taken state received = record { number = length state.taken; received = received; urls = None; fresh = true; released = false }

pub taken_looks : (state : LookState) (pieces : List (List ℕ)) (received : Result HttpRequest RequestFault) → HasNoLookLeft state → IsToLookUp (after_look_event state (Taken pieces received)) (hand_taken state received)
taken_looks state pieces received left = record { is = refl; fresh = refl; kept = refl; unknown = refl; unsettled = left.none_unsettled }
