-- Those who are answered by what is known, and those for whom memory was refused.
use Rattle.std.proofs.Common.{◌≡◌, ◌≢◌, ◌≤◌, ◌+◌, ◌-◌, ℕ, Bool, List, [], ◌∷◌, ◌++◌, Option, Some, None, Result, Ok, Err, inl, inr, refl, sym, ap, ◌∙◌, subst, drop, take, length, arith}
use Rattle.std.specs.Prelude.{All, IfOk, map}
use Rattle.std.proofs.lemmas.List.{append-nil, length-map}
use Rattle.std.proofs.lemmas.List.Elements.{All-cons, All-nil}
use Rattle.find_desk.specs.Desk.{HasKeptDesk}
use Rattle.find_desk.specs.Events.{DeskEvent}
use Rattle.find_desk.specs.declared.desk.EndedFind.{EndedFind}
use Rattle.find_desk.specs.declared.desk.OpenDeskFind.{OpenDeskFind}
use Rattle.held_connections.specs.Held.{HeldView, HoldsConnections}
use Rattle.held_connections.specs.Over.{ServedConnection}
use Rattle.held_connections.specs.Steps.{TakesFirstInHand}
use Rattle.proxy_looks.specs.Fates.{IsFateOf}
use Rattle.proxy_looks.specs.Settled.{AreLooksOf, IsOnlyLook}
use Rattle.proxy_looks.specs.Urls.{IsAskableUrl, open_hits}
use Rattle.proxy_looks.specs.declared.urls.LookUrl.{LookUrl}
use Rattle.proxy_run.specs.LookAllowed.{HasNoLookLeft, IsAnsweredBy, IsRefusedLook, LookAt, look_at}
use Rattle.proxy_run.specs.LookEvents.{after_look_event}
use Rattle.proxy_run.specs.LookEvents.LookEvent.{Answered, ReleasedFirst, SettledFirst}
use Rattle.proxy_run.specs.LookSoFar.{HoldLooksSo, IsAskingOf, IsPastOf, LookOutside, LookOwn, LookStart, ProxyRight, look_of, past_looks}
use Rattle.proxy_run.specs.LookState.{GoesBy, HandLook, HeldLook, LookState, StartedAsking, open_of}
use Rattle.proxy_run.specs.LookState.GoesBy.{ByKept, ByNothing}
use Rattle.proxy_run.specs.LookSteps.{IsSettlingLook, GivesLook, HasFateOrRefused, IsRefusingFrom, IsReleasedFrom, LooksGoTo}
use Rattle.proxy_run.specs.declared.plan.ProxyPlan.{ProxyPlan}
use Rattle.proxy_run.proofs.LookFacts.{drop_sum, looks_behind, looks_in_front}
use Rattle.proxy_run.proofs.LookSettling.{first_count, first_goes, hand_first, hand_free, next_is, released_state, settled_hand, settled_state, urls_are}
use Rattle.proxy_run.proofs.LookStepping.{nobody_past, past_by_kept, past_by_nothing}
use Rattle.proxy_serving.specs.Response.{ProxyServed}
use Rattle.proxy_serving.specs.declared.fate.LookFate.{LookFate}
use Rattle.sb_model.specs.declared.time.Moment.{Moment}
use Rattle.update_client.specs.Held.{Held}
use Rattle.url_checker.specs.declared.looking.Looks.{Looks}

-- ---- nobody is left

none_long : {A : Type 0} (xs : List A) (n : ℕ) → n ≡ length xs → n ≤ 0 → xs ≡ []
none_long [] n is none = refl
none_long (x ∷ xs) n is none = let no : ⊥ = omega (arith, is, none) in absurd no

nothing_mapped : {A B : Type 0} (f : A → B) (xs : List A) → map f xs ≡ [] → xs ≡ []
nothing_mapped f [] is = refl
nothing_mapped f (x ∷ xs) is = cc

pub asking_none : (opened : Option OpenDeskFind) (asked : ℕ) (looks : List Looks) → IsAskingOf opened asked looks None → opened ≡ None
asking_none None asked looks is = refl
asking_none (Some session) asked looks is = let no = is.0 in cc

pub none_asking : (opened : Option OpenDeskFind) (asked : ℕ) (looks : List Looks) (find : Option StartedAsking) → IsAskingOf opened asked looks find → opened ≡ None → find ≡ None
none_asking None asked looks find is closed = is
none_asking (Some session) asked looks find is closed = cc

module _ (plan : ProxyPlan) (start : LookStart) (state : LookState) (own : LookOwn) (seen : LookOutside) (so : HoldLooksSo plan start state own seen) where
  pub none_unsettled_now : own.left ≤ 0 → state.unsettled ≡ []
  none_unsettled_now none = none_long state.unsettled own.left so.are.left none

  pub none_waits : state.unsettled ≡ [] → state.waiting ≡ [] → own.connections.waiting ≡ []
  none_waits settled none = nothing_mapped look_of own.connections.waiting (so.are.waiting ∙ ap (λ (all : List HeldLook). all ++ state.waiting) settled ∙ none)

  -- what is left of those who were settled is dropped
  pub cleared_goes : (ended : Option EndedFind) → state.unsettled ≡ [] → HoldLooksSo plan start state (record own { past = []; ended = ended }) seen
  cleared_goes ended none = record {
    are = record {
      find = so.are.find;
      waiting = so.are.waiting;
      left = so.are.left;
      hand = so.are.hand;
      looks = so.are.looks;
      askable = so.are.askable;
      past = nobody_past start.desk state.desk state.unsettled state.asked (past_looks (record own { past = []; ended = ended })) state.by none;
      waited = so.are.waited;
      finds = so.are.finds;
      stop = so.are.stop;
    };
    desk = so.desk;
    connections = so.connections;
    printed = so.printed;
    faults = so.faults;
    same_finds = so.same_finds;
  }

  -- ---- all who wait are to be settled

  past_of_all : (by : GoesBy) → by ≡ ByKept → IsPastOf start.desk state.desk state.waiting 0 (past_looks (record own { looks = []; past = own.looks; place = 0; left = length own.connections.waiting })) by
  past_of_all by is =
      subst (λ (b : GoesBy). IsPastOf start.desk state.desk state.waiting 0 (past_looks (record own { looks = []; past = own.looks; place = 0; left = length own.connections.waiting })) b) (sym is)
      (past_by_kept start.desk state.desk state.waiting 0 (past_looks (record own { looks = []; past = own.looks; place = 0; left = length own.connections.waiting })) so.are.looks (omega (arith)))

  pub turned_goes : (by : GoesBy) → HasNoLookLeft state → own.desk.opened ≡ None → state.find_open ≡ None
      → IsPastOf start.desk state.desk state.waiting 0 (past_looks (record own { looks = []; past = own.looks; place = 0; left = length own.connections.waiting })) by
      → HoldLooksSo plan start (record state { unsettled = state.waiting; by = by; asked = 0; waiting = [] })
      (record own { looks = []; past = own.looks; place = 0; left = length own.connections.waiting }) seen
  turned_goes by left closed none past =
      let waits = so.are.waiting ∙ ap (λ (all : List HeldLook). all ++ state.waiting) left.none_unsettled in
      record {
        are = record {
          find = subst (λ (o : Option OpenDeskFind). IsAskingOf o own.asked [] state.find_open) (sym closed) none;
          waiting = waits ∙ sym (append-nil state.waiting);
          left = sym (length-map own.connections.waiting look_of) ∙ ap (λ (all : List HeldLook). length all) waits;
          hand = so.are.hand;
          looks = tt;
          askable = subst (λ (all : List HeldLook). All (λ (one : HeldLook). All IsAskableUrl one.urls) all) (sym (append-nil state.waiting))
              (subst (λ (all : List HeldLook). All (λ (one : HeldLook). All IsAskableUrl one.urls) (all ++ state.waiting)) left.none_unsettled so.are.askable);
          past = past;
          waited = so.are.waited;
          finds = so.are.finds;
          stop = so.are.stop;
        };
        desk = so.desk;
        connections = so.connections;
        printed = so.printed;
        faults = so.faults;
        same_finds = so.same_finds;
      }

  pub turned_by_kept : HasNoLookLeft state → own.desk.opened ≡ None → state.find_open ≡ None
      → HoldLooksSo plan start (record state { unsettled = state.waiting; by = ByKept; asked = 0; waiting = [] })
      (record own { looks = []; past = own.looks; place = 0; left = length own.connections.waiting }) seen
  turned_by_kept left closed none = turned_goes ByKept left closed none (past_of_all ByKept refl)

  pub turned_by_nothing : HasNoLookLeft state → own.desk.opened ≡ None → state.find_open ≡ None
      → HoldLooksSo plan start (record state { unsettled = state.waiting; by = ByNothing; asked = 0; waiting = [] })
      (record own { looks = []; past = own.looks; place = 0; left = length own.connections.waiting }) seen
  turned_by_nothing left closed none =
      turned_goes ByNothing left closed none (past_by_nothing start.desk state.desk state.waiting 0 (past_looks (record own { looks = []; past = own.looks; place = 0; left = length own.connections.waiting })))

-- ---- the first of them

module _ (plan : ProxyPlan) (start : LookStart) (state : LookState) (own : LookOwn) (seen : LookOutside) (so : HoldLooksSo plan start state own seen)
    (first : HeldLook) (rest : List HeldLook) (is : state.unsettled ≡ first ∷ rest) (conns : HeldView (List LookUrl)) (urls : List LookUrl) (takes : TakesFirstInHand urls own.connections conns)
  where
    same_urls : urls ≡ first.urls
    same_urls = urls_are plan start state own seen so first rest is conns urls takes

    kept_past : state.by ≡ ByKept → AreLooksOf start.desk state.desk (open_of (first ∷ rest)) (drop own.place own.past) × (own.place ≤ length own.past)
    kept_past by =
        subst (λ (b : GoesBy). IsPastOf start.desk state.desk (first ∷ rest) state.asked (past_looks own) b) by
        (subst (λ (all : List HeldLook). IsPastOf start.desk state.desk all state.asked (past_looks own) state.by) is so.are.past)

    pub kept_within : state.by ≡ ByKept → own.place + length (open_hits urls) ≤ length own.past
    kept_within by =
        let was = kept_past by in
        subst (λ (us : List LookUrl). own.place + length (open_hits us) ≤ length own.past) (sym same_urls) (first_count plan start state.desk first rest (past_looks own) was.0 was.1)

    pub kept_looks : state.by ≡ ByKept → AreLooksOf start.desk state.desk (open_hits urls) (take (length (open_hits urls)) (drop own.place own.past))
    kept_looks by =
        subst (λ (us : List LookUrl). AreLooksOf start.desk state.desk (open_hits us) (take (length (open_hits us)) (drop own.place own.past))) (sym same_urls)
        (looks_in_front start.desk state.desk (open_hits first.urls) (open_of rest) (drop own.place own.past) (kept_past by).0)

    kept_behind : (events : List DeskEvent) → events ≡ state.desk → state.by ≡ ByKept → IsPastOf start.desk events rest state.asked (past_looks (record own { place = own.place + length (open_hits urls) })) state.by
    kept_behind events same by =
        let n : length (open_hits urls) ≡ length (open_hits first.urls) = ap (λ (us : List LookUrl). length (open_hits us)) same_urls in
        subst (λ (b : GoesBy). IsPastOf start.desk events rest state.asked (past_looks (record own { place = own.place + length (open_hits urls) })) b) (sym by)
        (past_by_kept start.desk events rest state.asked (past_looks (record own { place = own.place + length (open_hits urls) }))
        (subst (λ (es : List DeskEvent). AreLooksOf start.desk es (open_of rest) (drop (own.place + length (open_hits urls)) own.past)) (sym same)
        (subst (λ (ls : List Looks). AreLooksOf start.desk state.desk (open_of rest) ls) (drop_sum (length (open_hits first.urls)) own.place own.past ∙ ap (λ (k : ℕ). drop (own.place + k) own.past) (sym n))
        (looks_behind start.desk state.desk (open_hits first.urls) (open_of rest) (drop own.place own.past) (kept_past by).0)))
        (kept_within by))

    -- without further events at the desk
    first_goes_so : (hand : HandLook) (place' : ℕ) → hand.number ≡ first.number → hand.received ≡ first.received → (asked' : ℕ)
        → HoldsConnections ProxyRight start.outside.door state.taken state.over conns seen.door
        → ((events : List DeskEvent) → events ≡ state.desk → IsPastOf start.desk events rest asked' (past_looks (record own { place = place' })) state.by)
        → HoldLooksSo plan start (record state { unsettled = rest; asked = asked'; hand = Some hand }) (record own { connections = conns; left = own.left - 1; place = place' }) seen
    first_goes_so hand place' number received asked' connections past =
        subst (λ (events : List DeskEvent). HoldLooksSo plan start (record state { desk = events; unsettled = rest; asked = asked'; hand = Some hand }) (record own { connections = conns; left = own.left - 1; place = place' }) seen)
        (append-nil state.desk)
        (first_goes plan start state own seen so first rest is conns urls takes hand [] own.desk asked' place' number received refl
        (subst (λ (events : List DeskEvent). HasKeptDesk plan.updates.target plan.updates.need_digest start.desk events own.desk seen.finds) (sym (append-nil state.desk)) so.desk)
        connections (past (state.desk ++ []) (append-nil state.desk)))

    pub released_goes : state.by ≡ ByKept → HoldsConnections ProxyRight start.outside.door state.taken state.over conns seen.door
        → HoldLooksSo plan start (after_look_event state ReleasedFirst) (record own { connections = conns; left = own.left - 1; place = own.place + length (open_hits urls) }) seen
    released_goes by connections =
        subst (λ (s : LookState). HoldLooksSo plan start s (record own { connections = conns; left = own.left - 1; place = own.place + length (open_hits urls) }) seen)
        (sym (released_state plan start state own seen so first rest is conns urls takes))
        (first_goes_so (hand_free plan start state own seen so first rest is conns urls takes) (own.place + length (open_hits urls)) refl refl state.asked connections (λ events same. kept_behind events same by))

    pub released_hand : (after_look_event state ReleasedFirst).hand ≡ Some (hand_free plan start state own seen so first rest is conns urls takes)
    released_hand = ap (λ (s : LookState). s.hand) (released_state plan start state own seen so first rest is conns urls takes)

    released_said : {E : Type 0} (at : LookAt) (fate : Result LookFate E) (one : ServedConnection ProxyServed)
        → HasFateOrRefused (hand_free plan start state own seen so first rest is conns urls takes) fate one → IfOk fate (IsFateOf at.desk state.desk urls)
        → IsAnsweredBy at (after_look_event state ReleasedFirst) (hand_free plan start state own seen so first rest is conns urls takes) (Some first.urls) one
    released_said at (Ok fate) one says known =
        inr (subst (λ (us : List LookUrl). IsFateOf at.desk state.desk us one.server.fate) same_urls (subst (λ (f : LookFate). IsFateOf at.desk state.desk urls f) (sym says) known), inr (inr (inr (inr refl))))
    released_said at (Err why) one says known = inl says

    pub released_first_goes : {E : Type 0} (lists : List Held) (now : Moment) (ending : Bool) (fate : Result LookFate E) (own' : LookOwn) (seen' : LookOutside) → state.hand ≡ None → state.by ≡ ByKept
        → IfOk fate (IsFateOf start.desk state.desk urls)
        → GivesLook plan start (after_look_event state ReleasedFirst) (hand_free plan start state own seen so first rest is conns urls takes)
        (HasFateOrRefused (hand_free plan start state own seen so first rest is conns urls takes) fate) own' seen'
        → LooksGoTo (look_at plan start.desk lists now ending) start state (IsReleasedFrom state) own' seen'
    released_first_goes lists now ending fate own' seen' none by known gives = record {
      events = Answered gives.one gives.part ∷ ReleasedFirst ∷ [];
      kinds = All-cons IsSettlingLook (Answered gives.one gives.part) (ReleasedFirst ∷ []) tt (All-cons IsSettlingLook (ReleasedFirst) ([]) tt (All-nil IsSettlingLook));
      may = (
        record {
          hand = hand_free plan start state own seen so first rest is conns urls takes;
          is = released_hand;
          number = gives.number;
          by = released_said (look_at plan start.desk lists now ending) fate gives.one gives.says known;
          told = gives.told;
        },
        (record { first = first; next = next_is plan start state own seen so first rest is conns urls takes none; by = by }, tt),
      );
      so = gives.so;
      ends = record { releasing = record { none_in_hand = refl; by = by }; find = refl; waiting = refl };
    }

    -- ---- memory was refused

    nothing_behind : (asked' : ℕ) (events : List DeskEvent) → events ≡ state.desk → state.by ≡ ByNothing → IsPastOf start.desk events rest asked' (past_looks own) state.by
    nothing_behind asked' events same by =
        subst (λ (b : GoesBy). IsPastOf start.desk events rest asked' (past_looks own) b) (sym by) (past_by_nothing start.desk events rest asked' (past_looks own))

    pub refused_goes : state.by ≡ ByNothing → HoldsConnections ProxyRight start.outside.door state.taken state.over conns seen.door
        → HoldLooksSo plan start (after_look_event state (SettledFirst None [])) (record own { connections = conns; left = own.left - 1 }) seen
    refused_goes by connections =
        subst (λ (s : LookState). HoldLooksSo plan start s (record own { connections = conns; left = own.left - 1 }) seen)
        (sym (settled_state plan start state own seen so first rest is conns urls takes None []))
        (subst (λ (events : List DeskEvent). HoldLooksSo plan start (record state { desk = events; unsettled = rest; asked = state.asked - length (open_hits first.urls); hand = Some (hand_first plan start state own seen so first rest is conns urls takes None) })
        (record own { connections = conns; left = own.left - 1 }) seen) (sym (append-nil state.desk))
        (first_goes_so (hand_first plan start state own seen so first rest is conns urls takes None) own.place refl refl (state.asked - length (open_hits first.urls)) connections
        (λ events same. nothing_behind (state.asked - length (open_hits first.urls)) events same by)))

    by_nothing_not_kept : state.by ≡ ByNothing → state.by ≢ ByKept
    by_nothing_not_kept by e = cc

    pub refused_first_goes : (lists : List Held) (now : Moment) (ending : Bool) (own' : LookOwn) (seen' : LookOutside) → state.hand ≡ None → state.by ≡ ByNothing
        → GivesLook plan start (after_look_event state (SettledFirst None [])) (hand_first plan start state own seen so first rest is conns urls takes None)
        (IsRefusedLook (hand_first plan start state own seen so first rest is conns urls takes None)) own' seen'
        → LooksGoTo (look_at plan start.desk lists now ending) start state (IsRefusingFrom state) own' seen'
    refused_first_goes lists now ending own' seen' none by gives = record {
      events = Answered gives.one gives.part ∷ SettledFirst None [] ∷ [];
      kinds = All-cons IsSettlingLook (Answered gives.one gives.part) (SettledFirst None [] ∷ []) tt (All-cons IsSettlingLook (SettledFirst None []) ([]) tt (All-nil IsSettlingLook));
      may = (
        record {
          hand = hand_first plan start state own seen so first rest is conns urls takes None;
          is = settled_hand plan start state own seen so first rest is conns urls takes None [];
          number = gives.number;
          by = inl gives.says;
          told = gives.told;
        },
        (record { first = first; next = next_is plan start state own seen so first rest is conns urls takes none; by = by_nothing_not_kept by; only = All-nil (IsOnlyLook now) }, tt),
      );
      so = gives.so;
      ends = record { refusing = record { none_in_hand = refl; by = by }; find = refl; waiting = refl };
    }

-- ---- one after the other

pub released_more : (first between : LookState) → IsReleasedFrom first between → (last : LookState) → IsReleasedFrom between last → IsReleasedFrom first last
released_more first between earlier last next = record { releasing = next.releasing; find = next.find ∙ earlier.find; waiting = next.waiting ∙ earlier.waiting }

pub refused_more : (first between : LookState) → IsRefusingFrom first between → (last : LookState) → IsRefusingFrom between last → IsRefusingFrom first last
refused_more first between earlier last next = record { refusing = next.refusing; find = next.find ∙ earlier.find; waiting = next.waiting ∙ earlier.waiting }
