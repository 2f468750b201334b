-- The first of those who are to be settled.
use Rattle.std.proofs.Common.{◌≡◌, ◌≢◌, ◌≤◌, ◌+◌, ◌-◌, ℕ, Bool, true, false, List, [], ◌∷◌, ◌++◌, Option, Some, None, inl, refl, sym, ap, ◌∙◌, subst, append_assoc, drop, take, length, length-append, length-drop, arith}
use Rattle.std.specs.Prelude.{All, map}
use Rattle.std.proofs.lemmas.List.{length-take}
use Rattle.std.proofs.lemmas.List.Elements.{All-cons, All-head, All-nil, All-tail}
use Rattle.find_desk.specs.Desk.{DeskSeen, HasKeptDesk}
use Rattle.find_desk.specs.Events.{DeskEvent, Found, MadeFind}
use Rattle.find_desk.specs.declared.desk.EndedFind.{EndedFind}
use Rattle.find_desk.specs.declared.desk.OpenDeskFind.{OpenDeskFind}
use Rattle.held_connections.specs.Held.{HeldView, HoldsConnections}
use Rattle.held_connections.specs.Steps.{TakesFirstInHand}
use Rattle.proxy_looks.specs.Settled.{AreAskedBy, AreLooksAsFar, AreLooksOf, AreUrlsSettled, GoesOnLooking, SettledKeepLooks, SettlesAll, desk_at, looks_at}
use Rattle.proxy_looks.specs.Urls.{IsAskableUrl, open_hits}
use Rattle.proxy_looks.specs.declared.settling.Settled.{Settled}
use Rattle.proxy_looks.specs.declared.urls.LookUrl.{LookUrl}
use Rattle.proxy_run.specs.LookAllowed.{IsNextToSettle, IsRefusedLook, look_at}
use Rattle.proxy_run.specs.LookEvents.{behind_first, after_look_event, asked_behind, first_in_hand, first_released}
use Rattle.proxy_run.specs.LookEvents.LookEvent.{Answered, ReleasedFirst, SettledFirst}
use Rattle.proxy_run.specs.LookSoFar.{HoldLooksSo, IsAskingOf, IsHandOf, IsPastOf, LookOutside, LookOwn, LookStart, PastLooks, ProxyRight, WereLookedBefore, look_of, past_looks}
use Rattle.proxy_run.specs.LookState.{GoesBy, HandLook, HeldLook, LookState, open_of}
use Rattle.proxy_run.specs.LookState.GoesBy.{ByFind, ByKept}
use Rattle.proxy_run.specs.LookSteps.{IsSettlingLook, GivesLook, HasSettledHand, IsAskedByEnded, IsToDecide, IsToSettle, LooksGoTo}
use Rattle.proxy_run.specs.declared.plan.ProxyPlan.{ProxyPlan}
use Rattle.proxy_run.proofs.LookFacts.{drop_sum, looks_as_far, looks_behind, looks_count, looks_stay_more}
use Rattle.proxy_run.proofs.LookStepping.{goes_ends, goes_then, past_by_find}
use Rattle.sb_model.specs.declared.time.Moment.{Moment}
use Rattle.update_client.specs.Held.{Held}
use Rattle.url_checker.specs.declared.looking.Looks.{Looks}

-- a list that is that long has a first element
pub has_first : {A : Type 0} (xs : List A) (n : ℕ) → n ≡ length xs → 1 ≤ n → (x : A) × (rest : List A) × (xs ≡ x ∷ rest)
has_first [] n is some = let no : ⊥ = omega (arith, is, some) in absurd no
has_first (x ∷ xs) n is some = (x, xs, refl)

same_head : {A : Type 0} {x y : A} {xs ys : List A} → x ∷ xs ≡ y ∷ ys → x ≡ y
same_head e = cc

same_tail : {A : Type 0} {x y : A} {xs ys : List A} → x ∷ xs ≡ y ∷ ys → xs ≡ ys
same_tail e = cc

-- what is known of the looks of the first, and of those behind it
pub first_count : (plan : ProxyPlan) (start : LookStart) (events : List DeskEvent) (first : HeldLook) (rest : List HeldLook) (past : PastLooks) → AreLooksOf start.desk events (open_of (first ∷ rest)) (drop past.place past.looks)
    → past.place ≤ length past.looks → past.place + length (open_hits first.urls) ≤ length past.looks
first_count plan start events first rest past are within =
    let count = looks_count start.desk events (open_of (first ∷ rest)) (drop past.place past.looks) are in
    let sum = length-append (open_hits first.urls) (open_of rest) in
    let dropped = length-drop past.place past.looks in
    omega (arith, count, sum, dropped, within)

module _ (plan : ProxyPlan) (start : LookStart) (state : LookState) (own : LookOwn) (seen : LookOutside) (so : HoldLooksSo plan start state own seen)
    (first : HeldLook) (rest : List HeldLook) (is : state.unsettled ≡ first ∷ rest) (conns : HeldView (List LookUrl)) (urls : List LookUrl) (takes : TakesFirstInHand urls own.connections conns)
  where
    waits : look_of takes.first ∷ map look_of takes.rest ≡ first ∷ (rest ++ state.waiting)
    waits = sym (ap (map look_of) takes.waited) ∙ so.are.waiting ∙ ap (λ (all : List HeldLook). all ++ state.waiting) is

    pub first_is : look_of takes.first ≡ first
    first_is = same_head waits

    pub urls_are : urls ≡ first.urls
    urls_are = takes.wait_is ∙ ap (λ (one : HeldLook). one.urls) first_is

    behind : map look_of conns.waiting ≡ rest ++ state.waiting
    behind = ap (λ (cs : HeldView (List LookUrl)). map look_of cs.waiting) takes.is ∙ same_tail waits

    pub first_askable : All IsAskableUrl urls
    first_askable =
        subst (λ (us : List LookUrl). All IsAskableUrl us) (sym urls_are)
        (All-head (λ (one : HeldLook). All IsAskableUrl one.urls) first (rest ++ state.waiting)
        (subst (λ (all : List HeldLook). All (λ (one : HeldLook). All IsAskableUrl one.urls) (all ++ state.waiting)) is so.are.askable))

    rest_askable : All (λ (one : HeldLook). All IsAskableUrl one.urls) (rest ++ state.waiting)
    rest_askable =
        All-tail (λ (one : HeldLook). All IsAskableUrl one.urls) first (rest ++ state.waiting)
        (subst (λ (all : List HeldLook). All (λ (one : HeldLook). All IsAskableUrl one.urls) (all ++ state.waiting)) is so.are.askable)

    left_now : own.left - 1 ≡ length rest
    left_now = let count = so.are.left ∙ ap (λ (all : List HeldLook). length all) is in omega (arith, count)

    hand_now : (hand : HandLook) → hand.number ≡ first.number → hand.received ≡ first.received → IsHandOf conns.hand (Some hand)
    hand_now hand number received =
        subst (λ (cs : HeldView (List LookUrl)). IsHandOf cs.hand (Some hand)) (sym takes.is)
        (number ∙ ap (λ (one : HeldLook). one.number) (sym first_is), received ∙ ap (λ (one : HeldLook). one.received) (sym first_is))

    -- ---- it is in hand

    -- with the desk as it is now, by whichever it goes
    pub first_goes : (hand : HandLook) (more : List DeskEvent) (desk : DeskSeen) (asked' place' : ℕ) → hand.number ≡ first.number → hand.received ≡ first.received
        → desk.opened ≡ own.desk.opened → HasKeptDesk plan.updates.target plan.updates.need_digest start.desk (state.desk ++ more) desk seen.finds
        → HoldsConnections ProxyRight start.outside.door state.taken state.over conns seen.door
        → IsPastOf start.desk (state.desk ++ more) rest asked' (past_looks (record own { place = place' })) state.by
        → HoldLooksSo plan start (record state { desk = state.desk ++ more; unsettled = rest; asked = asked'; hand = Some hand })
        (record own { desk = desk; connections = conns; left = own.left - 1; place = place' }) seen
    first_goes hand more desk asked' place' number received opened has connections past = record {
      are = record {
        find = subst (λ (o : Option OpenDeskFind). IsAskingOf o own.asked own.looks state.find_open) (sym opened) so.are.find;
        waiting = behind;
        left = left_now;
        hand = hand_now hand number received;
        looks = looks_stay_more start.desk state.desk more (open_of state.waiting) own.looks so.are.looks;
        askable = rest_askable;
        past = past;
        waited = so.are.waited;
        finds = so.are.finds;
        stop = so.are.stop;
      };
      desk = has;
      connections = connections;
      printed = so.printed;
      faults = so.faults;
      same_finds = so.same_finds;
    }

    abbrev pub hand_first : Option (List LookUrl) → HandLook
    hand_first known = record { number = first.number; received = first.received; urls = known; fresh = false; released = false }

    abbrev pub hand_free : HandLook
    hand_free = record { number = first.number; received = first.received; urls = Some first.urls; fresh = false; released = true }

    -- the states are those after the events
    pub settled_state : (known : Option (List LookUrl)) (more : List DeskEvent) → after_look_event state (SettledFirst known more)
        ≡ record state { desk = state.desk ++ more; unsettled = rest; asked = state.asked - length (open_hits first.urls); hand = Some (hand_first known) }
    settled_state known more =
        ap (λ (all : List HeldLook). record state { desk = state.desk ++ more; unsettled = behind_first all; asked = asked_behind all state.asked; hand = first_in_hand all known }) is

    pub released_state : after_look_event state ReleasedFirst ≡ record state { unsettled = rest; hand = Some hand_free }
    released_state = ap (λ (all : List HeldLook). record state { unsettled = behind_first all; hand = first_released all }) is

    pub next_is : state.hand ≡ None → IsNextToSettle state first
    next_is none = record { none_in_hand = none; rest = rest; is = is }

    -- ---- by a find

    -- what is known of those who go by a find
    pub looked_before : (one : MadeFind) → state.by ≡ ByFind one → WereLookedBefore start.desk state.desk (first ∷ rest) state.asked (past_looks own) one
    looked_before one by =
        subst (λ (b : GoesBy). IsPastOf start.desk state.desk (first ∷ rest) state.asked (past_looks own) b) by
        (subst (λ (all : List HeldLook). IsPastOf start.desk state.desk all state.asked (past_looks own) state.by) is so.are.past)

    pub found_within : (one : MadeFind) → state.by ≡ ByFind one → own.place + length (open_hits urls) ≤ length own.past
    found_within one by =
        let was = looked_before one by in
        subst (λ (us : List LookUrl). own.place + length (open_hits us) ≤ length own.past) (sym urls_are) (first_count plan start was.before first rest (past_looks own) was.looks was.within)

    pub found_few : (one : MadeFind) → state.by ≡ ByFind one → own.asked ≤ length own.past
    found_few one by = let was = looked_before one by in was.few

    pub found_asked : (one : MadeFind) → state.by ≡ ByFind one → IsAskedByEnded own.ended own.asked own.past
    found_asked one by =
        let was = looked_before one by in subst (λ (e : Option EndedFind). IsAskedByEnded e own.asked own.past) (sym was.is) was.asked_for

    pub asked_by_one : (one : MadeFind) → state.by ≡ ByFind one → AreAskedBy start.desk state.desk (open_hits urls) (take (own.asked - own.place) (drop own.place own.past)) own.ended (Some one)
    asked_by_one one by =
        let was = looked_before one by in
        subst (λ (e : Option EndedFind). AreAskedBy start.desk state.desk (open_hits urls) (take (own.asked - own.place) (drop own.place own.past)) e (Some one)) (sym was.is) (
          one,
          refl,
          record {
            before = was.before;
            after = was.after;
            splits = was.splits;
            ends = was.ends;
            looks = subst (λ (us : List LookUrl). AreLooksAsFar start.desk was.before (open_hits us) (take (own.asked - own.place) (drop own.place own.past))) (sym urls_are)
                (looks_as_far start.desk was.before (open_hits first.urls) (open_of rest) (drop own.place own.past) (own.asked - own.place) was.looks);
          },
        )

    found_past : (one : MadeFind) (more : List DeskEvent) → state.by ≡ ByFind one
        → IsPastOf start.desk (state.desk ++ more) rest (state.asked - length (open_hits first.urls)) (past_looks (record own { place = own.place + length (open_hits urls) })) state.by
    found_past one more by =
        let was = looked_before one by in
        let n : length (open_hits urls) ≡ length (open_hits first.urls) = ap (λ (us : List LookUrl). length (open_hits us)) urls_are in
        let least = was.count in
        subst (λ (b : GoesBy). IsPastOf start.desk (state.desk ++ more) rest (state.asked - length (open_hits first.urls)) (past_looks (record own { place = own.place + length (open_hits urls) })) b) (sym by)
        (past_by_find start.desk (state.desk ++ more) rest (state.asked - length (open_hits first.urls)) (past_looks (record own { place = own.place + length (open_hits urls) })) one (record {
          ended = was.ended;
          is = was.is;
          ends = was.ends;
          before = was.before;
          after = was.after ++ more;
          splits = ap (λ (all : List DeskEvent). all ++ more) was.splits ∙ append_assoc was.before (Found one ∷ was.after) more;
          looks = subst (λ (ls : List Looks). AreLooksOf start.desk was.before (open_of rest) ls) (drop_sum (length (open_hits first.urls)) own.place own.past ∙ ap (λ (k : ℕ). drop (own.place + k) own.past) (sym n))
              (looks_behind start.desk was.before (open_hits first.urls) (open_of rest) (drop own.place own.past) was.looks);
          within = found_within one by;
          asked_for = was.asked_for;
          few = was.few;
          count = omega (arith, least, n);
        }))

    pub settled_goes : (one : MadeFind) (known : Option (List LookUrl)) (more : List DeskEvent) (desk : DeskSeen) → state.by ≡ ByFind one → desk.opened ≡ own.desk.opened
        → HasKeptDesk plan.updates.target plan.updates.need_digest start.desk (state.desk ++ more) desk seen.finds
        → HoldsConnections ProxyRight start.outside.door state.taken state.over conns seen.door
        → HoldLooksSo plan start (after_look_event state (SettledFirst known more))
        (record own { desk = desk; connections = conns; left = own.left - 1; place = own.place + length (open_hits urls) }) seen
    settled_goes one known more desk by opened has connections =
        subst (λ (s : LookState). HoldLooksSo plan start s (record own { desk = desk; connections = conns; left = own.left - 1; place = own.place + length (open_hits urls) }) seen) (sym (settled_state known more))
        (first_goes (hand_first known) more desk (state.asked - length (open_hits first.urls)) (own.place + length (open_hits urls)) refl refl opened has connections (found_past one more by))

    pub settled_hand : (known : Option (List LookUrl)) (more : List DeskEvent) → (after_look_event state (SettledFirst known more)).hand ≡ Some (hand_first known)
    settled_hand known more = ap (λ (s : LookState). s.hand) (settled_state known more)

    asked_count : (one : MadeFind) → state.by ≡ ByFind one → length (take (own.asked - own.place) (drop own.place own.past)) ≡ state.asked
    asked_count one by =
        let was = looked_before one by in
        let few = was.few in
        let count = was.count in
        let taken = length-take (own.asked - own.place) (drop own.place own.past) in
        let dropped = length-drop own.place own.past in
        omega (arith, few, count, taken, dropped)

    pub settled_decides : SettledKeepLooks → (one : MadeFind) (now : Moment) (settled : Settled) (desk : DeskSeen)
        → (settles : SettlesAll (desk_at plan.updates.target plan.updates.need_digest start.desk state.desk now seen.finds) (Some one) (take (own.asked - own.place) (drop own.place own.past)) urls settled desk)
        → All IsAskableUrl settled.urls
        → IsToDecide start (after_look_event state (SettledFirst (Some settled.urls) settles.goes.more)) (hand_first (Some settled.urls)) false settled.urls settled.looks
    settled_decides keep one now settled desk settles askable = record {
      is = settled_hand (Some settled.urls) settles.goes.more;
      known = refl;
      kept = refl;
      fresh_is = refl;
      are = keep start.desk (state.desk ++ settles.goes.more) (Some one) (take (own.asked - own.place) (drop own.place own.past)) urls settled.urls settled.looks settles.are;
      askable = askable;
    }

    to_settle_still : (one : MadeFind) (known : Option (List LookUrl)) (more : List DeskEvent) → state.by ≡ ByFind one → (s : LookState) → HasSettledHand (after_look_event state (SettledFirst known more)) s → IsToSettle s
    to_settle_still one known more by s settled = record { none_in_hand = settled.none_in_hand; one = one; by = settled.by ∙ by }

    pub settled_first_goes : (one : MadeFind) (lists : List Held) (now : Moment) (ending : Bool) (settled : Settled) (desk : DeskSeen) (own' : LookOwn) (seen' : LookOutside) → state.hand ≡ None → state.by ≡ ByFind one
        → (settles : SettlesAll (desk_at plan.updates.target plan.updates.need_digest start.desk state.desk now seen.finds) (Some one) (take (own.asked - own.place) (drop own.place own.past)) urls settled desk)
        → LooksGoTo (look_at plan start.desk lists now ending) start (after_look_event state (SettledFirst (Some settled.urls) settles.goes.more))
        (HasSettledHand (after_look_event state (SettledFirst (Some settled.urls) settles.goes.more))) own' seen'
        → LooksGoTo (look_at plan start.desk lists now ending) start state IsToSettle own' seen'
    settled_first_goes one lists now ending settled desk own' seen' none by settles goes =
        goes_then (look_at plan start.desk lists now ending) start state IsToSettle own' seen' (SettledFirst (Some settled.urls) settles.goes.more ∷ []) (All-cons IsSettlingLook (SettledFirst (Some settled.urls) settles.goes.more) ([]) tt (All-nil IsSettlingLook)) (
          record {
            first = first;
            next = next_is none;
            one = one;
            by = by;
            asked = take (own.asked - own.place) (drop own.place own.past);
            count = asked_count one by;
            looks = settled.looks;
            settled = subst (λ (us : List LookUrl). AreUrlsSettled start.desk (state.desk ++ settles.goes.more) (Some one) (take (own.asked - own.place) (drop own.place own.past)) us settled.urls settled.looks) urls_are settles.are;
            only = settles.looked ∙ ap (λ (us : List LookUrl). looks_at now (drop (length (take (own.asked - own.place) (drop own.place own.past))) (open_hits us))) urls_are;
          },
          tt,
        )
        (goes_ends (look_at plan start.desk lists now ending) start (after_look_event state (SettledFirst (Some settled.urls) settles.goes.more))
        (HasSettledHand (after_look_event state (SettledFirst (Some settled.urls) settles.goes.more))) IsToSettle own' seen'
        (to_settle_still one (Some settled.urls) settles.goes.more by) goes)

    -- memory was refused
    by_find_not_kept : (one : MadeFind) → state.by ≡ ByFind one → state.by ≢ ByKept
    by_find_not_kept one by e = cc

    pub stopped_first_goes : (one : MadeFind) (lists : List Held) (now : Moment) (ending : Bool) (desk : DeskSeen) (own' : LookOwn) (seen' : LookOutside) → state.hand ≡ None → state.by ≡ ByFind one
        → (goes : GoesOnLooking (desk_at plan.updates.target plan.updates.need_digest start.desk state.desk now seen.finds) desk)
        → GivesLook plan start (after_look_event state (SettledFirst None goes.more)) (hand_first None) (IsRefusedLook (hand_first None)) own' seen'
        → LooksGoTo (look_at plan start.desk lists now ending) start state IsToSettle own' seen'
    stopped_first_goes one lists now ending desk own' seen' none by goes gives = record {
      events = Answered gives.one gives.part ∷ SettledFirst None goes.more ∷ [];
      kinds = All-cons IsSettlingLook (Answered gives.one gives.part) (SettledFirst None goes.more ∷ []) tt (All-cons IsSettlingLook (SettledFirst None goes.more) ([]) tt (All-nil IsSettlingLook));
      may = (
        record { hand = hand_first None; is = settled_hand None goes.more; number = gives.number; by = inl gives.says; told = gives.told },
        (record { first = first; next = next_is none; by = by_find_not_kept one by; only = goes.only }, tt),
      );
      so = gives.so;
      ends = record { none_in_hand = refl; one = one; by = by };
    }
