-- The connections that a server holds after a step.
use Rattle.std.proofs.Common.{◌≡◌, ℕ, ◌+◌, ◌<◌, List, [], ◌∷◌, ◌++◌, length, map, refl, sym, ap, ◌∙◌, subst, Option, Some, None, inl, arith}
use Rattle.std.specs.Prelude.{slice_index_or, All, IfSome, option_map, slice_get, Result}
use Rattle.std.specs.Option.{option_to_list}
use Rattle.std.proofs.lemmas.List.{length-append, map-append}
use Rattle.std.proofs.lemmas.List.Elements.{All-head, All-nil, All-push, All-tail, All-weaker}
use Rattle.sb_outside.specs.declared.doors.Connection.{Connection}
use Rattle.http_edge.specs.declared.faults.RequestFault.{RequestFault}
use Rattle.http_edge.specs.declared.messages.HttpRequest.{HttpRequest}
use Rattle.http_serving.specs.Hearing.{Hears, IsHeard}
use Rattle.http_serving.specs.Returning.{IsReturned}
use Rattle.http_serving.specs.Serving.{IsServed}
use Rattle.http_serving.specs.declared.ends.ConnectionEnd.{ConnectionEnd}
use Rattle.held_connections.specs.Held.{held_place, wire_view, HoldsConnections, HeardView, HeldView, IsUnanswered, WaitingView, WireView}
use Rattle.held_connections.specs.Over.{DoorView, HasEntryOfEach, HasHandedOut, HeldPlace, ServedConnection, RightOf}
use Rattle.held_connections.specs.Steps.{AnswersHand, HandsOutWire, PutsHandOff, TakesFirstInHand, TakesInHand}
use Rattle.held_connections.proofs.Given.{first_is_last, get_front, get_last, given_as, given_back, given_more, last_is_first, LeavesOne}

-- ---- what is known of open ones, once one more is taken

still_later : (taken : List (List (List ℕ))) (pieces : List (List ℕ)) (heard : HeardView) → IsUnanswered taken heard → IsUnanswered (taken ++ pieces ∷ []) heard
still_later taken pieces heard is = record { pieces = is.pieces; gave = get_front taken pieces is.pieces heard.number is.gave; is = is.is }

waiting_later : {P : Type 0} (taken : List (List (List ℕ))) (pieces : List (List ℕ)) (waiting : List (WaitingView P))
    → All (λ (one : WaitingView P). IsUnanswered taken one.heard) waiting → All (λ (one : WaitingView P). IsUnanswered (taken ++ pieces ∷ []) one.heard) waiting
waiting_later {P} taken pieces waiting all =
    All-weaker (λ (one : WaitingView P). IsUnanswered taken one.heard) (λ (one : WaitingView P). IsUnanswered (taken ++ pieces ∷ []) one.heard)
    (λ one is. still_later taken pieces one.heard is) waiting all

-- ---- what is seen by its parts

same_seen : {P : Type 0} (a b : HeldView P) → a.taken ≡ b.taken → a.hand ≡ b.hand → a.waiting ≡ b.waiting → a ≡ b
same_seen {P} a b taken hand waiting =
    ap (λ (n : ℕ). let s : HeldView P = record { taken = n; hand = a.hand; waiting = a.waiting } in s) taken
    ∙ ap (λ (h : Option HeardView). let s : HeldView P = record { taken = b.taken; hand = h; waiting = a.waiting } in s) hand
    ∙ ap (λ (ws : List (WaitingView P)). let s : HeldView P = record { taken = b.taken; hand = b.hand; waiting = ws } in s) waiting

-- ---- the first

none_came : (coming : Option (List (List (List ℕ)))) → coming ≡ option_map (λ later. [] ++ later) coming
none_came None = refl
none_came (Some coming) = refl

none_logged : {S : Type 0} (Right : RightOf S) (log : Option (List Connection)) → IfSome log (HasEntryOfEach Right log [] [] [])
none_logged Right None = tt
none_logged Right (Some entries) = record {
  earlier = entries;
  was = refl;
  count = omega arith;
  placed = All-nil (λ (one : HeldPlace). one.place ≡ length entries + one.number);
  said = λ place entry is. inl is;
}

pub none_yet : {S P : Type 0} (Right : RightOf S) (now : HeldView P) (door : DoorView) → now ≡ record { taken = 0; hand = None; waiting = [] } → HoldsConnections Right door [] [] now door
none_yet {S} {P} Right now door is = subst (λ (seen : HeldView P). HoldsConnections Right door [] [] seen door) (sym is) (record {
  count = refl;
  given = record { came = none_came door.coming; all = refl; logged = none_logged Right door.log };
  hand = tt;
  waiting = All-nil (λ (one : WaitingView P). IsUnanswered [] one.heard);
})

-- ---- one that was taken, and is in hand

one_more_taken : (n : ℕ) (taken : List (List (List ℕ))) (pieces : List (List ℕ)) → n ≡ length taken → n + 1 ≡ length (taken ++ pieces ∷ [])
one_more_taken n taken pieces is = omega (arith, length-append taken (pieces ∷ []), is)

pub heard_in_hand : {S P : Type 0} (Right : RightOf S) (start before door : DoorView) (taken : List (List (List ℕ))) (pieces : List (List ℕ)) (over : List (ServedConnection S)) (now : HeldView P)
    (wire wire' : WireView) (received : Result HttpRequest RequestFault) → now.hand ≡ None → HoldsConnections Right start taken over now before → HandsOutWire pieces before door wire
    → wire'.place ≡ wire.place → IsHeard received pieces wire'.start wire'.left wire'.contents wire'.read_faults wire'.write_faults
    → HoldsConnections Right start (taken ++ pieces ∷ []) over
    (record { taken = now.taken + 1; hand = Some (record { number = now.taken; received = received; wire = wire' }); waiting = now.waiting }) door
heard_in_hand {S} {P} Right start before door taken pieces over now wire wire' received none has gives same heard =
    let waiting : List HeldPlace = map (λ (one : WaitingView P). held_place one.heard) now.waiting in
    let one : HeldPlace = record { number = now.taken; place = wire'.place } in
    let given : HasHandedOut Right start taken over waiting before =
    subst (λ (hand : Option HeardView). HasHandedOut Right start taken over (option_to_list (option_map held_place hand) ++ waiting) before) none has.given in
    let more = given_more Right start before door taken pieces over waiting wire.place given gives.came gives.opened gives.placed in
    let as_placed : HasHandedOut Right start (taken ++ pieces ∷ []) over (waiting ++ record { number = length taken; place = wire'.place } ∷ []) door =
    subst (λ (n : ℕ). HasHandedOut Right start (taken ++ pieces ∷ []) over (waiting ++ record { number = length taken; place = n } ∷ []) door) (sym same) more in
    let as_numbered : HasHandedOut Right start (taken ++ pieces ∷ []) over (waiting ++ one ∷ []) door =
    subst (λ (n : ℕ). HasHandedOut Right start (taken ++ pieces ∷ []) over (waiting ++ record { number = n; place = wire'.place } ∷ []) door) (sym has.count) as_placed in
    record {
      count = one_more_taken now.taken taken pieces has.count;
      given = given_as Right start door (taken ++ pieces ∷ []) over (waiting ++ one ∷ []) (one ∷ waiting) (last_is_first waiting one) as_numbered;
      hand = record { pieces = pieces; gave = subst (λ (n : ℕ). slice_get (taken ++ pieces ∷ []) n ≡ Some pieces) (sym has.count) (get_last taken pieces); is = heard };
      waiting = waiting_later taken pieces now.waiting has.waiting;
    }

pub has_heard : {S P : Type 0} (Right : RightOf S) (start before door : DoorView) (taken : List (List (List ℕ))) (pieces : List (List ℕ)) (over : List (ServedConnection S)) (now after : HeldView P)
    (wire wire' : WireView) (received : Result HttpRequest RequestFault) → now.hand ≡ None
    → after ≡ record { taken = now.taken + 1; hand = Some (record { number = now.taken; received = received; wire = wire' }); waiting = now.waiting }
    → HoldsConnections Right start taken over now before → HandsOutWire pieces before door wire
    → wire'.place ≡ wire.place → IsHeard received pieces wire'.start wire'.left wire'.contents wire'.read_faults wire'.write_faults
    → HoldsConnections Right start (taken ++ pieces ∷ []) over after door
has_heard {S} {P} Right start before door taken pieces over now after wire wire' received none is has gives same heard =
    subst (λ (seen : HeldView P). HoldsConnections Right start (taken ++ pieces ∷ []) over seen door) (sym is)
    (heard_in_hand Right start before door taken pieces over now wire wire' received none has gives same heard)

pub takes_in_hand : {P : Type 0} (now after : HeldView P) (left : Option (List (List ℕ))) (wire : WireView) (received : Result HttpRequest RequestFault) → Hears received left wire.left
    → after ≡ record { taken = now.taken + 1; hand = Some (record { number = now.taken; received = received; wire = wire }); waiting = now.waiting } → TakesInHand left now after
takes_in_hand now after left wire received hears is = record {
  heard = record { number = now.taken; received = received; wire = wire };
  hears = hears;
  numbered = refl;
  is = is;
}

-- by what stands in the fields
pub hears_one : {P : Type 0} (before now after : HeldView P) (wire : WireView) (received : Result HttpRequest RequestFault) → now ≡ before → after.taken ≡ now.taken + 1
    → after.hand ≡ Some (record { number = now.taken; received = received; wire = wire }) → after.waiting ≡ now.waiting
    → after ≡ record { taken = before.taken + 1; hand = Some (record { number = before.taken; received = received; wire = wire }); waiting = before.waiting }
hears_one {P} before now after wire received is taken hand waiting =
    subst (λ (s : HeldView P). after ≡ record { taken = s.taken + 1; hand = Some (record { number = s.taken; received = received; wire = wire }); waiting = s.waiting }) is
    (same_seen after (record { taken = now.taken + 1; hand = Some (record { number = now.taken; received = received; wire = wire }); waiting = now.waiting }) taken hand waiting)

-- ---- one that is answered

pub hand_over : {S P : Type 0} (Right : RightOf S) (start door door' : DoorView) (taken : List (List (List ℕ))) (over : List (ServedConnection S)) (now : HeldView P) (heard : HeardView) (server server' : S)
    (how : ConnectionEnd) → now.hand ≡ Some heard → HoldsConnections Right start taken over now door
    → ((pieces : List (List ℕ)) → IsHeard heard.received pieces heard.wire.start heard.wire.left heard.wire.contents heard.wire.read_faults heard.wire.write_faults
    → IsReturned (IsServed (Right server server') how pieces) heard.wire.place door.log door'.log)
    → door'.coming ≡ door.coming → AnswersHand Right heard.number server server' how start taken over (record now { hand = None }) door'
hand_over {S} {P} Right start door door' taken over now heard server server' how is has returned coming =
    let still : IsUnanswered taken heard = subst (λ (hand : Option HeardView). IfSome hand (IsUnanswered taken)) is has.hand in
    let waiting : List HeldPlace = map (λ (one : WaitingView P). held_place one.heard) now.waiting in
    let given : HasHandedOut Right start taken over (held_place heard ∷ waiting) door =
    subst (λ (hand : Option HeardView). HasHandedOut Right start taken over (option_to_list (option_map held_place hand) ++ waiting) door) is has.given in
    let leaves : LeavesOne Right heard.number server server' how start taken over waiting door' =
    given_back Right start door door' taken over [] waiting (held_place heard) server server' how still.pieces given still.gave (returned still.pieces still.is) coming in
    record {
      one = leaves.one;
      number_is = leaves.number_is;
      server_is = leaves.server_is;
      after_is = leaves.after_is;
      how_is = leaves.how_is;
      has = record { count = has.count; given = leaves.given; hand = tt; waiting = has.waiting };
    }

-- ---- one that is put off

pub has_put_off : {S P : Type 0} (Right : RightOf S) (start door : DoorView) (taken : List (List (List ℕ))) (over : List (ServedConnection S)) (wait : P) (before after : HeldView P)
    → PutsHandOff wait before after → HoldsConnections Right start taken over before door → HoldsConnections Right start taken over after door
has_put_off {S} {P} Right start door taken over wait before after puts has =
    let last : WaitingView P = record { heard = puts.heard; wait = wait } in
    let still : IsUnanswered taken puts.heard = subst (λ (hand : Option HeardView). IfSome hand (IsUnanswered taken)) puts.was has.hand in
    let waiting : List HeldPlace = map (λ (one : WaitingView P). held_place one.heard) before.waiting in
    let given : HasHandedOut Right start taken over (held_place puts.heard ∷ waiting) door =
    subst (λ (hand : Option HeardView). HasHandedOut Right start taken over (option_to_list (option_map held_place hand) ++ waiting) door) puts.was has.given in
    let behind : HasHandedOut Right start taken over (waiting ++ held_place puts.heard ∷ []) door =
    given_as Right start door taken over (held_place puts.heard ∷ waiting) (waiting ++ held_place puts.heard ∷ []) (first_is_last waiting (held_place puts.heard)) given in
    subst (λ (seen : HeldView P). HoldsConnections Right start taken over seen door) (sym puts.is) (record {
      count = has.count;
      given = subst (λ (opens : List HeldPlace). HasHandedOut Right start taken over opens door) (sym (map-append (λ (one : WaitingView P). held_place one.heard) before.waiting (last ∷ []))) behind;
      hand = tt;
      waiting = All-push (λ (one : WaitingView P). IsUnanswered taken one.heard) before.waiting last has.waiting still;
    })

-- ---- the first of those that wait

pub has_first : {S P : Type 0} (Right : RightOf S) (start door : DoorView) (taken : List (List (List ℕ))) (over : List (ServedConnection S)) (wait : P) (before after : HeldView P)
    → before.hand ≡ None → TakesFirstInHand wait before after → HoldsConnections Right start taken over before door → HoldsConnections Right start taken over after door
has_first {S} {P} Right start door taken over wait before after none takes has =
    let all : All (λ (one : WaitingView P). IsUnanswered taken one.heard) (takes.first ∷ takes.rest) =
    subst (All (λ (one : WaitingView P). IsUnanswered taken one.heard)) takes.waited has.waiting in
    subst (λ (seen : HeldView P). HoldsConnections Right start taken over seen door) (sym takes.is) (record {
      count = has.count;
      given = subst (λ (waiting : List (WaitingView P)). HasHandedOut Right start taken over (map (λ (one : WaitingView P). held_place one.heard) waiting) door) takes.waited
          (subst (λ (hand : Option HeardView). HasHandedOut Right start taken over (option_to_list (option_map held_place hand) ++ map (λ (one : WaitingView P). held_place one.heard) before.waiting) door) none has.given);
      hand = All-head (λ (one : WaitingView P). IsUnanswered taken one.heard) takes.first takes.rest all;
      waiting = All-tail (λ (one : WaitingView P). IsUnanswered taken one.heard) takes.first takes.rest all;
    })

-- the one at the front
pub front_waits : {X Y : Type 0} (items : List X) (x : X) (f : X → Y) → 0 < length items → x ≡ slice_index_or items 0 x → (rest : List Y) × (map f items ≡ f x ∷ rest)
front_waits [] x f some is = absurd (omega (arith, some))
front_waits (first ∷ items) x f some is = (map f items, ap (λ y. f y ∷ map f items) (sym is))

-- the one at the front, where it was taken from there, and one that was put behind
pub front_taken : {X Y : Type 0} (f : X → Y) (items later : List X) (taken : Option X) (first : X) → items ≡ option_to_list taken ++ later → taken ≡ Some first → map f items ≡ f first ∷ map f later
front_taken f items later taken first is some = ap (map f) (is ∙ ap (λ o. option_to_list o ++ later) some)

pub put_behind : {X Y : Type 0} (f : X → Y) (items items' : List X) (last : X) → items' ≡ items ++ last ∷ [] → map f items' ≡ map f items ++ f last ∷ []
put_behind f items items' last is = ap (map f) is ∙ map-append f items (last ∷ [])

pub takes_first : {P : Type 0} (before after : HeldView P) (first : WaitingView P) (rest : List (WaitingView P)) → before.waiting ≡ first ∷ rest → after.taken ≡ before.taken
    → after.hand ≡ Some first.heard → after.waiting ≡ rest → TakesFirstInHand first.wait before after
takes_first before after first rest waited taken hand waiting = record {
  first = first;
  rest = rest;
  waited = waited;
  wait_is = refl;
  is = same_seen after (record { taken = before.taken; hand = Some first.heard; waiting = rest }) taken hand waiting;
}

pub puts_off : {P : Type 0} (before after : HeldView P) (heard : HeardView) (wait : P) → before.hand ≡ Some heard → after.taken ≡ before.taken
    → after.hand ≡ None → after.waiting ≡ before.waiting ++ record { heard = heard; wait = wait } ∷ [] → PutsHandOff wait before after
puts_off before after heard wait was taken hand waiting = record {
  heard = heard;
  was = was;
  is = same_seen after (record { taken = before.taken; hand = None; waiting = before.waiting ++ record { heard = heard; wait = wait } ∷ [] }) taken hand waiting;
}

-- ---- by what the program sees

abbrev pub wire_by : {W : Type 0} → (W → ℕ) → (W → Option (List (List ℕ))) → (W → Option (List (List ℕ))) → (W → Option (List ℕ)) → (W → ℕ) → (W → ℕ) → W → WireView
wire_by place start left contents read_faults write_faults wire =
    wire_view (place wire) (start wire) (left wire) (contents wire) (read_faults wire) (write_faults wire)
