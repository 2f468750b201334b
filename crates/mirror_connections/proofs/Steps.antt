-- The connections of a mirror after a step.
use Rattle.std.proofs.Common.{◌≡◌, ℕ, ◌+◌, ◌<◌, List, [], ◌∷◌, ◌++◌, length, map, refl, sym, ap, ◌∙◌, subst, Option, Some, None, inl, inr, arith, append_assoc}
use Rattle.std.specs.Prelude.{slice_index_or, ◌⊎◌, All, IfSome, option_map, slice_get, Result, Ok}
use Rattle.std.specs.Option.{option_to_list}
use Rattle.std.proofs.lemmas.List.{append-nil, length-append, map-append}
use Rattle.std.proofs.lemmas.List.Elements.{All-head, All-nil, All-push, All-tail, All-weaker}
use Rattle.sb_model.specs.declared.time.Moment.{Moment}
use Rattle.sb_outside.specs.declared.doors.Connection.{Connection}
use Rattle.hash_messages.specs.Messages.{AskedHashes}
use Rattle.http_edge.specs.declared.faults.RequestFault.{RequestFault}
use Rattle.http_edge.specs.declared.messages.HttpRequest.{HttpRequest}
use Rattle.http_serving.specs.Hearing.{IsHeard}
use Rattle.http_serving.specs.Returning.{IsFresh, IsReturned}
use Rattle.http_serving.specs.Serving.{IsServed}
use Rattle.http_serving.specs.declared.ends.ConnectionEnd.{ConnectionEnd}
use Rattle.http_serving.specs.declared.ends.ConnectionEnd.TheVariants as end
use Rattle.mirror_serving.specs.HeardFind.{IsHeardFind}
use Rattle.mirror_serving.specs.Response.{IsMirrorResponseTo, MirrorServed}
use Rattle.mirror_connections.specs.Answered.{AnswersOne, BeginsFirst, GivesWire, PutsOff}
use Rattle.mirror_connections.specs.Open.{most_waiting, open_places, place_of, ConnectionsSeen, FindSeen, HasConnections, IsFindOpen, IsFindWaiting, IsOpenStill, WaitingSeen, WireSeen, wire_seen}
use Rattle.mirror_connections.specs.Over.{DoorSeen, HasEntries, HasGiven, OpenPlace, OverConnection}
use Rattle.mirror_connections.proofs.Given.{LeavesOne, get_front, get_last, given_back, given_more}

-- ---- what is known of open ones, once one more is taken

still_later : (taken : List (List (List ℕ))) (pieces : List (List ℕ)) (number : ℕ) (received : Result HttpRequest RequestFault) (wire : WireSeen)
    → IsOpenStill taken number received wire → IsOpenStill (taken ++ pieces ∷ []) number received wire
still_later taken pieces number received wire is = record { pieces = is.pieces; gave = get_front taken pieces is.pieces number is.gave; heard = is.heard }

begun_later : (taken : List (List (List ℕ))) (pieces : List (List ℕ)) (begun : Option FindSeen) → IfSome begun (IsFindOpen taken) → IfSome begun (IsFindOpen (taken ++ pieces ∷ []))
begun_later taken pieces None is = tt
begun_later taken pieces (Some find) is = still_later taken pieces find.number (Ok find.request) find.wire is

waiting_later : (taken : List (List (List ℕ))) (pieces : List (List ℕ)) (waiting : List WaitingSeen) → All (IsFindWaiting taken) waiting → All (IsFindWaiting (taken ++ pieces ∷ [])) waiting
waiting_later taken pieces waiting all =
    All-weaker (IsFindWaiting taken) (IsFindWaiting (taken ++ pieces ∷ []))
    (λ one is. record { open_still = still_later taken pieces one.find.number (Ok one.find.request) one.find.wire is.open_still; asks = is.asks }) waiting all

-- ---- the first

none_came : (coming : Option (List (List (List ℕ)))) → coming ≡ option_map (λ later. [] ++ later) coming
none_came None = refl
none_came (Some coming) = refl

none_logged : (log : Option (List Connection)) → IfSome log (HasEntries log [] [] [])
none_logged None = tt
none_logged (Some entries) = record {
  earlier = entries;
  was = refl;
  count = omega arith;
  placed = All-nil (λ (one : OpenPlace). one.place ≡ length entries + one.number);
  said = λ place entry is. inl is;
}

pub none_yet : (door : DoorSeen) → HasConnections door [] [] (record { taken = 0; begun = None; waiting = [] }) door
none_yet door = record {
  count = refl;
  given = record { came = none_came door.coming; all = refl; logged = none_logged door.log };
  begun = tt;
  waiting = All-nil (IsFindWaiting []);
}

-- ---- one that is answered

answers : (number : ℕ) (server : MirrorServed) (how : ConnectionEnd) (start : DoorSeen) (taken : List (List (List ℕ))) (over : List OverConnection) (after : ConnectionsSeen) (door : DoorSeen)
    → after.taken ≡ length taken → LeavesOne number server how start taken over (open_places after) door → IfSome after.begun (IsFindOpen taken) → All (IsFindWaiting taken) after.waiting
    → AnswersOne number server how start taken over after door
answers number server how start taken over after door count leaves begun waiting = record {
  one = leaves.one;
  number_is = leaves.number_is;
  server_is = leaves.server_is;
  how_is = leaves.how_is;
  has = record { count = count; given = leaves.given; begun = begun; waiting = waiting };
}

-- the one whose find was begun
pub begun_over : (start door door' : DoorSeen) (taken : List (List (List ℕ))) (over : List OverConnection) (now : ConnectionsSeen) (find : FindSeen) (server : MirrorServed) (how : ConnectionEnd)
    → now.begun ≡ Some find → HasConnections start taken over now door
    → ((pieces : List (List ℕ)) → IsHeard (Ok find.request) pieces find.wire.start find.wire.left find.wire.contents find.wire.read_faults find.wire.write_faults
    → IsReturned (IsServed (IsMirrorResponseTo server.places server.wait server.fate) how pieces) find.wire.place door.log door'.log)
    → door'.coming ≡ door.coming → AnswersOne find.number server how start taken over (record now { begun = None }) door'
begun_over start door door' taken over now find server how is has returned coming =
    let open_still : IsFindOpen taken find = subst (λ (b : Option FindSeen). IfSome b (IsFindOpen taken)) is has.begun in
    let back : List OpenPlace = map (λ (one : WaitingSeen). place_of one.find) now.waiting in
    let given : HasGiven start taken over (place_of find ∷ back) door =
    subst (λ (b : Option FindSeen). HasGiven start taken over (option_to_list (option_map place_of b) ++ back) door) is has.given in
    answers find.number server how start taken over (record now { begun = None }) door' has.count
    (given_back start door door' taken over [] back (place_of find) server how open_still.pieces given open_still.gave (returned open_still.pieces open_still.heard) coming)
    tt has.waiting

-- the one that waits longest
pub first_over : (start door door' : DoorSeen) (taken : List (List (List ℕ))) (over : List OverConnection) (now : ConnectionsSeen) (first : WaitingSeen) (rest : List WaitingSeen) (server : MirrorServed) (how : ConnectionEnd)
    → now.waiting ≡ first ∷ rest → HasConnections start taken over now door
    → ((pieces : List (List ℕ)) → IsHeard (Ok first.find.request) pieces first.find.wire.start first.find.wire.left first.find.wire.contents first.find.wire.read_faults first.find.wire.write_faults
    → IsReturned (IsServed (IsMirrorResponseTo server.places server.wait server.fate) how pieces) first.find.wire.place door.log door'.log)
    → door'.coming ≡ door.coming → AnswersOne first.find.number server how start taken over (record now { waiting = rest }) door'
first_over start door door' taken over now first rest server how is has returned coming =
    let all : All (IsFindWaiting taken) (first ∷ rest) = subst (All (IsFindWaiting taken)) is has.waiting in
    let waits : IsFindWaiting taken first = All-head (IsFindWaiting taken) first rest all in
    let front : List OpenPlace = option_to_list (option_map place_of now.begun) in
    let back : List OpenPlace = map (λ (one : WaitingSeen). place_of one.find) rest in
    let given : HasGiven start taken over (front ++ place_of first.find ∷ back) door =
    subst (λ (ws : List WaitingSeen). HasGiven start taken over (front ++ map (λ (one : WaitingSeen). place_of one.find) ws) door) is has.given in
    answers first.find.number server how start taken over (record now { waiting = rest }) door' has.count
    (given_back start door door' taken over front back (place_of first.find) server how waits.open_still.pieces given waits.open_still.gave
    (returned waits.open_still.pieces waits.open_still.heard) coming)
    has.begun (All-tail (IsFindWaiting taken) first rest all)

-- the one that was taken last
one_more_taken : (n : ℕ) (taken : List (List (List ℕ))) (pieces : List (List ℕ)) → n ≡ length taken → n + 1 ≡ length (taken ++ pieces ∷ [])
one_more_taken n taken pieces is = omega (arith, length-append taken (pieces ∷ []), is)

pub taken_over : (start before door door' : DoorSeen) (taken : List (List (List ℕ))) (pieces : List (List ℕ)) (over : List OverConnection) (now : ConnectionsSeen) (wire : WireSeen) (server : MirrorServed)
    (how : ConnectionEnd) → HasConnections start taken over now before → GivesWire pieces before door wire
    → (IsFresh pieces wire.start wire.left wire.contents wire.read_faults wire.write_faults
    → IsReturned (IsServed (IsMirrorResponseTo server.places server.wait server.fate) how pieces) wire.place door.log door'.log)
    → door'.coming ≡ door.coming → AnswersOne (length taken) server how start (taken ++ pieces ∷ []) over (record now { taken = now.taken + 1 }) door'
taken_over start before door door' taken pieces over now wire server how has gives returned coming =
    let gone : OpenPlace = record { number = length taken; place = wire.place } in
    let given = given_more start before door taken pieces over (open_places now) wire.place has.given gives.came gives.opened gives.placed in
    let leaves = given_back start door door' (taken ++ pieces ∷ []) over (open_places now) [] gone server how pieces given (get_last taken pieces) (returned gives.fresh) coming in
    answers (length taken) server how start (taken ++ pieces ∷ []) over (record now { taken = now.taken + 1 }) door' (one_more_taken now.taken taken pieces has.count)
    (subst (λ (opens : List OpenPlace). LeavesOne (length taken) server how start (taken ++ pieces ∷ []) over opens door') (append-nil (open_places now)) leaves)
    (begun_later taken pieces now.begun has.begun) (waiting_later taken pieces now.waiting has.waiting)

-- ---- one that is put off

open_more : (now : ConnectionsSeen) (last : WaitingSeen)
    → open_places (record now { waiting = now.waiting ++ last ∷ [] }) ≡ open_places now ++ place_of last.find ∷ []
open_more now last =
    ap (λ (l : List OpenPlace). option_to_list (option_map place_of now.begun) ++ l) (map-append (λ (one : WaitingSeen). place_of one.find) now.waiting (last ∷ []))
    ∙ sym (append_assoc (option_to_list (option_map place_of now.begun)) (map (λ (one : WaitingSeen). place_of one.find) now.waiting) (place_of last.find ∷ []))

pub put_off_last : (start before door : DoorSeen) (taken : List (List (List ℕ))) (pieces : List (List ℕ)) (over : List OverConnection) (now : ConnectionsSeen) (moment : Moment) (wire wire' : WireSeen)
    (request : HttpRequest) (asked : AskedHashes) → HasConnections start taken over now before → GivesWire pieces before door wire → wire'.place ≡ wire.place
    → IsHeard (Ok request) pieces wire'.start wire'.left wire'.contents wire'.read_faults wire'.write_faults → IsHeardFind (Ok request) asked
    → (after : ConnectionsSeen)
    → after ≡ record { taken = now.taken + 1; begun = now.begun; waiting = now.waiting ++ record { find = record { number = now.taken; request = request; wire = wire' }; asked = asked; heard = moment } ∷ [] }
    → PutsOff moment start (taken ++ pieces ∷ []) over now after door
put_off_last start before door taken pieces over now moment wire wire' request asked has gives same heard asks after is =
    let last : WaitingSeen = record { find = record { number = now.taken; request = request; wire = wire' }; asked = asked; heard = moment } in
    let given = given_more start before door taken pieces over (open_places now) wire.place has.given gives.came gives.opened gives.placed in
    let place_is : record { number = length taken; place = wire.place } ≡ place_of last.find =
    ap (λ (n : ℕ). let p : OpenPlace = record { number = n; place = wire.place } in p) (sym has.count) ∙ ap (λ (n : ℕ). let p : OpenPlace = record { number = now.taken; place = n } in p) (sym same) in
    let waits : IsFindWaiting (taken ++ pieces ∷ []) last = record {
      open_still = record { pieces = pieces; gave = subst (λ (n : ℕ). slice_get (taken ++ pieces ∷ []) n ≡ Some pieces) (sym has.count) (get_last taken pieces); heard = heard };
      asks = asks;
    } in
    let put : PutsOff moment start (taken ++ pieces ∷ []) over now (record { taken = now.taken + 1; begun = now.begun; waiting = now.waiting ++ last ∷ [] }) door = record {
      last = last;
      waits = refl;
      heard = refl;
      number = refl;
      begun = refl;
      has = record {
        count = one_more_taken now.taken taken pieces has.count;
        given = subst (λ (opens : List OpenPlace). HasGiven start (taken ++ pieces ∷ []) over opens door) (sym (open_more now last))
            (subst (λ (p : OpenPlace). HasGiven start (taken ++ pieces ∷ []) over (open_places now ++ p ∷ []) door) place_is given);
        begun = begun_later taken pieces now.begun has.begun;
        waiting = All-push (IsFindWaiting (taken ++ pieces ∷ [])) now.waiting last (waiting_later taken pieces now.waiting has.waiting) waits;
      };
    } in
    subst (λ (seen : ConnectionsSeen). PutsOff moment start (taken ++ pieces ∷ []) over now seen door) (sym is) put

-- ---- a find that is begun

pub first_begun : (start door : DoorSeen) (taken : List (List (List ℕ))) (over : List OverConnection) (now : ConnectionsSeen) (first : WaitingSeen) (rest : List WaitingSeen)
    → now.begun ≡ None → now.waiting ≡ first ∷ rest → HasConnections start taken over now door
    → HasConnections start taken over (record { taken = now.taken; begun = Some first.find; waiting = rest }) door
first_begun start door taken over now first rest none is has =
    let all : All (IsFindWaiting taken) (first ∷ rest) = subst (All (IsFindWaiting taken)) is has.waiting in
    record {
      count = has.count;
      given = subst (λ (ws : List WaitingSeen). HasGiven start taken over (map (λ (one : WaitingSeen). place_of one.find) ws) door) is
          (subst (λ (b : Option FindSeen). HasGiven start taken over (option_to_list (option_map place_of b) ++ map (λ (one : WaitingSeen). place_of one.find) now.waiting) door) none has.given);
      begun = (All-head (IsFindWaiting taken) first rest all).open_still;
      waiting = All-tail (IsFindWaiting taken) first rest all;
    }

same_seen : (a b : ConnectionsSeen) → a.taken ≡ b.taken → a.begun ≡ b.begun → a.waiting ≡ b.waiting → a ≡ b
same_seen a b taken begun waiting =
    ap (λ (n : ℕ). let s : ConnectionsSeen = record { taken = n; begun = a.begun; waiting = a.waiting } in s) taken
    ∙ ap (λ (f : Option FindSeen). let s : ConnectionsSeen = record { taken = b.taken; begun = f; waiting = a.waiting } in s) begun
    ∙ ap (λ (ws : List WaitingSeen). let s : ConnectionsSeen = record { taken = b.taken; begun = b.begun; waiting = ws } in s) waiting

-- the one at the front
pub front_waits : {X Y : Type 0} (items : List X) (x : X) (f : X → Y) → 0 < length items → x ≡ slice_index_or items 0 x → (rest : List Y) × (map f items ≡ f x ∷ rest)
front_waits [] x f some is = absurd (omega (arith, some))
front_waits (first ∷ items) x f some is = (map f items, ap (λ y. f y ∷ map f items) (sym is))

pub begins_first : (before after : ConnectionsSeen) (first : WaitingSeen) (rest : List WaitingSeen) → before.waiting ≡ first ∷ rest → after.taken ≡ before.taken
    → after.begun ≡ Some first.find → after.waiting ≡ rest → BeginsFirst first.asked before after
begins_first before after first rest waited taken begun waiting = record {
  first = first;
  rest = rest;
  waited = waited;
  asks = refl;
  left = same_seen after (record { taken = before.taken; begun = Some first.find; waiting = rest }) taken begun waiting;
}

pub has_begun_first : (start door : DoorSeen) (taken : List (List (List ℕ))) (over : List OverConnection) (asked : AskedHashes) (before after : ConnectionsSeen)
    → before.begun ≡ None → BeginsFirst asked before after → HasConnections start taken over before door → HasConnections start taken over after door
has_begun_first start door taken over asked before after none begins has =
    subst (λ (seen : ConnectionsSeen). HasConnections start taken over seen door) (sym begins.left)
    (first_begun start door taken over before begins.first begins.rest none begins.waited has)

-- why a connection was answered at once for which memory was refused
pub refused_because : (received : Result HttpRequest RequestFault) (how : ConnectionEnd) (waiting : List WaitingSeen)
    → (how ≡ end.OutOfMemory) ⊎ ((message : AskedHashes) → ¬ IsHeardFind received message)
    → ((message : AskedHashes) → ¬ IsHeardFind received message) ⊎ (length waiting ≡ most_waiting) ⊎ (how ≡ end.OutOfMemory)
refused_because received how waiting (inl memory) = inr (inr memory)
refused_because received how waiting (inr other) = inl other

-- ---- by what the program sees

abbrev pub wire_by : {W : Type 0} → (W → ℕ) → (W → Option (List (List ℕ))) → (W → Option (List (List ℕ))) → (W → Option (List ℕ)) → (W → ℕ) → (W → ℕ) → W → WireSeen
wire_by place start left contents read_faults write_faults wire =
    wire_seen (place wire) (start wire) (left wire) (contents wire) (read_faults wire) (write_faults wire)

pub heard_over : (start before door door' : DoorSeen) (taken : List (List (List ℕ))) (pieces : List (List ℕ)) (over : List OverConnection) (now seen : ConnectionsSeen) (wire : WireSeen) (place : ℕ)
    (server : MirrorServed) (how : ConnectionEnd) → seen ≡ record now { taken = now.taken + 1 } → place ≡ wire.place → HasConnections start taken over now before → GivesWire pieces before door wire
    → (IsFresh pieces wire.start wire.left wire.contents wire.read_faults wire.write_faults
    → IsReturned (IsServed (IsMirrorResponseTo server.places server.wait server.fate) how pieces) place door.log door'.log)
    → door'.coming ≡ door.coming → AnswersOne (length taken) server how start (taken ++ pieces ∷ []) over seen door'
heard_over start before door door' taken pieces over now seen wire place server how counted same has gives returned coming =
    subst (λ (s : ConnectionsSeen). AnswersOne (length taken) server how start (taken ++ pieces ∷ []) over s door') (sym counted)
    (taken_over start before door door' taken pieces over now wire server how has gives
    (λ fresh. subst (λ (n : ℕ). IsReturned (IsServed (IsMirrorResponseTo server.places server.wait server.fate) how pieces) n door.log door'.log) same (returned fresh)) coming)

abbrev last_seen : ℕ → HttpRequest → WireSeen → AskedHashes → Moment → WaitingSeen
last_seen number request wire asked moment = record { find = record { number = number; request = request; wire = wire }; asked = asked; heard = moment }

pub put_off_seen : (now counted after : ConnectionsSeen) (number : ℕ) (request : HttpRequest) (wire : WireSeen) (asked : AskedHashes) (moment : Moment)
    → counted ≡ record now { taken = now.taken + 1 } → number ≡ now.taken
    → after ≡ record { taken = counted.taken; begun = counted.begun; waiting = counted.waiting ++ last_seen number request wire asked moment ∷ [] }
    → after ≡ record { taken = now.taken + 1; begun = now.begun; waiting = now.waiting ++ last_seen now.taken request wire asked moment ∷ [] }
put_off_seen now counted after number request wire asked moment is same put =
    put
    ∙ ap (λ (s : ConnectionsSeen). let t : ConnectionsSeen = record { taken = s.taken; begun = s.begun; waiting = s.waiting ++ last_seen number request wire asked moment ∷ [] } in t) is
    ∙ ap (λ (n : ℕ). let t : ConnectionsSeen = record { taken = now.taken + 1; begun = now.begun; waiting = now.waiting ++ last_seen n request wire asked moment ∷ [] } in t) same

pub heard_as : (received : Result HttpRequest RequestFault) (request : HttpRequest) (pieces : List (List ℕ)) (wire : WireSeen) → received ≡ Ok request
    → IsHeard received pieces wire.start wire.left wire.contents wire.read_faults wire.write_faults → IsHeard (Ok request) pieces wire.start wire.left wire.contents wire.read_faults wire.write_faults
heard_as received request pieces wire is heard = subst (λ (r : Result HttpRequest RequestFault). IsHeard r pieces wire.start wire.left wire.contents wire.read_faults wire.write_faults) is heard

pub asks_as : (received : Result HttpRequest RequestFault) (request : HttpRequest) (found : Option AskedHashes) (asked : AskedHashes) → received ≡ Ok request → found ≡ Some asked
    → IfSome found (IsHeardFind received) → IsHeardFind (Ok request) asked
asks_as received request found asked is some asks =
    subst (λ (r : Result HttpRequest RequestFault). IsHeardFind r asked) is (subst (λ (f : Option AskedHashes). IfSome f (IsHeardFind received)) some asks)
