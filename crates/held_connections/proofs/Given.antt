-- A connection more that a door gave, and one more that is over.
use Rattle.std.proofs.Common.{◌≡◌, ℕ, zero, suc, ◌+◌, List, [], ◌∷◌, ◌++◌, length, map, refl, sym, ap, ◌∙◌, subst, Option, Some, None, inl, inr, arith, append_assoc}
use Rattle.std.specs.Prelude.{◌⊎◌, All, Contains, IfSome, slice_get, slice_set, option_map}
use Rattle.std.proofs.lemmas.Bool.{cases_eq}
use Rattle.std.proofs.lemmas.List.{append-nil, length-append}
use Rattle.std.proofs.lemmas.List.Elements.{All-cons, All-head, All-push, All-tail, Contains-append_left, Contains-append_right, Contains-append_cases}
use Rattle.sb_outside.specs.Connections.{open_connection}
use Rattle.sb_outside.specs.Outside.{IfTold, with_entry}
use Rattle.sb_outside.specs.declared.doors.Connection.{Connection}
use Rattle.http_serving.specs.Returning.{IsReturned}
use Rattle.http_serving.specs.Serving.{IsServed}
use Rattle.http_serving.specs.declared.ends.ConnectionEnd.{ConnectionEnd}
use Rattle.held_connections.specs.Over.{DoorView, HasEntryOfEach, HasHandedOut, IsKnownEntry, HasEndedRightly, HeldPlace, ServedConnection, RightOf}

-- ---- places of lists

pub get_front : {A : Type 0} (xs : List A) (y x : A) (k : ℕ) → slice_get xs k ≡ Some x → slice_get (xs ++ y ∷ []) k ≡ Some x
get_front [] y x k is = absurd (cc)
get_front (first ∷ xs) y x zero is = is
get_front (first ∷ xs) y x (suc k) is = get_front xs y x k is

pub get_last : {A : Type 0} (xs : List A) (y : A) → slice_get (xs ++ y ∷ []) (length xs) ≡ Some y
get_last [] y = refl
get_last (first ∷ xs) y = get_last xs y

get_back : {A : Type 0} (xs : List A) (y x : A) (k : ℕ) → (length xs ≡ k → ⊥) → slice_get (xs ++ y ∷ []) k ≡ Some x → slice_get xs k ≡ Some x
get_back [] y x zero apart is = absurd (apart refl)
get_back [] y x (suc k) apart is = is
get_back (first ∷ xs) y x zero apart is = is
get_back (first ∷ xs) y x (suc k) apart is = get_back xs y x k (λ e. apart (ap suc e)) is

get_set : {A : Type 0} (xs : List A) (y x : A) (k : ℕ) → slice_get (slice_set xs k y) k ≡ Some x → y ≡ x
get_set [] y x k is = absurd (cc)
get_set (first ∷ xs) y x zero is = cc
get_set (first ∷ xs) y x (suc k) is = get_set xs y x k is

get_other : {A : Type 0} (xs : List A) (y : A) (k other : ℕ) → (k ≡ other → ⊥) → slice_get (slice_set xs k y) other ≡ slice_get xs other
get_other [] y k other apart = refl
get_other (first ∷ xs) y zero zero apart = absurd (apart refl)
get_other (first ∷ xs) y zero (suc other) apart = refl
get_other (first ∷ xs) y (suc k) zero apart = refl
get_other (first ∷ xs) y (suc k) (suc other) apart = get_other xs y k other (λ e. apart (ap suc e))

set_length : {A : Type 0} (xs : List A) (y : A) (k : ℕ) → length (slice_set xs k y) ≡ length xs
set_length [] y k = refl
set_length (first ∷ xs) y zero = refl
set_length (first ∷ xs) y (suc k) = ap suc (set_length xs y k)

all_middle : {A : Type 0} (P : A → Type 0) (front : List A) (gone : A) (back : List A) → All P (front ++ gone ∷ back) → P gone
all_middle P [] gone back all = All-head P gone back all
all_middle P (first ∷ front) gone back all = all_middle P front gone back (All-tail P first (front ++ gone ∷ back) all)

all_without : {A : Type 0} (P : A → Type 0) (front : List A) (gone : A) (back : List A) → All P (front ++ gone ∷ back) → All P (front ++ back)
all_without P [] gone back all = All-tail P gone back all
all_without P (first ∷ front) gone back all =
    All-cons P first (front ++ back) (All-head P first (front ++ gone ∷ back) all) (all_without P front gone back (All-tail P first (front ++ gone ∷ back) all))

length_without : {A : Type 0} (front : List A) (gone : A) (back : List A) → length (front ++ gone ∷ back) ≡ length (front ++ back) + 1
length_without front gone back = omega (arith, length-append front (gone ∷ back), length-append front back)

-- ---- places of open connections

abbrev pub places_in : List HeldPlace → List ℕ
places_in opens = map (λ (one : HeldPlace). one.place) opens

here : (n : ℕ) (ns : List ℕ) → Contains (n ∷ ns) n
here n ns = (0, omega arith, refl)

pub last_place_in : (opens : List HeldPlace) (one : HeldPlace) → Contains (places_in (opens ++ one ∷ [])) one.place
last_place_in [] one = here one.place []
last_place_in (first ∷ opens) one = later first.place (places_in (opens ++ one ∷ [])) one.place (last_place_in opens one)
  where
    later : (n : ℕ) (ns : List ℕ) (m : ℕ) → Contains ns m → Contains (n ∷ ns) m
    later n ns m is = Contains-append_right (n ∷ []) ns m is

places_more : (opens : List HeldPlace) (one : HeldPlace) → places_in (opens ++ one ∷ []) ≡ places_in opens ++ one.place ∷ []
places_more [] one = refl
places_more (first ∷ opens) one = ap (λ (ns : List ℕ). first.place ∷ ns) (places_more opens one)

pub still_open : (opens : List HeldPlace) (one : HeldPlace) (place : ℕ) → Contains (places_in opens) place → Contains (places_in (opens ++ one ∷ [])) place
still_open opens one place is =
    subst (λ (ns : List ℕ). Contains ns place) (sym (places_more opens one)) (Contains-append_left (places_in opens) (one.place ∷ []) place is)

places_joined : (front back : List HeldPlace) → places_in (front ++ back) ≡ places_in front ++ places_in back
places_joined [] back = refl
places_joined (first ∷ front) back = ap (λ (ns : List ℕ). first.place ∷ ns) (places_joined front back)

of_later : (n m : ℕ) (ns : List ℕ) → (n ≡ m → ⊥) → Contains (n ∷ ns) m → Contains ns m
of_later n m ns apart is = go (Contains-append_cases (n ∷ []) ns m is)
  where
    go : Contains (n ∷ []) m ⊎ Contains ns m → Contains ns m
    go (inl (zero, within, same)) = absurd (apart same)
    go (inl (suc k, within, same)) = absurd (omega (arith, within))
    go (inr rest) = rest

pub others_open : (front back : List HeldPlace) (one : HeldPlace) (place : ℕ) → (one.place ≡ place → ⊥) → Contains (places_in (front ++ one ∷ back)) place → Contains (places_in (front ++ back)) place
others_open front back one place apart is =
    subst (λ (ns : List ℕ). Contains ns place) (sym (places_joined front back))
    (go (Contains-append_cases (places_in front) (one.place ∷ places_in back) place (subst (λ (ns : List ℕ). Contains ns place) (places_joined front (one ∷ back)) is)))
  where
    go : Contains (places_in front) place ⊎ Contains (one.place ∷ places_in back) place → Contains (places_in front ++ places_in back) place
    go (inl before) = Contains-append_left (places_in front) (places_in back) place before
    go (inr after) = Contains-append_right (places_in front) (places_in back) place (of_later one.place place (places_in back) apart after)

-- ---- one more is taken

pub over_later : {S : Type 0} (Right : RightOf S) (taken : List (List (List ℕ))) (pieces : List (List ℕ)) (one : ServedConnection S) → HasEndedRightly Right taken one → HasEndedRightly Right (taken ++ pieces ∷ []) one
over_later Right taken pieces one over = record { pieces = over.pieces; gave = get_front taken pieces over.pieces one.number over.gave; served = over.served }

said_later : {S : Type 0} (Right : RightOf S) (earlier : List Connection) (taken : List (List (List ℕ))) (pieces : List (List ℕ)) (over : List (ServedConnection S)) (opens : List HeldPlace) (one : HeldPlace) (place : ℕ) (entry : Connection)
    → IsKnownEntry Right earlier taken over opens place entry → IsKnownEntry Right earlier (taken ++ pieces ∷ []) over (opens ++ one ∷ []) place entry
said_later Right earlier taken pieces over opens one place entry (inl before) = inl before
said_later Right earlier taken pieces over opens one place entry (inr (inl is)) =
    inr (inl (record { one = is.one; among = is.among; stands = is.stands; is = is.is; right = over_later Right taken pieces is.one is.right }))
said_later Right earlier taken pieces over opens one place entry (inr (inr open_yet)) = inr (inr (still_open opens one place open_yet))

entries_more : {S : Type 0} (Right : RightOf S) (log : Option (List Connection)) (taken : List (List (List ℕ))) (pieces : List (List ℕ)) (over : List (ServedConnection S)) (opens : List HeldPlace) (entries : List Connection)
    → HasEntryOfEach Right log taken over opens entries
    → HasEntryOfEach Right log (taken ++ pieces ∷ []) over (opens ++ record { number = length taken; place = length entries } ∷ []) (entries ++ open_connection ∷ [])
entries_more Right log taken pieces over opens entries has =
    let last : HeldPlace = record { number = length taken; place = length entries } in
    record {
      earlier = has.earlier;
      was = has.was;
      count = omega (arith, length-append entries (open_connection ∷ []), length-append taken (pieces ∷ []), has.count);
      placed = All-push (λ (one : HeldPlace). one.place ≡ length has.earlier + one.number) opens last has.placed has.count;
      said = λ place entry is. go last place entry is (cases_eq (length entries) place);
    }
  where
    go : (last : HeldPlace) (place : ℕ) (entry : Connection) → slice_get (entries ++ open_connection ∷ []) place ≡ Some entry → (length entries ≡ place) ⊎ (length entries ≡ place → ⊥)
        → IsKnownEntry Right has.earlier (taken ++ pieces ∷ []) over (opens ++ record { number = length taken; place = length entries } ∷ []) place entry
    go last place entry is (inl same) = inr (inr (subst (λ (n : ℕ). Contains (places_in (opens ++ record { number = length taken; place = length entries } ∷ [])) n) same (last_place_in opens (record { number = length taken; place = length entries }))))
    go last place entry is (inr apart) =
        said_later Right has.earlier taken pieces over opens (record { number = length taken; place = length entries }) place entry
        (has.said place entry (get_back entries open_connection entry place apart is))

came_more : (taken : List (List (List ℕ))) (pieces : List (List ℕ)) (first before after : Option (List (List (List ℕ))))
    → first ≡ option_map (λ later. taken ++ later) before → before ≡ option_map (λ later. pieces ∷ later) after → first ≡ option_map (λ later. (taken ++ pieces ∷ []) ++ later) after
came_more taken pieces first None None came next = came
came_more taken pieces first None (Some after) came next = absurd (cc)
came_more taken pieces first (Some before) None came next = absurd (cc)
came_more taken pieces first (Some before) (Some after) came next =
    let is : before ≡ pieces ∷ after = cc in
    came ∙ ap (λ (l : List (List (List ℕ))). Some (taken ++ l)) is ∙ ap (λ (l : List (List (List ℕ))). Some l) (sym (append_assoc taken (pieces ∷ []) after))

logged_more : {S : Type 0} (Right : RightOf S) (start : Option (List Connection)) (taken : List (List (List ℕ))) (pieces : List (List ℕ)) (over : List (ServedConnection S)) (opens : List HeldPlace) (place : ℕ) (log log' : Option (List Connection))
    → IfSome log (HasEntryOfEach Right start taken over opens) → IfTold log' (with_entry log open_connection) → IfSome log (λ entries. place ≡ length entries)
    → IfSome log' (HasEntryOfEach Right start (taken ++ pieces ∷ []) over (opens ++ record { number = length taken; place = place } ∷ []))
logged_more Right start taken pieces over opens place log None has told placed = tt
logged_more Right start taken pieces over opens place None (Some entries') has told placed = absurd (cc)
logged_more Right start taken pieces over opens place (Some entries) (Some entries') has told placed =
    let is : entries' ≡ entries ++ open_connection ∷ [] = cc in
    subst (λ (l : List Connection). HasEntryOfEach Right start (taken ++ pieces ∷ []) over (opens ++ record { number = length taken; place = place } ∷ []) l) (sym is)
    (subst (λ (n : ℕ). HasEntryOfEach Right start (taken ++ pieces ∷ []) over (opens ++ record { number = length taken; place = n } ∷ []) (entries ++ open_connection ∷ [])) (sym placed)
    (entries_more Right start taken pieces over opens entries has))

pub given_more : {S : Type 0} (Right : RightOf S) (start before door : DoorView) (taken : List (List (List ℕ))) (pieces : List (List ℕ)) (over : List (ServedConnection S)) (opens : List HeldPlace) (place : ℕ)
    → HasHandedOut Right start taken over opens before
    → before.coming ≡ option_map (λ later. pieces ∷ later) door.coming → IfTold door.log (with_entry before.log open_connection) → IfSome before.log (λ entries. place ≡ length entries)
    → HasHandedOut Right start (taken ++ pieces ∷ []) over (opens ++ record { number = length taken; place = place } ∷ []) door
given_more Right start before door taken pieces over opens place given came told placed = record {
  came = came_more taken pieces start.coming before.coming door.coming given.came came;
  all = omega (arith, length-append opens (record { number = length taken; place = place } ∷ []), length-append taken (pieces ∷ []), given.all);
  logged = logged_more Right start.log taken pieces over opens place before.log door.log given.logged told placed;
}

-- ---- one more is over

said_over : {S : Type 0} (Right : RightOf S) (earlier : List Connection) (taken : List (List (List ℕ))) (over : List (ServedConnection S)) (one : ServedConnection S) (front back : List HeldPlace) (gone : HeldPlace) (place : ℕ) (entry : Connection)
    → (gone.place ≡ place → ⊥) → IsKnownEntry Right earlier taken over (front ++ gone ∷ back) place entry → IsKnownEntry Right earlier taken (over ++ one ∷ []) (front ++ back) place entry
said_over Right earlier taken over one front back gone place entry apart (inl before) = inl before
said_over Right earlier taken over one front back gone place entry apart (inr (inl is)) =
    inr (inl (record { one = is.one; among = Contains-append_left over (one ∷ []) is.one is.among; stands = is.stands; is = is.is; right = is.right }))
said_over Right earlier taken over one front back gone place entry apart (inr (inr open_yet)) = inr (inr (others_open front back gone place apart open_yet))

last_in : {A : Type 0} (xs : List A) (x : A) → Contains (xs ++ x ∷ []) x
last_in xs x = Contains-append_right xs (x ∷ []) x (0, omega arith, refl)

entries_over : {S : Type 0} (Right : RightOf S) (log : Option (List Connection)) (taken : List (List (List ℕ))) (over : List (ServedConnection S)) (one : ServedConnection S) (front back : List HeldPlace) (gone : HeldPlace) (entries : List Connection)
    → HasEntryOfEach Right log taken over (front ++ gone ∷ back) entries → one.number ≡ gone.number → HasEndedRightly Right taken one
    → HasEntryOfEach Right log taken (over ++ one ∷ []) (front ++ back) (slice_set entries gone.place one.entry)
entries_over Right log taken over one front back gone entries has same right = record {
  earlier = has.earlier;
  was = has.was;
  count = set_length entries one.entry gone.place ∙ has.count;
  placed = all_without (λ (it : HeldPlace). it.place ≡ length has.earlier + it.number) front gone back has.placed;
  said = λ place entry is. go place entry is (cases_eq gone.place place);
}
  where
    stands : gone.place ≡ length has.earlier + gone.number
    stands = all_middle (λ (it : HeldPlace). it.place ≡ length has.earlier + it.number) front gone back has.placed

    go : (place : ℕ) (entry : Connection) → slice_get (slice_set entries gone.place one.entry) place ≡ Some entry → (gone.place ≡ place) ⊎ (gone.place ≡ place → ⊥)
        → IsKnownEntry Right has.earlier taken (over ++ one ∷ []) (front ++ back) place entry
    go place entry is (inl at) = inr (inl (record {
      one = one;
      among = last_in over one;
      stands = sym at ∙ stands ∙ ap (λ n. length has.earlier + n) (sym same);
      is = sym (get_set entries one.entry entry place (subst (λ n. slice_get (slice_set entries n one.entry) place ≡ Some entry) at is));
      right = right;
    }))
    go place entry is (inr apart) =
        said_over Right has.earlier taken over one front back gone place entry apart (has.said place entry (sym (get_other entries one.entry gone.place place apart) ∙ is))

-- What a connection that is given back leaves: which it is, and what is left.
pub record LeavesOne {S : Type 0} (Right : RightOf S) (number : ℕ) (server server' : S) (how : ConnectionEnd) (start : DoorView) (taken : List (List (List ℕ))) (over : List (ServedConnection S))
    (opens : List HeldPlace) (door : DoorView) : Type 0 where
  pub one : ServedConnection S
  pub number_is : one.number ≡ number
  pub server_is : one.server ≡ server
  pub after_is : one.after ≡ server'
  pub how_is : one.how ≡ how
  pub given : HasHandedOut Right start taken (over ++ one ∷ []) opens door

logged_over : {S : Type 0} (Right : RightOf S) (start : Option (List Connection)) (taken : List (List (List ℕ))) (over : List (ServedConnection S)) (one : ServedConnection S) (front back : List HeldPlace) (gone : HeldPlace) (log log' : Option (List Connection))
    → IfSome log (HasEntryOfEach Right start taken over (front ++ gone ∷ back)) → one.number ≡ gone.number → IfSome log' (λ _. HasEndedRightly Right taken one)
    → IfTold log' (option_map (λ entries. slice_set entries gone.place one.entry) log)
    → IfSome log' (HasEntryOfEach Right start taken (over ++ one ∷ []) (front ++ back))
logged_over Right start taken over one front back gone log None has same right told = tt
logged_over Right start taken over one front back gone None (Some entries') has same right told = absurd (cc)
logged_over Right start taken over one front back gone (Some entries) (Some entries') has same right told =
    let is : entries' ≡ slice_set entries gone.place one.entry = cc in
    subst (λ (l : List Connection). HasEntryOfEach Right start taken (over ++ one ∷ []) (front ++ back) l) (sym is)
    (entries_over Right start taken over one front back gone entries has same right)

told_right : {S : Type 0} (Right : RightOf S) (log : Option (List Connection)) (taken : List (List (List ℕ))) (pieces : List (List ℕ)) (one : ServedConnection S) → slice_get taken one.number ≡ Some pieces
    → IfSome log (λ _. IsServed (Right one.server one.after) one.how pieces one.entry) → IfSome log (λ _. HasEndedRightly Right taken one)
told_right Right None taken pieces one gave served = tt
told_right Right (Some entries) taken pieces one gave served = record { pieces = pieces; gave = gave; served = served }

pub given_back : {S : Type 0} (Right : RightOf S) (start door door' : DoorView) (taken : List (List (List ℕ))) (over : List (ServedConnection S)) (front back : List HeldPlace) (gone : HeldPlace) (server server' : S)
    (how : ConnectionEnd) (pieces : List (List ℕ)) → HasHandedOut Right start taken over (front ++ gone ∷ back) door → slice_get taken gone.number ≡ Some pieces
    → IsReturned (IsServed (Right server server') how pieces) gone.place door.log door'.log → door'.coming ≡ door.coming
    → LeavesOne Right gone.number server server' how start taken over (front ++ back) door'
given_back {S} Right start door door' taken over front back gone server server' how pieces given gave returned coming =
    let one : ServedConnection S = record { number = gone.number; server = server; after = server'; how = how; entry = returned.entry } in
    record {
      one = one;
      number_is = refl;
      server_is = refl;
      after_is = refl;
      how_is = refl;
      given = record {
        came = given.came ∙ ap (λ (c : Option (List (List (List ℕ)))). option_map (λ later. taken ++ later) c) (sym coming);
        all = omega (arith, length-append over (one ∷ []), length_without front gone back, given.all);
        logged = logged_over Right start.log taken over one front back gone door.log door'.log given.logged refl (told_right Right door'.log taken pieces one gave returned.says) returned.logged;
      };
    }

-- ---- those that are open, in another order

-- these are as many open connections, and the same
pub record AreAsOpen (opens opens' : List HeldPlace) : Type 0 where
  pub count : length opens' ≡ length opens
  pub placed : (earlier : ℕ) → All (λ (one : HeldPlace). one.place ≡ earlier + one.number) opens → All (λ (one : HeldPlace). one.place ≡ earlier + one.number) opens'
  pub places : (place : ℕ) → Contains (places_in opens) place → Contains (places_in opens') place

pub last_is_first : (opens : List HeldPlace) (one : HeldPlace) → AreAsOpen (opens ++ one ∷ []) (one ∷ opens)
last_is_first opens one = record {
  count = omega (arith, length-append opens (one ∷ []));
  placed = λ earlier all. go (λ (it : HeldPlace). it.place ≡ earlier + it.number) all;
  places = λ place is. turned place (Contains-append_cases (places_in opens) (one.place ∷ []) place (subst (λ (ns : List ℕ). Contains ns place) (places_more opens one) is));
}
  where
    go : (P : HeldPlace → Type 0) → All P (opens ++ one ∷ []) → All P (one ∷ opens)
    go P all = All-cons P one opens (all_middle P opens one [] all) (subst (All P) (append-nil opens) (all_without P opens one [] all))

    turned : (place : ℕ) → Contains (places_in opens) place ⊎ Contains (one.place ∷ []) place → Contains (one.place ∷ places_in opens) place
    turned place (inl before) = Contains-append_right (one.place ∷ []) (places_in opens) place before
    turned place (inr last) = Contains-append_left (one.place ∷ []) (places_in opens) place last

pub first_is_last : (opens : List HeldPlace) (one : HeldPlace) → AreAsOpen (one ∷ opens) (opens ++ one ∷ [])
first_is_last opens one = record {
  count = omega (arith, length-append opens (one ∷ []));
  placed = λ earlier all. go (λ (it : HeldPlace). it.place ≡ earlier + it.number) all;
  places = λ place is. subst (λ (ns : List ℕ). Contains ns place) (sym (places_more opens one)) (turned place (Contains-append_cases (one.place ∷ []) (places_in opens) place is));
}
  where
    go : (P : HeldPlace → Type 0) → All P (one ∷ opens) → All P (opens ++ one ∷ [])
    go P all = All-push P opens one (All-tail P one opens all) (All-head P one opens all)

    turned : (place : ℕ) → Contains (one.place ∷ []) place ⊎ Contains (places_in opens) place → Contains (places_in opens ++ one.place ∷ []) place
    turned place (inl first) = Contains-append_right (places_in opens) (one.place ∷ []) place first
    turned place (inr later) = Contains-append_left (places_in opens) (one.place ∷ []) place later

said_as : {S : Type 0} (Right : RightOf S) (earlier : List Connection) (taken : List (List (List ℕ))) (over : List (ServedConnection S)) (opens opens' : List HeldPlace) (place : ℕ) (entry : Connection)
    → AreAsOpen opens opens' → IsKnownEntry Right earlier taken over opens place entry → IsKnownEntry Right earlier taken over opens' place entry
said_as Right earlier taken over opens opens' place entry as_open (inl before) = inl before
said_as Right earlier taken over opens opens' place entry as_open (inr (inl is)) = inr (inl is)
said_as Right earlier taken over opens opens' place entry as_open (inr (inr open_yet)) = inr (inr (as_open.places place open_yet))

logged_as : {S : Type 0} (Right : RightOf S) (start : Option (List Connection)) (taken : List (List (List ℕ))) (over : List (ServedConnection S)) (opens opens' : List HeldPlace) (log : Option (List Connection))
    → AreAsOpen opens opens' → IfSome log (HasEntryOfEach Right start taken over opens) → IfSome log (HasEntryOfEach Right start taken over opens')
logged_as Right start taken over opens opens' None as_open has = tt
logged_as Right start taken over opens opens' (Some entries) as_open has = record {
  earlier = has.earlier;
  was = has.was;
  count = has.count;
  placed = as_open.placed (length has.earlier) has.placed;
  said = λ place entry is. said_as Right has.earlier taken over opens opens' place entry as_open (has.said place entry is);
}

pub given_as : {S : Type 0} (Right : RightOf S) (start door : DoorView) (taken : List (List (List ℕ))) (over : List (ServedConnection S)) (opens opens' : List HeldPlace)
    → AreAsOpen opens opens' → HasHandedOut Right start taken over opens door → HasHandedOut Right start taken over opens' door
given_as Right start door taken over opens opens' as_open given = record {
  came = given.came;
  all = ap (λ (n : ℕ). length over + n) as_open.count ∙ given.all;
  logged = logged_as Right start.log taken over opens opens' door.log as_open given.logged;
}
