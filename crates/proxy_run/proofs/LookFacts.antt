-- Facts that the steps of look-ups share.
use Rattle.std.proofs.Common.{◌≡◌, ◌≢◌, ◌+◌, ◌-◌, ℕ, zero, suc, Bool, true, false, List, [], ◌∷◌, ◌++◌, drop, take, length, Option, Some, None, Ok, inl, inr, refl, sym, ap, ◌∙◌, subst, append_assoc, arith}
use Rattle.std.specs.Prelude.{◌||◌, ◌⊎◌, All, min, IfSome, IsSome}
use Rattle.std.proofs.lemmas.Grind.{flat_map-append}
use Rattle.std.proofs.lemmas.List.Elements.{All-nil, All-tail}
use Rattle.find_desk.specs.Desk.{DeskStart, looked_up}
use Rattle.find_desk.specs.Events.{DeskEvent}
use Rattle.find_desk.specs.Verdicts.{HasAskedFor, IsLookIn}
use Rattle.find_desk.specs.declared.desk.EndedFind.{EndedFind}
use Rattle.held_connections.specs.Held.{HeardView}
use Rattle.held_connections.specs.Over.{ServedConnection}
use Rattle.http_edge.specs.declared.messages.HttpRequest.{HttpRequest}
use Rattle.http_serving.specs.declared.ends.ConnectionEnd.{ConnectionEnd}
use Rattle.http_serving.specs.declared.ends.ConnectionEnd.TheVariants as end
use Rattle.proxy_looks.specs.Settled.{AreLooksAsFar, AreLooksOf, HasAskedForAll}
use Rattle.proxy_looks.specs.Urls.{open_hits}
use Rattle.proxy_run.specs.LookAllowed.{IsRefusedLook}
use Rattle.proxy_run.specs.LookSoFar.{HasOutputFailed, IsHandOf}
use Rattle.proxy_run.specs.LookState.{HandLook, HeldLook, open_of}
use Rattle.proxy_run.specs.LookSteps.{IsAskedByEnded}
use Rattle.proxy_serving.specs.Response.{ProxyServed}
use Rattle.sb_outside.specs.Outside.{Rose, appended}
use Rattle.url_checker.specs.declared.findings.Hit.{Hit}
use Rattle.url_checker.specs.declared.looking.Looks.{Looks}

-- ---- what was written, and then more

appended_twice : (known : Option (List ℕ)) (first next : List ℕ) → appended (appended known first) next ≡ appended known (first ++ next)
appended_twice None first next = refl
appended_twice (Some bytes) first next = ap (λ (b : List ℕ). Some b) (append_assoc bytes first next)

pub printed_more : (before now now' : Option (List ℕ)) (printed more : List ℕ) → now ≡ appended before printed → now' ≡ appended now more → now' ≡ appended before (printed ++ more)
printed_more before now now' printed more was is = is ∙ ap (λ (o : Option (List ℕ)). appended o more) was ∙ appended_twice before printed more

-- ---- faults

failed_twice : (before between after : ℕ) → Rose before between → Rose between after → Rose before after
failed_twice before between after first next = omega (arith, first, next)

pub output_failed_more : (was more : Bool) (before between after : ℕ) → HasOutputFailed was before between → HasOutputFailed more between after → HasOutputFailed (was || more) before after
output_failed_more true true before between after first next = failed_twice before between after first next
output_failed_more true false before between after first next = subst (λ (n : ℕ). Rose before n) (sym next) first
output_failed_more false true before between after first next = subst (λ (n : ℕ). Rose n after) first next
output_failed_more false false before between after first next = next ∙ first

-- ---- the connection in hand

pub hand_number : (heard : Option HeardView) (hand : Option HandLook) (one : HandLook) (number : ℕ) → IsHandOf heard hand → hand ≡ Some one → IsSome heard → IfSome heard (λ heard. heard.number ≡ number)
    → number ≡ one.number
hand_number (Some heard) (Some hand) one number are is some which = sym which ∙ sym are.0 ∙ ap (λ (h : HandLook). h.number) (some_same is)
  where
    some_same : {A : Type 0} {a b : A} → Some a ≡ Some b → a ≡ b
    some_same e = cc
hand_number (Some heard) None one number are is some which = absurd are
hand_number None (Some hand) one number are is some which = absurd are
hand_number None None one number are is some which = cc

-- what is said of one that was refused
pub refused_says : (heard : Option HeardView) (hand : Option HandLook) (one : HandLook) (served : ServedConnection ProxyServed) (how : ConnectionEnd) → IsHandOf heard hand → hand ≡ Some one → IsSome heard
    → served.how ≡ how → IfSome heard (λ heard. (how ≡ end.OutOfMemory) ⊎ ((request : HttpRequest) → heard.received ≢ Ok request)) → IsRefusedLook one served
refused_says (Some heard) (Some hand) one served how are is some ends (inl memory) = inl (ends ∙ memory)
refused_says (Some heard) (Some hand) one served how are is some ends (inr none) =
    let same : one.received ≡ heard.received = ap (λ (h : HandLook). h.received) (sym (same_of is)) ∙ are.1 in inr (λ request e. none request (sym same ∙ e))
  where
    same_of : {A : Type 0} {a b : A} → Some a ≡ Some b → a ≡ b
    same_of e = cc
refused_says (Some heard) None one served how are is some ends said = absurd are
refused_says None (Some hand) one served how are is some ends said = absurd are
refused_says None None one served how are is some ends said = cc

-- ---- looks

look_stays : (start : DeskStart) (events more : List DeskEvent) (hits : List Hit) (look : Looks) → IsLookIn start events hits look → IsLookIn start (events ++ more) hits look
look_stays start events more hits look is = record {
  before = is.before;
  after = is.after ++ more;
  now = is.now;
  splits = ap (λ (all : List DeskEvent). all ++ more) is.splits ∙ append_assoc is.before (looked_up is.now hits ∷ is.after) more;
  is = is.is;
}

pub looks_stay_more : (start : DeskStart) (events more : List DeskEvent) (hits : List (List Hit)) (looks : List Looks) → AreLooksOf start events hits looks → AreLooksOf start (events ++ more) hits looks
looks_stay_more start events more [] [] are = are
looks_stay_more start events more [] (look ∷ looks) are = absurd are
looks_stay_more start events more (hits ∷ all) [] are = absurd are
looks_stay_more start events more (hits ∷ all) (look ∷ looks) are = (look_stays start events more hits look are.0, looks_stay_more start events more all looks are.1)

pub looks_together : (start : DeskStart) (events : List DeskEvent) (hits hits' : List (List Hit)) (looks looks' : List Looks)
    → AreLooksOf start events hits looks → AreLooksOf start events hits' looks' → AreLooksOf start events (hits ++ hits') (looks ++ looks')
looks_together start events [] hits' [] looks' are are' = are'
looks_together start events [] hits' (look ∷ looks) looks' are are' = absurd are
looks_together start events (hits ∷ all) hits' [] looks' are are' = absurd are
looks_together start events (hits ∷ all) hits' (look ∷ looks) looks' are are' = (are.0, looks_together start events all hits' looks looks' are.1 are')

pub looks_count : (start : DeskStart) (events : List DeskEvent) (hits : List (List Hit)) (looks : List Looks) → AreLooksOf start events hits looks → length looks ≡ length hits
looks_count start events [] [] are = refl
looks_count start events [] (look ∷ looks) are = absurd are
looks_count start events (hits ∷ all) [] are = absurd are
looks_count start events (hits ∷ all) (look ∷ looks) are = ap suc (looks_count start events all looks are.1)

-- those of the first, and those behind
pub looks_behind : (start : DeskStart) (events : List DeskEvent) (hits rest : List (List Hit)) (looks : List Looks) → AreLooksOf start events (hits ++ rest) looks
    → AreLooksOf start events rest (drop (length hits) looks)
looks_behind start events [] rest looks are = are
looks_behind start events (hits ∷ all) rest [] are = absurd are
looks_behind start events (hits ∷ all) rest (look ∷ looks) are = looks_behind start events all rest looks are.1

pub looks_in_front : (start : DeskStart) (events : List DeskEvent) (hits rest : List (List Hit)) (looks : List Looks) → AreLooksOf start events (hits ++ rest) looks
    → AreLooksOf start events hits (take (length hits) looks)
looks_in_front start events [] rest looks are = tt
looks_in_front start events (hits ∷ all) rest [] are = absurd are
looks_in_front start events (hits ∷ all) rest (look ∷ looks) are = (are.0, looks_in_front start events all rest looks are.1)

-- as many as there are of both
pub looks_as_far : (start : DeskStart) (events : List DeskEvent) (hits rest : List (List Hit)) (looks : List Looks) (n : ℕ) → AreLooksOf start events (hits ++ rest) looks
    → AreLooksAsFar start events hits (take n looks)
looks_as_far start events [] rest looks n are = tt
looks_as_far start events (hits ∷ all) rest [] n are = absurd are
looks_as_far start events (hits ∷ all) rest (look ∷ looks) zero are = tt
looks_as_far start events (hits ∷ all) rest (look ∷ looks) (suc n) are = (are.0, looks_as_far start events all rest looks n are.1)

-- ---- drops and takes

drop_none : {A : Type 0} (n : ℕ) (xs : List A) → xs ≡ [] → drop n xs ≡ []
drop_none zero xs none = none
drop_none (suc n) [] none = refl
drop_none (suc n) (x ∷ xs) none = cc

pub drop_sum : {A : Type 0} (m n : ℕ) (xs : List A) → drop m (drop n xs) ≡ drop (n + m) xs
drop_sum m zero xs = let same : m ≡ 0 + m = omega (arith) in ap (λ (k : ℕ). drop k xs) same
drop_sum m (suc n) [] = drop_none m [] refl ∙ sym (drop_none (suc n + m) [] refl)
drop_sum m (suc n) (x ∷ xs) = let same : suc (n + m) ≡ suc n + m = omega (arith) in drop_sum m n xs ∙ ap (λ (k : ℕ). drop k (x ∷ xs)) same

take_none : {A : Type 0} (n : ℕ) (xs : List A) → xs ≡ [] → take n xs ≡ []
take_none zero xs none = refl
take_none (suc n) [] none = refl
take_none (suc n) (x ∷ xs) none = cc

-- what lies between two places, if there is any
pub between_is : {A : Type 0} (place asked : ℕ) (xs : List A) → take (asked - min place asked) (drop (min place asked) xs) ≡ take (asked - place) (drop place xs)
between_is zero asked xs = let same : min 0 asked ≡ 0 = omega (arith) in ap (λ (n : ℕ). take (asked - n) (drop n xs)) same
between_is (suc place) zero xs =
    let first : 0 - min (suc place) 0 ≡ 0 = omega (arith) in
    let second : 0 ≡ 0 - suc place = omega (arith) in
    ap (λ (n : ℕ). take n (drop (min (suc place) 0) xs)) first ∙ ap (λ (n : ℕ). take n (drop (suc place) xs)) second
between_is (suc place) (suc asked) [] =
    take_none (suc asked - min (suc place) (suc asked)) (drop (min (suc place) (suc asked)) []) (drop_none (min (suc place) (suc asked)) [] refl)
    ∙ sym (take_none (suc asked - suc place) (drop (suc place) []) refl)
between_is (suc place) (suc asked) (x ∷ xs) =
    let least : min (suc place) (suc asked) ≡ suc (min place asked) = omega (arith) in
    let first : suc asked - suc (min place asked) ≡ asked - min place asked = omega (arith) in
    let second : asked - place ≡ suc asked - suc place = omega (arith) in
    ap (λ (n : ℕ). take (suc asked - n) (drop n (x ∷ xs))) least ∙ ap (λ (n : ℕ). take n (drop (min place asked) xs)) first ∙ between_is place asked xs ∙ ap (λ (n : ℕ). take n (drop place xs)) second

pub sliced : (place asked : ℕ) (past : List Looks) (first asked' : ℕ) (slice : List Looks) → first ≡ min place asked → asked' ≡ asked → slice ≡ past
    → take (asked' - first) (drop first slice) ≡ take (asked - place) (drop place past)
sliced place asked past first asked' slice least same is =
    ap (λ (n : ℕ). take (asked' - n) (drop n slice)) least ∙ ap (λ (n : ℕ). take (n - min place asked) (drop (min place asked) slice)) same
    ∙ ap (λ (xs : List Looks). take (asked - min place asked) (drop (min place asked) xs)) is ∙ between_is place asked past

pub all_between : {A : Type 0} (P : A → Type 0) (place asked : ℕ) (xs : List A) → All P (take asked xs) → All P (take (asked - place) (drop place xs))
all_between P zero asked xs all = let same : asked ≡ asked - 0 = omega (arith) in subst (λ (n : ℕ). All P (take n xs)) same all
all_between P (suc place) zero xs all = let none : 0 ≡ 0 - suc place = omega (arith) in subst (λ (n : ℕ). All P (take n (drop (suc place) xs))) none (All-nil P)
all_between P (suc place) (suc asked) [] all = subst (λ ys. All P ys) (sym (take_none (suc asked - suc place) [] refl)) (All-nil P)
all_between P (suc place) (suc asked) (x ∷ xs) all =
    let same : asked - place ≡ suc asked - suc place = omega (arith) in
    subst (λ (n : ℕ). All P (take n (drop place xs))) same (all_between P place asked xs (All-tail P x (take asked xs) all))

pub asked_by_ended : (ended : Option EndedFind) (place asked : ℕ) (past : List Looks) → IsAskedByEnded ended asked past → HasAskedForAll (take (asked - place) (drop place past)) ended
asked_by_ended None place asked past is = absurd is
asked_by_ended (Some ended) place asked past is = all_between (HasAskedFor ended.asked) place asked past is

-- ---- the hits of look-ups

pub open_of_append : (all more : List HeldLook) → open_of (all ++ more) ≡ open_of all ++ open_of more
open_of_append all more = flat_map-append (λ (one : HeldLook). open_hits one.urls) all more
