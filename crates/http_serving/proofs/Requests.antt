-- What follows from a whole request: no refusal of a front of its bytes is right, and a request that a front of them is read as is the same.
use Rattle.std.proofs.Common.{◌≡◌, ℕ, ◌≤◌, Bool, true, false, List, [], ◌++◌, length, take, drop, Option, Some, None, IsTrue, refl, sym, ap, ◌∙◌, subst, arith, inl, inr, append_assoc, length-append}
use Rattle.std.proofs.lemmas.List.{append-nil, take-append-drop, take-take, take-append-le, take_at}
use Rattle.httparse.specs.Grammar.{Field, RequestHead, print_request, ReadsRequest}
use Rattle.httparse.proofs.GrammarLemmas.{request_prefix_free}
use Rattle.sb_outside.specs.Outside.{next_piece, bytes_left, prepended}
use Rattle.http_edge.specs.Fields.{content_type_said}
use Rattle.http_edge.specs.Heads.{BeginsRequest, HasGoodFields, HasBadFields, IsRefusedRequest, IsOpenRequest}
use Rattle.http_edge.specs.Requests.{Gives, request_length, HasRequest, ReadsAsRequest, LacksBody, IsRefusal}
use Rattle.http_edge.specs.declared.faults.RequestFault.{RequestFault}
use Rattle.http_edge.specs.declared.faults.RequestFault.TheVariants as fault
use Rattle.http_edge.specs.declared.messages.HttpRequest.{HttpRequest}
use Rattle.http_edge.specs.declared.messages.Status.{Status}
use Rattle.http_serving.specs.Serving.{refusal_status}

-- ---- bytes that are the front of a whole request

-- more bytes begin with a whole request, and the first of them were received: all, where the end came
pub record IsFrontOf (bytes whole : List ℕ) (ended : Bool) : Type 0 where
  pub lost : List ℕ
  pub parts : bytes ++ lost ≡ whole
  pub all : IsTrue ended → lost ≡ []

front_given : (bytes : List ℕ) (pieces : List (List ℕ)) (later : Option (List (List ℕ)))
    → Some (next_piece pieces) ≡ prepended bytes (bytes_left later) → IsFrontOf bytes (next_piece pieces) false
front_given bytes pieces None is = absurd cc
front_given bytes pieces (Some later) is = record {
  lost = next_piece later;
  parts = cc;
  all = λ ended. cc;
}

pub front_of_gives : (bytes : List ℕ) (ended : Bool) (pieces : List (List ℕ)) (later : Option (List (List ℕ)))
    → Gives bytes ended (Some pieces) later → IsFrontOf bytes (next_piece pieces) ended
front_of_gives bytes true pieces later gives = record { lost = []; parts = append-nil bytes ∙ sym gives.whole; all = λ ended. refl }
front_of_gives bytes false pieces later gives = front_given bytes pieces later gives.front

same_head : (bytes lost whole : List ℕ) (h k : RequestHead) (r q : List ℕ) → bytes ++ lost ≡ whole
    → BeginsRequest bytes h r → BeginsRequest whole k q → (h ≡ k) × (r ++ lost ≡ q)
same_head bytes lost whole h k r q parts first second =
    request_prefix_free bytes lost h k r q first.reads (subst (λ w. ReadsRequest w k q) (sym parts) second.reads)

bad_fields : (fields : List Field) → HasGoodFields fields → HasBadFields fields → ⊥
bad_fields fields good (inl many) = omega (arith, good.few, many)
bad_fields fields good (inr malformed) = good.length malformed

not_refused : (bytes whole : List ℕ) (ended : Bool) (request : HttpRequest) → ReadsAsRequest whole request → IsFrontOf bytes whole ended → IsRefusedRequest bytes → ⊥
not_refused bytes whole ended request reads front (inl never) =
    let is : take 16384 bytes ++ (drop 16384 bytes ++ front.lost) ≡ whole =
    sym (append_assoc (take 16384 bytes) (drop 16384 bytes) front.lost) ∙ ap (λ l. l ++ front.lost) (take-append-drop 16384 bytes) ∙ front.parts in
    never (drop 16384 bytes ++ front.lost) reads.head reads.rest (subst (λ w. ReadsRequest w reads.head reads.rest) (sym is) reads.has.begins.reads)
not_refused bytes whole ended request reads front (inr (head, rest, begins, bad)) =
    let same = same_head bytes front.lost whole head reads.head rest reads.rest front.parts begins reads.has.begins in
    bad_fields reads.head.fields reads.has.good (subst (λ h. HasBadFields h.fields) same.0 bad)

-- a head that is there whole stands in the first bytes
head_within : (bytes lost whole p rest : List ℕ) → bytes ++ lost ≡ whole → whole ≡ p ++ rest → length p ≤ length bytes → length p ≤ 16384
    → take 16384 bytes ≡ p ++ drop (length p) (take 16384 bytes)
head_within bytes lost whole p rest parts is short few =
    let front : take (length p) (take 16384 bytes) ≡ p =
    take-take (length p) 16384 bytes few ∙ sym (take-append-le (length p) bytes lost short) ∙ ap (take (length p)) (parts ∙ is) ∙ take_at p rest (length p) refl in
    sym (take-append-drop (length p) (take 16384 bytes)) ∙ ap (λ l. l ++ drop (length p) (take 16384 bytes)) front

not_open : (bytes whole : List ℕ) (ended : Bool) (request : HttpRequest) (reads : ReadsAsRequest whole request) → IsFrontOf bytes whole ended
    → length (print_request reads.head) ≤ length bytes → IsOpenRequest bytes → ⊥
not_open bytes whole ended request reads front short open_yet =
    let begins = reads.has.begins in
    open_yet.not_whole reads.head (drop (length (print_request reads.head)) (take 16384 bytes))
    (begins.reads.0, head_within bytes front.lost whole (print_request reads.head) reads.rest front.parts begins.reads.1 short begins.within)

same_size : (bytes whole : List ℕ) (ended : Bool) (request : HttpRequest) (reads : ReadsAsRequest whole request) → IsFrontOf bytes whole ended
    → (head : RequestHead) (rest : List ℕ) (size : Option ℕ) → HasRequest bytes head rest size → size ≡ Some reads.body_length
same_size bytes whole ended request reads front head rest size has =
    let same = same_head bytes front.lost whole head reads.head rest reads.rest front.parts has.begins reads.has.begins in
    sym has.length ∙ ap request_length same.0 ∙ reads.has.length

same_rest : (bytes whole : List ℕ) (ended : Bool) (request : HttpRequest) (reads : ReadsAsRequest whole request) (front : IsFrontOf bytes whole ended)
    → (head : RequestHead) (rest : List ℕ) (size : Option ℕ) → HasRequest bytes head rest size → rest ++ front.lost ≡ reads.rest
same_rest bytes whole ended request reads front head rest size has =
    (same_head bytes front.lost whole head reads.head rest reads.rest front.parts has.begins reads.has.begins).1

some_size : (m n : ℕ) → let known : Option ℕ = Some m in known ≡ Some n → m ≡ n
some_size m n is = cc

not_cut_body : (bytes whole : List ℕ) (ended : Bool) (request : HttpRequest) → ReadsAsRequest whole request → IsFrontOf bytes whole ended → IsTrue ended → LacksBody bytes → ⊥
not_cut_body bytes whole ended request reads front over lacks =
    let size : lacks.body_length ≡ reads.body_length = some_size _ _ (same_size bytes whole ended request reads front lacks.head lacks.rest (Some lacks.body_length) lacks.has) in
    let rest : lacks.rest ++ front.lost ≡ reads.rest = same_rest bytes whole ended request reads front lacks.head lacks.rest (Some lacks.body_length) lacks.has in
    let all : length front.lost ≡ 0 = ap length (front.all over) in
    omega (arith, size, all, ap length rest, length-append lacks.rest front.lost, lacks.short, reads.whole)

not_cut : (bytes whole : List ℕ) (ended : Bool) (request : HttpRequest) → ReadsAsRequest whole request → IsFrontOf bytes whole ended → IsRefusal bytes ended fault.Cut → ⊥
not_cut bytes whole ended request reads front (over, inl (short, open_yet)) =
    let is = reads.has.begins.reads.1 in
    let all : length front.lost ≡ 0 = ap length (front.all over) in
    not_open bytes whole ended request reads front
    (omega (arith, all, ap length front.parts, length-append bytes front.lost, ap length is, length-append (print_request reads.head) reads.rest)) open_yet
not_cut bytes whole ended request reads front (over, inr lacks) = not_cut_body bytes whole ended request reads front over lacks

pub no_status : (bytes whole : List ℕ) (ended : Bool) (request : HttpRequest) (refusal : RequestFault) (status : Status)
    → ReadsAsRequest whole request → IsFrontOf bytes whole ended → IsRefusal bytes ended refusal → refusal_status refusal ≡ Some status → ⊥
no_status bytes whole ended request fault.ReadFault status reads front is told = cc
no_status bytes whole ended request fault.Head status reads front is told = not_refused bytes whole ended request reads front is
no_status bytes whole ended request fault.HeadLimit status reads front is told =
    not_open bytes whole ended request reads front (omega (arith, is.0, reads.has.begins.within)) is.1
no_status bytes whole ended request fault.NoLength status reads front (head, rest, has) told =
    absurd (let size = same_size bytes whole ended request reads front head rest None has in cc)
no_status bytes whole ended request (fault.BodyLimit n) status reads front (head, rest, has, long) told =
    let size : n ≡ reads.body_length = some_size _ _ (same_size bytes whole ended request reads front head rest (Some n) has) in
    omega (arith, size, long, reads.allowed)
no_status bytes whole ended request fault.Cut status reads front is told = not_cut bytes whole ended request reads front is
no_status bytes whole ended request fault.OutOfMemory status reads front is told = cc

-- ---- the request is the same

same_body : (front lost rest : List ℕ) (m n : ℕ) → front ++ lost ≡ rest → m ≡ n → m ≤ length front → take m front ≡ take n rest
same_body front lost rest m n parts same few = sym (take-append-le m front lost few) ∙ ap (take m) parts ∙ ap (λ k. take k rest) same

pub same_request : (bytes whole : List ℕ) (ended : Bool) (received request : HttpRequest) → ReadsAsRequest bytes received → ReadsAsRequest whole request → IsFrontOf bytes whole ended
    → received ≡ request
same_request bytes whole ended received request first second front =
    let same = same_head bytes front.lost whole first.head second.head first.rest second.rest front.parts first.has.begins second.has.begins in
    let size : first.body_length ≡ second.body_length =
    some_size _ _ (same_size bytes whole ended request second front first.head first.rest (Some first.body_length) first.has) in
    let method : received.method ≡ request.method = first.method ∙ ap (λ h. h.method) same.0 ∙ sym second.method in
    let target : received.target ≡ request.target = first.target ∙ ap (λ h. h.target) same.0 ∙ sym second.target in
    let type : received.content_type ≡ request.content_type =
    first.content_type ∙ ap (λ h. content_type_said h.fields) same.0 ∙ sym second.content_type in
    let body : received.body ≡ request.body =
    first.body ∙ same_body first.rest front.lost second.rest first.body_length second.body_length same.1 size first.whole ∙ sym second.body in
    λ i. record { method = method i; target = target i; content_type = type i; body = body i }
