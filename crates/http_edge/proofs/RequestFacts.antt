-- What is known of the head of a request stands when more bytes follow.
use Rattle.std.proofs.Common.{◌≡◌, ◌≢◌, ℕ, ◌-◌, ◌<◌, ◌≤◌, List, ◌++◌, length, take, drop, Option, Some, Ok, Err, refl, sym, ap, ◌∙◌, subst, arith, inl, inr, append_assoc, length-append}
use Rattle.std.proofs.lemmas.List.{take-append-drop, take-take, drop-append-le, take_rest}
use Rattle.httparse.specs.Grammar.{RequestHead, print_request, NeverHasRequest}
use Rattle.http_edge.specs.declared.receiving.Stop.{Stop}
use Rattle.http_edge.specs.declared.receiving.Stop.TheVariants.{Ended, Failed}
use Rattle.http_edge.specs.declared.receiving.Stop.TheVariants as stop
use Rattle.http_edge.specs.Heads.{BeginsRequest, IsRefusedRequest, IsOpenRequest, head_bytes}
use Rattle.std.specs.Prelude.{Result, IfOk}
use Rattle.sb_model.specs.declared.memory.OutOfMemory.{OutOfMemory}
use Rattle.http_edge.specs.declared.messages.HttpRequest.{HttpRequest}
use Rattle.http_edge.specs.Requests.{HasRequest, ReadsAsRequest, LacksBody}
use Rattle.http_edge.specs.Receiving.{IsPartsOf, IsRequestStep}
use Rattle.http_edge.specs.declared.requests.RequestParts.{RequestParts}
use Rattle.http_edge.specs.declared.requests.RequestStep.{RequestStep}
use Rattle.http_edge.specs.declared.requests.RequestStep.TheVariants.{Whole, Refused, Open}

pub begins_append : (bytes more : List ℕ) (head : RequestHead) (rest : List ℕ) → BeginsRequest bytes head rest → BeginsRequest (bytes ++ more) head (rest ++ more)
begins_append bytes more head rest begins = record {
  reads = (begins.reads.0, ap (λ text. text ++ more) begins.reads.1 ∙ append_assoc (print_request head) rest more);
  within = begins.within;
}

pub has_append : (bytes more : List ℕ) (head : RequestHead) (rest : List ℕ) (size : Option ℕ) → HasRequest bytes head rest size → HasRequest (bytes ++ more) head (rest ++ more) size
has_append bytes more head rest size has = record {
  begins = begins_append bytes more head rest has.begins;
  good = has.good;
  length = has.length;
}

pub parts_append : (text more : List ℕ) (parts : RequestParts) → IsPartsOf text parts → IsPartsOf (text ++ more) parts
parts_append text more parts is = record {
  head = is.head;
  has = subst (λ rest. HasRequest (text ++ more) is.head rest parts.length) (sym (drop-append-le parts.start text more is.within)) (has_append text more is.head (drop parts.start text) parts.length is.has);
  within = omega (arith, is.within, length-append text more);
  method = is.method;
  target = is.target;
  content_type = is.content_type;
}

refused_append : (text more : List ℕ) → head_bytes text ≡ text → head_bytes (text ++ more) ≡ text → IsRefusedRequest text → IsRefusedRequest (text ++ more)
refused_append text more whole front (inl never) = inl (subst NeverHasRequest (whole ∙ sym front) never)
refused_append text more whole front (inr (head, rest, begins, bad)) = inr (head, rest ++ more, begins_append text more head rest begins, bad)

step_append : (text more : List ℕ) (step : RequestStep) → step ≢ Open → head_bytes text ≡ text → head_bytes (text ++ more) ≡ text → IsRequestStep text step → IsRequestStep (text ++ more) step
step_append text more (Whole parts) some whole front is = parts_append text more parts is
step_append text more Refused some whole front is = refused_append text more whole front is
step_append text more Open some whole front is = absurd (some refl)

-- what the front of a text decides, the text does
pub step_of_front : (text : List ℕ) (step : RequestStep) → step ≢ Open → IsRequestStep (take 16384 text) step → IsRequestStep text step
step_of_front text step some is =
    let parts = take-append-drop 16384 text in
    let twice : take 16384 (take 16384 text) ≡ take 16384 text = take-take 16384 16384 text (omega arith) in
    subst (λ whole. IsRequestStep whole step) parts
    (step_append (take 16384 text) (drop 16384 text) step some twice (ap (take 16384) parts) is)

pub result_of_front : (text front : List ℕ) (result : Result RequestStep OutOfMemory) → front ≡ take 16384 text → result ≢ Ok Open
    → IfOk result (λ step. IsRequestStep front step) → IfOk result (λ step. IsRequestStep text step)
result_of_front text front (Ok step) is some says = step_of_front text step (λ is-open. some (ap Ok is-open)) (subst (λ f. IsRequestStep f step) is says)
result_of_front text front (Err refused) is some says = tt

-- the body is whole
pub request_whole : (text given : List ℕ) (parts : RequestParts) (n : ℕ) (request : HttpRequest) → IsPartsOf text parts → parts.length ≡ Some n → n ≤ 1048576
    → n ≤ length (drop parts.start text ++ given) → request.method ≡ parts.method → request.target ≡ parts.target → request.content_type ≡ parts.content_type
    → request.body ≡ take n (drop parts.start text ++ given) → ReadsAsRequest (text ++ given) request
request_whole text given parts n request is known allowed whole method target type body = record {
  head = is.head;
  rest = drop parts.start text ++ given;
  body_length = n;
  has = subst (λ size. HasRequest (text ++ given) is.head (drop parts.start text ++ given) size) known (has_append text given is.head (drop parts.start text) parts.length is.has);
  allowed = allowed;
  whole = whole;
  method = method ∙ is.method;
  target = target ∙ is.target;
  content_type = type ∙ is.content_type;
  body = body;
}

-- the body is not whole
pub request_short : (text given : List ℕ) (parts : RequestParts) (n : ℕ) → IsPartsOf text parts → parts.length ≡ Some n → n ≤ 1048576
    → length (drop parts.start text ++ given) < n → LacksBody (text ++ given)
request_short text given parts n is known allowed short = record {
  head = is.head;
  rest = drop parts.start text ++ given;
  body_length = n;
  has = subst (λ size. HasRequest (text ++ given) is.head (drop parts.start text ++ given) size) known (has_append text given is.head (drop parts.start text) parts.length is.has);
  allowed = allowed;
  short = short;
}

pub refused_step : (text slice : List ℕ) (step : RequestStep) → slice ≡ text → step ≡ Refused → IsRequestStep slice step → IsRefusedRequest text
refused_step text slice step same is says = subst IsRefusedRequest same (subst (λ s. IsRequestStep slice s) is says)

pub open_step : (text slice : List ℕ) (step : RequestStep) → slice ≡ text → step ≡ Open → IsRequestStep slice step → IsOpenRequest text
open_step text slice step same is says = subst IsOpenRequest same (subst (λ s. IsRequestStep slice s) is says)

-- a part of a slice from a place on
pub rest_of : (body slice text : List ℕ) (n : ℕ) → body ≡ take (length slice - n) (drop n slice) → slice ≡ text → body ≡ drop n text
rest_of body slice text n is same = is ∙ take_rest slice n ∙ ap (drop n) same

pub failed_not_ended : (why : Stop) → why ≡ Failed → let result : Result (Unit {0}) Stop = Err why in result ≢ Err Ended
failed_not_ended why is same = cc

pub refused_not_ended : (why : Stop) → why ≡ stop.OutOfMemory → let result : Result (Unit {0}) Stop = Err why in result ≢ Err Ended
refused_not_ended why is same = cc
