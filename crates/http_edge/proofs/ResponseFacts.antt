-- What is known of the head of a response stands when more bytes follow.
use Rattle.std.proofs.Common.{◌≡◌, ◌≢◌, ℕ, ◌<◌, ◌≤◌, List, ◌++◌, length, take, drop, Bool, true, false, Option, Ok, Err, refl, sym, ap, ◌∙◌, subst, arith, inl, inr, append_assoc, length-append}
use Rattle.std.proofs.lemmas.List.{take-append-drop, take-take, drop-append-le}
use Rattle.std.specs.Prelude.{Result, IfOk}
use Rattle.httparse.specs.Grammar.{ResponseHead, print_response, NeverHasResponse}
use Rattle.sb_model.specs.declared.memory.OutOfMemory.{OutOfMemory}
use Rattle.http_edge.specs.Heads.{BeginsResponse, IsRefusedResponse, IsOpenResponse, head_bytes}
use Rattle.http_edge.specs.Outcomes.{HasResponse, HasSuccess, HasWhole, HasBody, framing_of, IsFault, BytesOutcome, LacksRest, HasLongBody, HasWrongChunk, IsRightDigest}
use Rattle.http_edge.specs.Chunks.{IsWholeBody}
use Rattle.http_edge.specs.ChunkSteps.{IsFaultOfBody, IsFaultOfChunks}
use Rattle.http_edge.specs.SessionBytes.{IsResponsePartsOf, IsResponseStep, IsDigestCompared, IsFaultOfHead, ReceivedOutcome}
use Rattle.http_edge.specs.declared.session_bytes.ReceiveFault.TheVariants.{Fault}
use Rattle.http_edge.specs.declared.faults.ExchangeFault.{ExchangeFault}
use Rattle.http_edge.specs.declared.faults.ExchangeFault.TheVariants as fault
use Rattle.http_edge.specs.declared.fields.Framing.TheVariants.{ByLength, Chunked, Unframed}
use Rattle.http_edge.specs.declared.response_heads.ResponseParts.{ResponseParts}
use Rattle.http_edge.specs.declared.response_heads.ResponseStep.{ResponseStep}
use Rattle.http_edge.specs.declared.response_heads.ResponseStep.TheVariants.{Whole, Refused, Open}

begins_append : (bytes more : List ℕ) (head : ResponseHead) (rest : List ℕ) → BeginsResponse bytes head rest → BeginsResponse (bytes ++ more) head (rest ++ more)
begins_append bytes more head rest begins = record {
  reads = (begins.reads.0, ap (λ text. text ++ more) begins.reads.1 ∙ append_assoc (print_response head) rest more);
  within = begins.within;
}

pub has_append : (bytes more : List ℕ) (head : ResponseHead) (rest : List ℕ) → HasResponse bytes head rest → HasResponse (bytes ++ more) head (rest ++ more)
has_append bytes more head rest has = record {
  begins = begins_append bytes more head rest has.begins;
  good = has.good;
}

parts_append : (text more : List ℕ) (parts : ResponseParts) → IsResponsePartsOf text parts → IsResponsePartsOf (text ++ more) parts
parts_append text more parts is = record {
  head = is.head;
  has = subst (λ rest. HasResponse (text ++ more) is.head rest) (sym (drop-append-le parts.start text more is.within)) (has_append text more is.head (drop parts.start text) is.has);
  within = omega (arith, is.within, length-append text more);
  status = is.status;
  framing = is.framing;
  digest = is.digest;
}

refused_append : (text more : List ℕ) → head_bytes text ≡ text → head_bytes (text ++ more) ≡ text → IsRefusedResponse text → IsRefusedResponse (text ++ more)
refused_append text more whole front (inl never) = inl (subst NeverHasResponse (whole ∙ sym front) never)
refused_append text more whole front (inr (head, rest, begins, bad)) = inr (head, rest ++ more, begins_append text more head rest begins, bad)

step_append : (text more : List ℕ) (step : ResponseStep) → step ≢ Open → head_bytes text ≡ text → head_bytes (text ++ more) ≡ text → IsResponseStep text step → IsResponseStep (text ++ more) step
step_append text more (Whole parts) some whole front is = parts_append text more parts is
step_append text more Refused some whole front is = refused_append text more whole front is
step_append text more Open some whole front is = absurd (some refl)

step_of_front : (text : List ℕ) (step : ResponseStep) → step ≢ Open → IsResponseStep (take 16384 text) step → IsResponseStep text step
step_of_front text step some is =
    let parts = take-append-drop 16384 text in
    let twice : take 16384 (take 16384 text) ≡ take 16384 text = take-take 16384 16384 text (omega arith) in
    subst (λ whole. IsResponseStep whole step) parts
    (step_append (take 16384 text) (drop 16384 text) step some twice (ap (take 16384) parts) is)

-- what the front of a text decides, the text does
pub response_of_front : (text front : List ℕ) (result : Result ResponseStep OutOfMemory) → front ≡ take 16384 text → result ≢ Ok Open
    → IfOk result (λ step. IsResponseStep front step) → IfOk result (λ step. IsResponseStep text step)
response_of_front text front (Ok step) is some says = step_of_front text step (λ is-open. some (ap Ok is-open)) (subst (λ f. IsResponseStep f step) is says)
response_of_front text front (Err refused) is some says = tt

pub refused_response : (text slice : List ℕ) (step : ResponseStep) → slice ≡ text → step ≡ Refused → IsResponseStep slice step → IsRefusedResponse text
refused_response text slice step same is says = subst IsRefusedResponse same (subst (λ s. IsResponseStep slice s) is says)

pub open_response : (text slice : List ℕ) (step : ResponseStep) → slice ≡ text → step ≡ Open → IsResponseStep slice step → IsOpenResponse text
open_response text slice step same is says = subst IsOpenResponse same (subst (λ s. IsResponseStep slice s) is says)

-- ---- what follows a head

pub success_of : (text : List ℕ) (parts : ResponseParts) (given : List ℕ) (is : IsResponsePartsOf text parts) → parts.status ≡ 200
    → HasSuccess (text ++ given) is.head (drop parts.start text ++ given)
success_of text parts given is status = record {
  response = has_append text given is.head (drop parts.start text) is.has;
  success = sym is.status ∙ status;
}

whole_of : (text given : List ℕ) (parts : ResponseParts) (n : ℕ) → IsResponsePartsOf text parts → parts.status ≡ 200 → parts.framing ≡ ByLength n → n ≤ 201326592
    → n ≤ length (drop parts.start text ++ given) → HasWhole (text ++ given) (take n (drop parts.start text ++ given)) parts.digest
whole_of text given parts n is status framing allowed enough = record {
  head = is.head;
  rest = drop parts.start text ++ given;
  success = success_of text parts given is status;
  has = subst (λ f. HasBody f (drop parts.start text ++ given) (take n (drop parts.start text ++ given))) (sym (is.framing ∙ framing)) (allowed, enough, refl);
  gives = is.digest;
}

-- what the digest says of a whole body is the outcome
compared_whole : (need ended : Bool) (bytes body : List ℕ) (given : Option (List ℕ)) (answer : Result (List ℕ) ExchangeFault) → HasWhole bytes body given
    → IsDigestCompared need body given answer → BytesOutcome need bytes ended answer
compared_whole need ended bytes body given (Ok passed) whole says = (
  given,
  subst (λ b. HasWhole bytes b given) (sym says.0) whole,
  subst (λ b. IsRightDigest need b given) (sym says.0) says.1,
)
compared_whole need ended bytes body given (Err fault.NoDigest) whole says = (body, subst (HasWhole bytes body) says.0 whole, says.1)
compared_whole need ended bytes body given (Err (fault.Digest got other)) whole says = (body, subst (HasWhole bytes body) says.0 whole, says.1, says.2)
compared_whole need ended bytes body given (Err fault.Link) whole says = absurd says
compared_whole need ended bytes body given (Err fault.Head) whole says = absurd says
compared_whole need ended bytes body given (Err fault.HeadLimit) whole says = absurd says
compared_whole need ended bytes body given (Err (fault.Status other)) whole says = absurd says
compared_whole need ended bytes body given (Err fault.NoLength) whole says = absurd says
compared_whole need ended bytes body given (Err (fault.BodyLimit other)) whole says = absurd says
compared_whole need ended bytes body given (Err fault.Cut) whole says = absurd says
compared_whole need ended bytes body given (Err (fault.Chunk other)) whole says = absurd says

pub compared : (need : Bool) (text given : List ℕ) (parts : ResponseParts) (n : ℕ) (body : List ℕ) (answer : Result (List ℕ) ExchangeFault) → IsResponsePartsOf text parts
    → parts.status ≡ 200 → parts.framing ≡ ByLength n → n ≤ 201326592 → n ≤ length (drop parts.start text ++ given) → body ≡ take n (drop parts.start text ++ given)
    → IsDigestCompared need body parts.digest answer → BytesOutcome need (text ++ given) false answer
compared need text given parts n body answer is status framing allowed enough body-is says =
    compared_whole need false (text ++ given) body parts.digest answer
    (subst (λ b. HasWhole (text ++ given) b parts.digest) (sym body-is) (whole_of text given parts n is status framing allowed enough)) says

-- the same of a chunked body
pub compared_chunks : (need : Bool) (text given : List ℕ) (parts : ResponseParts) (body : List ℕ) (answer : Result (List ℕ) ExchangeFault) → IsResponsePartsOf text parts
    → parts.status ≡ 200 → parts.framing ≡ Chunked → IsWholeBody (drop parts.start text ++ given) body → IsDigestCompared need body parts.digest answer
    → BytesOutcome need (text ++ given) false answer
compared_chunks need text given parts body answer is status framing whole says =
    compared_whole need false (text ++ given) body parts.digest answer
    (record {
      head = is.head;
      rest = drop parts.start text ++ given;
      success = success_of text parts given is status;
      has = subst (λ f. HasBody f (drop parts.start text ++ given) body) (sym (is.framing ∙ framing)) whole;
      gives = is.digest;
    })
    says

success_here : (text : List ℕ) (parts : ResponseParts) (is : IsResponsePartsOf text parts) → parts.status ≡ 200 → HasSuccess text is.head (drop parts.start text)
success_here text parts is status = record { response = is.has; success = sym is.status ∙ status }

pub long_body : (need ended : Bool) (text : List ℕ) (parts : ResponseParts) (n : ℕ) → IsResponsePartsOf text parts → parts.status ≡ 200 → parts.framing ≡ ByLength n → 201326592 < n
    → BytesOutcome need text ended (Err (fault.BodyLimit n))
long_body need ended text parts n is status framing past = (
  is.head,
  drop parts.start text,
  success_here text parts is status,
  subst (λ f. HasLongBody f (drop parts.start text) n) (sym (is.framing ∙ framing)) (refl, past),
)

pub cut_body : (need : Bool) (text given : List ℕ) (parts : ResponseParts) (n : ℕ) → IsResponsePartsOf text parts → parts.status ≡ 200 → parts.framing ≡ ByLength n → n ≤ 201326592
    → length (drop parts.start text ++ given) < n → BytesOutcome need (text ++ given) true (Err fault.Cut)
cut_body need text given parts n is status framing allowed short = (
  refl,
  inr (
    is.head,
    drop parts.start text ++ given,
    success_of text parts given is status,
    subst (λ f. LacksRest f (drop parts.start text ++ given)) (sym (is.framing ∙ framing)) (allowed, short),
  ),
)

pub other_status : (need ended : Bool) (text : List ℕ) (parts : ResponseParts) → IsResponsePartsOf text parts → parts.status ≢ 200
    → BytesOutcome need text ended (Err (fault.Status parts.status))
other_status need ended text parts is other = (is.head, drop parts.start text, is.has, sym is.status, other)

pub unframed : (need ended : Bool) (text : List ℕ) (parts : ResponseParts) → IsResponsePartsOf text parts → parts.status ≡ 200 → parts.framing ≡ Unframed
    → BytesOutcome need text ended (Err fault.NoLength)
unframed need ended text parts is status framing = (is.head, drop parts.start text, success_here text parts is status, is.framing ∙ framing)

-- a fault of a chunked body is the outcome
pub chunked_fault : (need ended failed : Bool) (text given : List ℕ) (parts : ResponseParts) (why : ExchangeFault) → IsResponsePartsOf text parts → parts.status ≡ 200
    → parts.framing ≡ Chunked → IsFaultOfChunks (drop parts.start text ++ given) ended failed (Fault why) → ReceivedOutcome need (text ++ given) ended failed (Err why)
chunked_fault need ended true text given parts why is status framing says = ap Err says
chunked_fault need ended false text given parts why is status framing says = of_body why says
  where
    rest : List ℕ
    rest = drop parts.start text ++ given

    success : HasSuccess (text ++ given) is.head rest
    success = success_of text parts given is status

    chunks : framing_of is.head.fields ≡ Chunked
    chunks = is.framing ∙ framing

    of_body : (why : ExchangeFault) → IsFaultOfBody rest ended why → IsFault need (text ++ given) ended why
    of_body (fault.BodyLimit n) says = (is.head, rest, success, subst (λ f. HasLongBody f rest n) (sym chunks) says)
    of_body fault.Cut says = (says.0, inr (is.head, rest, success, subst (λ f. LacksRest f rest) (sym chunks) says.1))
    of_body (fault.Chunk number) says = (is.head, rest, success, subst (λ f. HasWrongChunk f rest number) (sym chunks) says)
    of_body fault.Link says = absurd says
    of_body fault.Head says = absurd says
    of_body fault.HeadLimit says = absurd says
    of_body (fault.Status status) says = absurd says
    of_body fault.NoLength says = absurd says
    of_body fault.NoDigest says = absurd says
    of_body (fault.Digest got other) says = absurd says

-- a fault of the head is the outcome
pub received_fault : (need : Bool) (bytes : List ℕ) (ended failed : Bool) (why : ExchangeFault) → IsFaultOfHead bytes ended failed (Fault why) → ReceivedOutcome need bytes ended failed (Err why)
received_fault need bytes ended true why is = ap Err is
received_fault need bytes ended false why is = is need
