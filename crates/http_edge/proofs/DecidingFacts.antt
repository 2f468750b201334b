-- What decides a request decides it whatever follows, and what the stages of a request come to.
use Rattle.std.proofs.Common.{◌≡◌, ◌≢◌, ℕ, ◌-◌, ◌<◌, ◌≤◌, false, List, ◌∷◌, ◌++◌, [], length, take, drop, Option, Some, None, refl, sym, ap, ◌∙◌, subst, arith, inl, inr, append_assoc, length-append}
use Rattle.std.specs.Prelude.{Result, Ok, Err}
use Rattle.std.proofs.lemmas.Bool.{cases_lt}
use Rattle.std.proofs.lemmas.List.{take-append-le, take_all, append-nil, length-drop}
use Rattle.httparse.specs.Grammar.{RequestHead, NeverHasRequest, HasNoRequest, MayBecomeRequest}
use Rattle.http_edge.specs.Fields.{content_type_said}
use Rattle.http_edge.specs.Heads.{IsRefusedRequest, IsOpenRequest}
use Rattle.http_edge.specs.Requests.{HasRequest, ReadsAsRequest, NeedsMore, RequestOutcome}
use Rattle.http_edge.specs.Deciding.{IsDecided, LacksSome, HasHead, IsStage, KeepsHead, StandsFor, Watching}
use Rattle.http_edge.specs.declared.deciding.Stage.{Stage}
use Rattle.http_edge.specs.declared.deciding.Stage.TheVariants.{Head, Body, Decided}
use Rattle.http_edge.specs.declared.faults.RequestFault.{RequestFault}
use Rattle.http_edge.specs.declared.faults.RequestFault.TheVariants as fault
use Rattle.http_edge.specs.declared.messages.HttpRequest.{HttpRequest}
use Rattle.http_edge.proofs.RequestFacts.{begins_append, has_append}
use Rattle.http_edge.proofs.ChunkOutcomes.{in_front}
use Rattle.http_edge.proofs.PlaceFacts.{open_at}

-- ---- more bytes change no answer

never_append : (text more : List ℕ) → NeverHasRequest text → NeverHasRequest (text ++ more)
never_append text more never further = subst HasNoRequest (sym (append_assoc text more further)) (never (more ++ further))

-- the front of a longer text is that of the text, or the front and some more
front_append : (n : ℕ) (text more : List ℕ) → (some : List ℕ) × (take n (text ++ more) ≡ take n text ++ some)
front_append n text more =
    elim (cases_lt n (length text)) as (λ _. (some : List ℕ) × (take n (text ++ more) ≡ take n text ++ some)) [
      | inl less ↦ ([], take-append-le n text more (omega (arith, less)) ∙ sym (append-nil (take n text)))
      | inr not ↦ (
        take (n - length text) more,
        in_front n (text ++ more) text more refl (omega (arith, not)) ∙ ap (λ (t : List ℕ). t ++ take (n - length text) more) (sym (take_all n text (omega (arith, not)))),
      )
    ]

refused_append : (bytes more : List ℕ) → IsRefusedRequest bytes → IsRefusedRequest (bytes ++ more)
refused_append bytes more (inl never) =
    let front = front_append 16384 bytes more in
    inl (subst NeverHasRequest (sym front.1) (never_append (take 16384 bytes) front.0 never))
refused_append bytes more (inr (head, rest, begins, bad)) = inr (head, rest ++ more, begins_append bytes more head rest begins, bad)

open_append : (bytes more : List ℕ) → 16384 ≤ length bytes → IsOpenRequest bytes → IsOpenRequest (bytes ++ more)
open_append bytes more long unread =
    let front : take 16384 (bytes ++ more) ≡ take 16384 bytes = take-append-le 16384 bytes more long in record {
      not_whole = subst HasNoRequest (sym front) unread.not_whole;
      may_be = subst MayBecomeRequest (sym front) unread.may_be;
    }

whole_append : (bytes more : List ℕ) (request : HttpRequest) → ReadsAsRequest bytes request → ReadsAsRequest (bytes ++ more) request
whole_append bytes more request reads = record {
  head = reads.head;
  rest = reads.rest ++ more;
  body_length = reads.body_length;
  has = has_append bytes more reads.head reads.rest (Some reads.body_length) reads.has;
  allowed = reads.allowed;
  whole = omega (arith, reads.whole, length-append reads.rest more);
  method = reads.method;
  target = reads.target;
  content_type = reads.content_type;
  body = reads.body ∙ sym (take-append-le reads.body_length reads.rest more reads.whole);
}

outcome_append : (bytes more : List ℕ) (outcome : Result HttpRequest RequestFault) → RequestOutcome bytes false outcome → RequestOutcome (bytes ++ more) false outcome
outcome_append bytes more (Ok request) is = whole_append bytes more request is
outcome_append bytes more (Err fault.ReadFault) is = tt
outcome_append bytes more (Err fault.Head) is = refused_append bytes more is
outcome_append bytes more (Err fault.HeadLimit) (long, is) = (omega (arith, long, length-append bytes more), open_append bytes more long is)
outcome_append bytes more (Err fault.NoLength) (head, rest, has) = (head, rest ++ more, has_append bytes more head rest None has)
outcome_append bytes more (Err (fault.BodyLimit n)) (head, rest, has, past) = (head, rest ++ more, has_append bytes more head rest (Some n) has, past)
outcome_append bytes more (Err fault.Cut) (ended, why) = cc
outcome_append bytes more (Err fault.OutOfMemory) is = tt

pub decided_append : (bytes more : List ℕ) → IsDecided bytes → IsDecided (bytes ++ more)
decided_append bytes more decided = record {
  outcome = decided.outcome;
  read = decided.read;
  memory = decided.memory;
  is = outcome_append bytes more decided.outcome decided.is;
}

-- ---- what decides

pub refused_decides : (bytes : List ℕ) → IsRefusedRequest bytes → IsDecided bytes
refused_decides bytes is = record { outcome = Err fault.Head; read = λ same. cc; memory = λ same. cc; is = is }

pub long_decides : (bytes : List ℕ) → 16384 ≤ length bytes → IsOpenRequest bytes → IsDecided bytes
long_decides bytes long is = record { outcome = Err fault.HeadLimit; read = λ same. cc; memory = λ same. cc; is = (long, is) }

-- a head in front of a body whose length is not known, or that is too long, or that is whole
pub unknown_decides : (text : List ℕ) (size : Option ℕ) (start : ℕ) → size ≡ None → HasHead text size start → IsDecided text
unknown_decides text size start none has = record {
  outcome = Err fault.NoLength;
  read = λ same. cc;
  memory = λ same. cc;
  is = (has.head, drop start text, subst (HasRequest text has.head (drop start text)) none has.has);
}

pub past_decides : (text : List ℕ) (size : Option ℕ) (n start : ℕ) → size ≡ Some n → 1048576 < n → HasHead text size start → IsDecided text
past_decides text size n start known past has = record {
  outcome = Err (fault.BodyLimit n);
  read = λ same. cc;
  memory = λ same. cc;
  is = (has.head, drop start text, subst (HasRequest text has.head (drop start text)) known has.has, past);
}

body_decides : (text : List ℕ) (head : RequestHead) (rest : List ℕ) (n : ℕ) → HasRequest text head rest (Some n) → n ≤ 1048576 → n ≤ length rest → IsDecided text
body_decides text head rest n has allowed whole =
    let request : HttpRequest = record { method = head.method; target = head.target; content_type = content_type_said head.fields; body = take n rest } in record {
      outcome = Ok request;
      read = λ same. cc;
      memory = λ same. cc;
      is = record {
        head = head;
        rest = rest;
        body_length = n;
        has = has;
        allowed = allowed;
        whole = whole;
        method = refl;
        target = refl;
        content_type = refl;
        body = refl;
      };
    }

pub whole_decides : (text : List ℕ) (size : Option ℕ) (n start : ℕ) → size ≡ Some n → n ≤ 1048576 → n ≤ length text - start → HasHead text size start → IsDecided text
whole_decides text size n start known allowed whole has =
    body_decides text has.head (drop start text) n (subst (HasRequest text has.head (drop start text)) known has.has) allowed
    (omega (arith, whole, length-drop start text))

-- ---- a body that is not whole

pub lacks_some : (text : List ℕ) (size : Option ℕ) (n start : ℕ) → size ≡ Some n → n ≤ 1048576 → length text - start < n → HasHead text size start
    → LacksSome text (n - (length text - start))
lacks_some text size n start known allowed short has = record {
  head = has.head;
  rest = drop start text;
  body_length = n;
  has = subst (HasRequest text has.head (drop start text)) known has.has;
  allowed = allowed;
  some = omega (arith, short);
  counted = omega (arith, short, length-drop start text);
}

-- one more byte of the body, and the last one
pub lacks_less : (bytes : List ℕ) (byte missing : ℕ) → 1 < missing → LacksSome bytes missing → LacksSome (bytes ++ byte ∷ []) (missing - 1)
lacks_less bytes byte missing more lacks = record {
  head = lacks.head;
  rest = lacks.rest ++ byte ∷ [];
  body_length = lacks.body_length;
  has = has_append bytes (byte ∷ []) lacks.head lacks.rest (Some lacks.body_length) lacks.has;
  allowed = lacks.allowed;
  some = omega (arith, more);
  counted = omega (arith, more, lacks.counted, length-append lacks.rest (byte ∷ []));
}

pub last_byte_decides : (bytes : List ℕ) (byte missing : ℕ) → missing ≤ 1 → LacksSome bytes missing → IsDecided (bytes ++ byte ∷ [])
last_byte_decides bytes byte missing last lacks =
    body_decides (bytes ++ byte ∷ []) lacks.head (lacks.rest ++ byte ∷ []) lacks.body_length
    (has_append bytes (byte ∷ []) lacks.head lacks.rest (Some lacks.body_length) lacks.has) lacks.allowed
    (omega (arith, last, lacks.counted, length-append lacks.rest (byte ∷ [])))

-- ---- what is not decided needs more

pub stage_needs : (bytes : List ℕ) (stage : Stage) → stage ≢ Decided → IsStage bytes stage → NeedsMore bytes
stage_needs bytes (Head place) not (short, is) = inl (short, open_at place bytes (omega arith) is)
stage_needs bytes (Body missing) not lacks = inr (record {
  head = lacks.head;
  rest = lacks.rest;
  body_length = lacks.body_length;
  has = lacks.has;
  allowed = lacks.allowed;
  short = omega (arith, lacks.some, lacks.counted);
})
stage_needs bytes Decided not is = absurd (not refl)

pub stage_decides : (bytes : List ℕ) (stage : Stage) → stage ≡ Decided → IsStage bytes stage → IsDecided bytes
stage_decides bytes stage same is = subst (IsStage bytes) same is

pub stands_decided : (watch : Watching) (bytes : List ℕ) → watch.stage ≡ Decided → IsDecided bytes → StandsFor watch bytes
stands_decided watch bytes same is = record {
  stage = subst (IsStage bytes) (sym same) is;
  kept = subst (KeepsHead watch bytes) (sym same) tt;
}
