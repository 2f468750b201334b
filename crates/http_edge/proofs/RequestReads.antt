-- What was read of a request only while more was needed.
use Rattle.std.proofs.Common.{◌≡◌, ℕ, ◌≤◌, List, [], ◌∷◌, ◌++◌, length, take, drop, Bool, Some, refl, sym, ap, ◌∙◌, arith, inl, inr, length-append}
use Rattle.std.specs.Prelude.{Result, IsTrue, IsErrOf}
use Rattle.std.proofs.lemmas.List.{take_all}
use Rattle.std.proofs.lemmas.List.Elements.{All-nil, All-cons}
use Rattle.std.proofs.lemmas.Str.{IsUtf8-from_ascii}
use Rattle.std.proofs.lemmas.Str.Ascii.{IsAscii-cons, IsAscii-nil}
use Rattle.httparse.specs.Grammar.{lf, IsField, is_token_byte, is_uri_byte, RequestHead, IsRequestHead, print_request}
use Rattle.http_edge.specs.Heads.{IsOpenRequest}
use Rattle.http_edge.specs.Requests.{NeedsMore, ReadsToRequest}
use Rattle.http_edge.specs.SessionBytes.{ReadsWhile, IsShort}
use Rattle.http_edge.specs.Receiving.{IsPartsOf}
use Rattle.http_edge.specs.declared.faults.RequestFault.{RequestFault}
use Rattle.http_edge.specs.declared.faults.RequestFault.TheVariants.{ReadFault}
use Rattle.http_edge.specs.declared.messages.HttpRequest.{HttpRequest}
use Rattle.http_edge.specs.declared.requests.RequestParts.{RequestParts}
use Rattle.http_edge.proofs.HeadSizes.{request_some}
use Rattle.http_edge.proofs.RequestFacts.{request_short}
use Rattle.http_edge.proofs.ReadFacts.{reads_then}

-- ---- no bytes need more

a_request : RequestHead
a_request = record { blank = []; method = 65 ∷ []; target = 47 ∷ []; minor = 1; line_end = lf; fields = []; last = lf }

a_request_is : IsRequestHead a_request
unfolding a_request is_token_byte
a_request_is = record {
  method = (omega arith, All-cons (λ (b : ℕ). IsTrue (is_token_byte b)) 65 [] refl (All-nil (λ (b : ℕ). IsTrue (is_token_byte b))));
  target = (omega arith, All-cons (λ (b : ℕ). IsTrue (is_uri_byte b)) 47 [] refl (All-nil (λ (b : ℕ). IsTrue (is_uri_byte b))));
  target_text = IsUtf8-from_ascii (47 ∷ []) (IsAscii-cons 47 [] (omega arith) IsAscii-nil);
  minor = omega arith;
  fields = All-nil IsField;
}

nothing_open : (none : List ℕ) → none ≡ [] → IsOpenRequest none
nothing_open none is =
    let front : take 16384 none ≡ [] = take_all 16384 none (omega (arith, ap length is)) ∙ is in record {
      not_whole = λ head rest reads.
          omega (arith, request_some head reads.0, ap length (sym front ∙ reads.1), length-append (print_request head) rest);
      may_be = inl (print_request a_request ++ [], a_request, (a_request_is, ap (λ (t : List ℕ). t ++ (print_request a_request ++ [])) front));
    }

pub nothing_needs : NeedsMore []
nothing_needs = inl (omega arith, nothing_open [] refl)

-- ---- what the reads come to

pub reads_request : (bytes : List ℕ) (ended : Bool) (result : Result HttpRequest RequestFault) → ReadsWhile NeedsMore bytes
    → (IsTrue ended → NeedsMore bytes) → (IsErrOf result ReadFault → NeedsMore bytes) → ReadsToRequest bytes ended result
reads_request bytes ended result (inl nothing) end fault = record {
  before = [];
  last = [];
  parts = nothing;
  needed = nothing_needs;
  short = omega arith;
  end = end;
  fault = fault;
}
reads_request bytes ended result (inr one) end fault = record {
  before = one.before;
  last = one.last;
  parts = one.parts;
  needed = one.needed;
  short = one.short;
  end = end;
  fault = fault;
}

-- the head, and then a body that lacks some
pub short_needs : (text : List ℕ) (parts : RequestParts) (n : ℕ) → IsPartsOf text parts → parts.length ≡ Some n → n ≤ 1048576
    → (given : List ℕ) → IsShort (drop parts.start text) n given → NeedsMore (text ++ given)
short_needs text parts n is known allowed given short = inr (request_short text given parts n is known allowed short)

pub body_reads : (text given : List ℕ) (parts : RequestParts) (n : ℕ) → IsPartsOf text parts → parts.length ≡ Some n → n ≤ 1048576
    → ReadsWhile NeedsMore text → ReadsWhile (IsShort (drop parts.start text) n) given → ReadsWhile NeedsMore (text ++ given)
body_reads text given parts n is known allowed one two =
    reads_then NeedsMore (IsShort (drop parts.start text) n) text given (short_needs text parts n is known allowed) one two
