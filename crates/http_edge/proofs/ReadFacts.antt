-- What was read only while more was needed, and what decides nothing yet.
use Rattle.std.proofs.Common.{◌≡◌, ℕ, ◌-◌, ◌≤◌, List, [], ◌∷◌, ◌++◌, length, take, drop, Bool, true, false, None, refl, sym, ap, ◌∙◌, subst, arith, inl, inr, append_assoc}
use Rattle.std.specs.Prelude.{Ok, Err, IsTrue}
use Rattle.std.specs.Char.{is_ascii_digit}
use Rattle.std.proofs.lemmas.List.{append-nil, take_all, take-append-drop}
use Rattle.std.proofs.lemmas.List.Elements.{All-nil, All-cons}
use Rattle.httparse.specs.Grammar.{lf, IsField, ResponseHead, IsResponseHead, print_response, is_value_byte, status_code}
use Rattle.httparse.proofs.GrammarLemmas.{response_unique}
use Rattle.http_edge.specs.Heads.{HasGoodFields, HasBadFields, BeginsResponse, IsRefusedResponse, IsOpenResponse}
use Rattle.http_edge.specs.ChunkSteps.{IsReadTo, IsOpenWith, IsOpenBodyWith}
use Rattle.http_edge.specs.Outcomes.{HasResponse, HasSuccess, HasBody, HasLongBody, LacksRest, HasWrongChunk, framing_of, IsUndecided, ReadsToDecision}
use Rattle.http_edge.specs.SessionBytes.{ReadsWhile, ReadsOnly, IsShort, IsOpenHead, IsResponsePartsOf}
use Rattle.http_edge.specs.declared.chunks.ChunkPlace.{ChunkPlace}
use Rattle.http_edge.specs.declared.fields.Framing.{Framing}
use Rattle.http_edge.specs.declared.fields.Framing.TheVariants.{ByLength, Chunked, Unframed}
use Rattle.http_edge.specs.declared.faults.ExchangeFault.TheVariants as fault
use Rattle.http_edge.specs.declared.response_heads.ResponseParts.{ResponseParts}
use Rattle.http_edge.proofs.HeadSizes.{response_some}
use Rattle.http_edge.proofs.ResponseFacts.{success_of}
use Rattle.http_edge.proofs.ChunkFacts.{step_read}
use Rattle.http_edge.proofs.ChunkOutcomes.{in_front, whole_or_open, open_or_long, open_or_bad}

-- ---- reads, one after the other

-- one more read, after some that did not give what was needed
pub read_on : (needs : List ℕ → Type 0) (so_far more : List ℕ) → needs so_far → length more ≤ 65536 → ReadsWhile needs (so_far ++ more)
read_on needs so_far more needed short = inr (record { before = so_far; last = more; parts = refl; short = short; needed = needed })

pub reads_then : (needs then : List ℕ → Type 0) (first more : List ℕ) → ((bytes : List ℕ) → then bytes → needs (first ++ bytes)) → ReadsWhile needs first
    → ReadsWhile then more → ReadsWhile needs (first ++ more)
reads_then needs then first more so one (inl nothing) = subst (ReadsWhile needs) (sym (ap (λ (t : List ℕ). first ++ t) nothing ∙ append-nil first)) one
reads_then needs then first more so one (inr two) = inr (record {
  before = first ++ two.before;
  last = two.last;
  parts = ap (λ (t : List ℕ). first ++ t) two.parts ∙ sym (append_assoc first two.before two.last);
  short = two.short;
  needed = so two.before two.needed;
})

pub reads_of : (needs other : List ℕ → Type 0) (bytes : List ℕ) → ((b : List ℕ) → other b → needs b) → ReadsWhile other bytes → ReadsWhile needs bytes
reads_of needs other bytes so (inl nothing) = inl nothing
reads_of needs other bytes so (inr one) = inr (record { before = one.before; last = one.last; parts = one.parts; short = one.short; needed = so one.before one.needed })

-- the session goes on, has come to its end, or has failed
pub reads_open : (needs : List ℕ → Type 0) (bytes : List ℕ) → ReadsWhile needs bytes → ReadsOnly needs bytes false false
reads_open needs bytes reads = record { bytes = reads; end = λ void. absurd (cc); fault = λ void. absurd (cc) }

pub reads_end : (needs : List ℕ → Type 0) (bytes : List ℕ) → ReadsWhile needs bytes → needs bytes → ReadsOnly needs bytes true false
reads_end needs bytes reads needed = record { bytes = reads; end = λ _. needed; fault = λ void. absurd (cc) }

pub reads_failure : (needs : List ℕ → Type 0) (bytes : List ℕ) → ReadsWhile needs bytes → needs bytes → ReadsOnly needs bytes false true
reads_failure needs bytes reads needed = record { bytes = reads; end = λ void. absurd (cc); fault = λ _. needed }

pub reads_and : (needs then : List ℕ → Type 0) (first more : List ℕ) (ended failed : Bool) → ((bytes : List ℕ) → then bytes → needs (first ++ bytes))
    → ReadsWhile needs first → ReadsOnly then more ended failed → ReadsOnly needs (first ++ more) ended failed
reads_and needs then first more ended failed so one two = record {
  bytes = reads_then needs then first more so one two.bytes;
  end = λ yes. so more (two.end yes);
  fault = λ yes. so more (two.fault yes);
}

pub reads_only_of : (needs other : List ℕ → Type 0) (bytes : List ℕ) (ended failed : Bool) → ((b : List ℕ) → other b → needs b) → ReadsOnly other bytes ended failed
    → ReadsOnly needs bytes ended failed
reads_only_of needs other bytes ended failed so reads = record {
  bytes = reads_of needs other bytes so reads.bytes;
  end = λ yes. so bytes (reads.end yes);
  fault = λ yes. so bytes (reads.fault yes);
}

-- what is open of the bytes at a place is open of the body that was read so far
open_with : (body given text : List ℕ) (place : ChunkPlace) → IsReadTo (body ++ given) text place → (more : List ℕ) → IsOpenWith text place more
    → IsOpenBodyWith body (given ++ more)
open_with body given text place is more unread = unread (body ++ (given ++ more)) (step_read body given text (text ++ more) more place is refl)

pub chunk_reads : (body given text : List ℕ) (place : ChunkPlace) (more : List ℕ) → IsReadTo (body ++ given) text place → ReadsWhile (IsOpenBodyWith body) given
    → ReadsWhile (IsOpenWith text place) more → ReadsWhile (IsOpenBodyWith body) (given ++ more)
chunk_reads body given text place more is one two = reads_then (IsOpenBodyWith body) (IsOpenWith text place) given more (open_with body given text place is) one two

pub chunk_reads_only : (body given text : List ℕ) (place : ChunkPlace) (more : List ℕ) (ended failed : Bool) → IsReadTo (body ++ given) text place
    → ReadsWhile (IsOpenBodyWith body) given → ReadsOnly (IsOpenWith text place) more ended failed → ReadsOnly (IsOpenBodyWith body) (given ++ more) ended failed
chunk_reads_only body given text place more ended failed is one two =
    reads_and (IsOpenBodyWith body) (IsOpenWith text place) given more ended failed (open_with body given text place is) one two

-- ---- what is whole, refused or open at the front

begins_not_open : (bytes : List ℕ) (head : ResponseHead) (rest : List ℕ) → BeginsResponse bytes head rest → IsOpenResponse bytes → ⊥
begins_not_open bytes head rest begins unread =
    unread.not_whole head (take (16384 - length (print_response head)) rest)
    (begins.reads.0, in_front 16384 bytes (print_response head) rest begins.reads.1 begins.within)

begins_one : (bytes : List ℕ) (h k : ResponseHead) (r q : List ℕ) → BeginsResponse bytes h r → BeginsResponse bytes k q → (h ≡ k) × (r ≡ q)
begins_one bytes h k r q a b = response_unique bytes h k r q a.reads b.reads

good_not_bad : (head : ResponseHead) → HasGoodFields head.fields → HasBadFields head.fields → ⊥
good_not_bad head good (inl many) = omega (arith, good.few, many)
good_not_bad head good (inr malformed) = good.length malformed

pub has_not_refused : (bytes : List ℕ) (head : ResponseHead) (rest : List ℕ) → HasResponse bytes head rest → IsRefusedResponse bytes → ⊥
has_not_refused bytes head rest has (inl never) =
    never (drop 16384 bytes) head rest (has.begins.reads.0, take-append-drop 16384 bytes ∙ has.begins.reads.1)
has_not_refused bytes head rest has (inr (other, after, begins, bad)) =
    good_not_bad head has.good (subst (λ (h : ResponseHead). HasBadFields h.fields) (sym (begins_one bytes head other rest after has.begins begins).0) bad)

pub has_not_open : (bytes : List ℕ) (head : ResponseHead) (rest : List ℕ) → HasResponse bytes head rest → IsOpenResponse bytes → ⊥
has_not_open bytes head rest has unread = begins_not_open bytes head rest has.begins unread

pub has_one : (bytes : List ℕ) (h k : ResponseHead) (r q : List ℕ) → HasResponse bytes h r → HasResponse bytes k q → (h ≡ k) × (r ≡ q)
has_one bytes h k r q a b = begins_one bytes h k r q a.begins b.begins

open_not_refused : (bytes : List ℕ) → IsOpenResponse bytes → IsRefusedResponse bytes → ⊥
open_not_refused bytes unread (inl never) =
    let may = unread.may_be in
    never may.0 may.1 [] may.2
open_not_refused bytes unread (inr (head, rest, begins, bad)) = begins_not_open bytes head rest begins unread

-- ---- bytes that decide nothing

pub undecided_head : (need : Bool) (bytes : List ℕ) → IsOpenHead bytes → IsUndecided need bytes
undecided_head need bytes (short, unread) (Ok body) (given, whole, right) = has_not_open bytes whole.head whole.rest whole.success.response unread
undecided_head need bytes (short, unread) (Err fault.Link) void = void
undecided_head need bytes (short, unread) (Err fault.Head) refused = open_not_refused bytes unread refused
undecided_head need bytes (short, unread) (Err fault.HeadLimit) (long, is) = omega (arith, short, long)
undecided_head need bytes (short, unread) (Err (fault.Status status)) (head, rest, has, code, other) = has_not_open bytes head rest has unread
undecided_head need bytes (short, unread) (Err fault.NoLength) (head, rest, has, none) = has_not_open bytes head rest has.response unread
undecided_head need bytes (short, unread) (Err (fault.BodyLimit n)) (head, rest, has, long) = has_not_open bytes head rest has.response unread
undecided_head need bytes (short, unread) (Err fault.Cut) (ended, why) = cc
undecided_head need bytes (short, unread) (Err fault.NoDigest) (body, whole, needed) = has_not_open bytes whole.head whole.rest whole.success.response unread
undecided_head need bytes (short, unread) (Err (fault.Digest got given)) (body, whole, is, other) = has_not_open bytes whole.head whole.rest whole.success.response unread
undecided_head need bytes (short, unread) (Err (fault.Chunk chunk)) (head, rest, has, wrong) = has_not_open bytes head rest has.response unread

pub lacking_or_whole : (framing : Framing) (bytes body : List ℕ) → LacksRest framing bytes → HasBody framing bytes body → ⊥
lacking_or_whole (ByLength n) bytes body (allowed, short) (fits, enough, is) = omega (arith, short, enough)
lacking_or_whole Chunked bytes body unread whole = whole_or_open bytes body whole unread
lacking_or_whole Unframed bytes body void whole = void

lacking_or_long : (framing : Framing) (bytes : List ℕ) (n : ℕ) → LacksRest framing bytes → HasLongBody framing bytes n → ⊥
lacking_or_long (ByLength size) bytes n (allowed, short) (is, past) = omega (arith, allowed, past)
lacking_or_long Chunked bytes n unread long = open_or_long bytes n unread long
lacking_or_long Unframed bytes n void long = void

lacking_or_wrong : (framing : Framing) (bytes : List ℕ) (chunk : ℕ) → LacksRest framing bytes → HasWrongChunk framing bytes chunk → ⊥
lacking_or_wrong (ByLength size) bytes chunk lacks void = void
lacking_or_wrong Chunked bytes chunk unread bad = open_or_bad bytes chunk unread bad
lacking_or_wrong Unframed bytes chunk void wrong = void

lacking_or_unframed : (framing : Framing) (bytes : List ℕ) → LacksRest framing bytes → framing ≡ Unframed → ⊥
lacking_or_unframed framing bytes lacks none = subst (λ (f : Framing). LacksRest f bytes) none lacks

-- what is lacking of one reading of a head is lacking of each
lacks_of : (bytes : List ℕ) (h k : ResponseHead) (r q : List ℕ) → HasSuccess bytes h r → HasSuccess bytes k q → LacksRest (framing_of h.fields) r
    → LacksRest (framing_of k.fields) q
lacks_of bytes h k r q a b lacks =
    let same = has_one bytes h k r q a.response b.response in
    subst (λ (t : List ℕ). LacksRest (framing_of k.fields) t) same.1 (subst (λ (head : ResponseHead). LacksRest (framing_of head.fields) r) same.0 lacks)

pub undecided_body : (need : Bool) (bytes : List ℕ) (head : ResponseHead) (rest : List ℕ) → HasSuccess bytes head rest → LacksRest (framing_of head.fields) rest
    → IsUndecided need bytes
undecided_body need bytes head rest has lacks (Ok body) (given, whole, right) =
    lacking_or_whole (framing_of whole.head.fields) whole.rest body (lacks_of bytes head whole.head rest whole.rest has whole.success lacks) whole.has
undecided_body need bytes head rest has lacks (Err fault.Link) void = void
undecided_body need bytes head rest has lacks (Err fault.Head) refused = has_not_refused bytes head rest has.response refused
undecided_body need bytes head rest has lacks (Err fault.HeadLimit) (long, unread) = has_not_open bytes head rest has.response unread
undecided_body need bytes head rest has lacks (Err (fault.Status status)) (k, q, other, code, not) =
    not (sym code ∙ ap status_code (sym (has_one bytes head k rest q has.response other).0) ∙ has.success)
undecided_body need bytes head rest has lacks (Err fault.NoLength) (k, q, other, none) =
    lacking_or_unframed (framing_of k.fields) q (lacks_of bytes head k rest q has other lacks) none
undecided_body need bytes head rest has lacks (Err (fault.BodyLimit n)) (k, q, other, long) =
    lacking_or_long (framing_of k.fields) q n (lacks_of bytes head k rest q has other lacks) long
undecided_body need bytes head rest has lacks (Err fault.Cut) (ended, why) = cc
undecided_body need bytes head rest has lacks (Err fault.NoDigest) (body, whole, needed) =
    lacking_or_whole (framing_of whole.head.fields) whole.rest body (lacks_of bytes head whole.head rest whole.rest has whole.success lacks) whole.has
undecided_body need bytes head rest has lacks (Err (fault.Digest got given)) (body, whole, is, other) =
    lacking_or_whole (framing_of whole.head.fields) whole.rest body (lacks_of bytes head whole.head rest whole.rest has whole.success lacks) whole.has
undecided_body need bytes head rest has lacks (Err (fault.Chunk chunk)) (k, q, other, wrong) =
    lacking_or_wrong (framing_of k.fields) q chunk (lacks_of bytes head k rest q has other lacks) wrong

-- ---- no bytes decide nothing

a_head : ResponseHead
a_head = record { blank = []; minor = 1; digits = 50 ∷ 48 ∷ 48 ∷ []; reason = None; line_end = lf; fields = []; last = lf }

a_head_is : IsResponseHead a_head
unfolding a_head
a_head_is = record {
  minor = omega arith;
  digits = (
    refl,
    All-cons (λ (b : ℕ). IsTrue (is_ascii_digit b)) 50 (48 ∷ 48 ∷ []) refl
        (All-cons (λ (b : ℕ). IsTrue (is_ascii_digit b)) 48 (48 ∷ []) refl (All-cons (λ (b : ℕ). IsTrue (is_ascii_digit b)) 48 [] refl (All-nil (λ (b : ℕ). IsTrue (is_ascii_digit b))))),
  );
  reason = All-nil (λ (b : ℕ). IsTrue (is_value_byte b));
  fields = All-nil IsField;
}

nothing_open : (none : List ℕ) → none ≡ [] → IsOpenHead none
nothing_open none is =
    let front : take 16384 none ≡ [] = take_all 16384 none (omega (arith, ap length is)) ∙ is in (
      omega (arith, ap length is),
      record {
        not_whole = λ head rest reads. omega (arith, response_some head reads.0, ap length (sym front ∙ reads.1), length_both (print_response head) rest);
        may_be = (print_response a_head ++ [], a_head, (a_head_is, ap (λ (t : List ℕ). t ++ (print_response a_head ++ [])) front));
      },
    )
  where
    length_both : (a b : List ℕ) → length a ≤ length (a ++ b)
    length_both [] b = omega arith
    length_both (x ∷ a) b = omega (arith, length_both a b)

pub undecided_nothing : (need : Bool) → IsUndecided need []
undecided_nothing need = undecided_head need [] (nothing_open [] refl)

-- ---- what the reads of a session come to

pub reads_decide : (need : Bool) (bytes : List ℕ) (ended failed : Bool) → ReadsOnly (IsUndecided need) bytes ended failed → ReadsToDecision need bytes ended failed
reads_decide need bytes ended failed reads = of reads.bytes
  where
    of : ReadsWhile (IsUndecided need) bytes → ReadsToDecision need bytes ended failed
    of (inl nothing) = record {
      before = [];
      last = [];
      parts = nothing;
      needed = undecided_nothing need;
      short = omega arith;
      end = reads.end;
      fault = reads.fault;
    }
    of (inr one) = record {
      before = one.before;
      last = one.last;
      parts = one.parts;
      needed = one.needed;
      short = one.short;
      end = reads.end;
      fault = reads.fault;
    }

pub reads_nothing : (need : Bool) (ended failed : Bool) → ReadsOnly (IsUndecided need) [] ended failed
reads_nothing need ended failed = record { bytes = inl refl; end = λ _. undecided_nothing need; fault = λ _. undecided_nothing need }

-- a head that is open decides nothing
pub head_reads : (need : Bool) (bytes : List ℕ) → ReadsWhile IsOpenHead bytes → ReadsWhile (IsUndecided need) bytes
head_reads need bytes reads = reads_of (IsUndecided need) IsOpenHead bytes (undecided_head need) reads

pub head_reads_only : (need : Bool) (bytes : List ℕ) (ended failed : Bool) → ReadsOnly IsOpenHead bytes ended failed → ReadsOnly (IsUndecided need) bytes ended failed
head_reads_only need bytes ended failed reads = reads_only_of (IsUndecided need) IsOpenHead bytes ended failed (undecided_head need) reads

-- the head, and then a body that lacks some
pub short_undecided : (need : Bool) (text : List ℕ) (parts : ResponseParts) (n : ℕ) → IsResponsePartsOf text parts → parts.status ≡ 200 → parts.framing ≡ ByLength n → n ≤ 201326592
    → (given : List ℕ) → IsShort (drop parts.start text) n given → IsUndecided need (text ++ given)
short_undecided need text parts n is status framing allowed given short =
    undecided_body need (text ++ given) is.head (drop parts.start text ++ given) (success_of text parts given is status)
    (subst (λ (f : Framing). LacksRest f (drop parts.start text ++ given)) (sym (is.framing ∙ framing)) (allowed, short))

pub chunks_undecided : (need : Bool) (text : List ℕ) (parts : ResponseParts) → IsResponsePartsOf text parts → parts.status ≡ 200 → parts.framing ≡ Chunked
    → (given : List ℕ) → IsOpenBodyWith (drop parts.start text) given → IsUndecided need (text ++ given)
chunks_undecided need text parts is status framing given unread =
    undecided_body need (text ++ given) is.head (drop parts.start text ++ given) (success_of text parts given is status)
    (subst (λ (f : Framing). LacksRest f (drop parts.start text ++ given)) (sym (is.framing ∙ framing)) unread)
