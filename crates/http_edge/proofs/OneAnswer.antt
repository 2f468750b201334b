-- Bytes that pass come to one body, and to nothing else.
use Rattle.std.proofs.Common.{◌≡◌, ◌≢◌, ℕ, List, [], ◌∷◌, ◌++◌, Bool, true, false, Option, Some, None, refl, sym, ap, ◌∙◌, subst, arith, inl, inr}
use Rattle.std.specs.Prelude.{Result, Ok, Err, IsTrue, MatchBool, All, codes}
use Rattle.std.proofs.lemmas.List.{append_cancel_left, append_cancel_right}
use Rattle.std.proofs.lemmas.List.Elements.{All-head, All-tail}
use Rattle.base64.specs.Engines.{standard}
use Rattle.base64.specs.GeneralPurpose.{encode_of, decode_of, IsBytes}
use Rattle.base64.proofs.EngineFacts.{decode_of-encode_of}
use Rattle.sha2.specs.Sha256.{sha256}
use Rattle.sb_outside.specs.declared.links.Session.{Session}
use Rattle.httparse.specs.Grammar.{ResponseHead, status_code}
use Rattle.http_edge.specs.Responses.{digest_text}
use Rattle.http_edge.specs.Digests.{digest_members, IsDigestMember, IsNoDigest, HasFirst, IsDigestGiven}
use Rattle.http_edge.specs.Outcomes.{HasSuccess, HasWhole, HasBody, HasLongBody, HasWrongChunk, framing_of, IsRightDigest, BytesOutcome, SessionOutcome}
use Rattle.http_edge.specs.declared.fields.Framing.{Framing}
use Rattle.http_edge.specs.declared.fields.Framing.TheVariants.{ByLength, Chunked, Unframed}
use Rattle.http_edge.specs.declared.faults.ExchangeFault.{ExchangeFault}
use Rattle.http_edge.specs.declared.faults.ExchangeFault.TheVariants as fault
use Rattle.http_edge.proofs.ChunkOutcomes.{one_whole, whole_or_long, whole_or_bad}
use Rattle.http_edge.proofs.ReadFacts.{has_one, has_not_refused, has_not_open, lacking_or_whole}

-- ---- digests

digest_one : (d e : List ℕ) → IsBytes d → IsBytes e → digest_text d ≡ digest_text e → d ≡ e
unfolding digest_text
digest_one d e is_d is_e same =
    let inner = append_cancel_left (codes "sha-256=:") (encode_of standard d ++ codes ":") (encode_of standard e ++ codes ":") same in
    let encoded = append_cancel_right (encode_of standard d) (encode_of standard e) (codes ":") inner in
    let read : decode_of standard (encode_of standard d) ≡ Ok d = decode_of-encode_of standard d refl is_d in
    let other : decode_of standard (encode_of standard e) ≡ Ok e = decode_of-encode_of standard e refl is_e in
    ok_one d e (sym read ∙ ap (decode_of standard) encoded ∙ other)
  where
    ok_one : {E : Type 0} (a b : List ℕ) → ◌≡◌ {A = Result (List ℕ) E} (Ok a) (Ok b) → a ≡ b
    ok_one a b is = cc

member_one : (member d e : List ℕ) → IsDigestMember member d → IsDigestMember member e → d ≡ e
member_one member d e a b = digest_one d e a.bytes b.bytes (sym a.text ∙ b.text)

head_is : {A : Type 0} (x y : A) (xs ys : List A) → x ∷ xs ≡ y ∷ ys → x ≡ y
head_is x y xs ys same = cc

tail_is : {A : Type 0} (x y : A) (xs ys : List A) → x ∷ xs ≡ y ∷ ys → xs ≡ ys
tail_is x y xs ys same = cc

first_one : (before other after later : List (List ℕ)) (member next d e : List ℕ) → before ++ member ∷ after ≡ other ++ next ∷ later → All IsNoDigest before → All IsNoDigest other
    → IsDigestMember member d → IsDigestMember next e → member ≡ next
first_one [] [] after later member next d e same none not is that = head_is member next after later same
first_one [] (y ∷ other) after later member next d e same none not is that =
    absurd (All-head IsNoDigest y other not d (subst (λ (m : List ℕ). IsDigestMember m d) (head_is member y after (other ++ next ∷ later) same) is))
first_one (x ∷ before) [] after later member next d e same none not is that =
    absurd (All-head IsNoDigest x before none e (subst (λ (m : List ℕ). IsDigestMember m e) (sym (head_is x next (before ++ member ∷ after) later same)) that))
first_one (x ∷ before) (y ∷ other) after later member next d e same none not is that =
    first_one before other after later member next d e (tail_is x y (before ++ member ∷ after) (other ++ next ∷ later) same) (All-tail IsNoDigest x before none)
    (All-tail IsNoDigest y other not) is that

given_one : (members : List (List ℕ)) (d e : List ℕ) → HasFirst members d → HasFirst members e → d ≡ e
given_one members d e a b =
    let same = first_one a.before b.before a.after b.after a.member b.member d e (sym a.parts ∙ b.parts) a.others b.others a.is b.is in
    member_one a.member d e a.is (subst (λ (m : List ℕ). IsDigestMember m e) (sym same) b.is)

given_none : (before after : List (List ℕ)) (member d : List ℕ) → IsDigestMember member d → All IsNoDigest (before ++ member ∷ after) → ⊥
given_none [] after member d is none = All-head IsNoDigest member after none d is
given_none (x ∷ before) after member d is none = given_none before after member d is (All-tail IsNoDigest x (before ++ member ∷ after) none)

given_or_none : (members : List (List ℕ)) (d : List ℕ) → HasFirst members d → All IsNoDigest members → ⊥
given_or_none members d a none = given_none a.before a.after a.member d a.is (subst (All IsNoDigest) a.parts none)

-- ---- bodies

body_one : (framing : Framing) (bytes a b : List ℕ) → HasBody framing bytes a → HasBody framing bytes b → a ≡ b
body_one (ByLength n) bytes a b (fits, enough, is) (fits-too, enough-too, that) = is ∙ sym that
body_one Chunked bytes a b x y = one_whole bytes a b x y
body_one Unframed bytes a b x y = absurd x

body_or_long : (framing : Framing) (bytes body : List ℕ) (n : ℕ) → HasBody framing bytes body → HasLongBody framing bytes n → ⊥
body_or_long (ByLength size) bytes body n (fits, enough, is) (n-is, past) = omega (arith, fits, past)
body_or_long Chunked bytes body n whole long = whole_or_long bytes body n whole long
body_or_long Unframed bytes body n void long = void

body_or_wrong : (framing : Framing) (bytes body : List ℕ) (chunk : ℕ) → HasBody framing bytes body → HasWrongChunk framing bytes chunk → ⊥
body_or_wrong (ByLength size) bytes body chunk whole void = void
body_or_wrong Chunked bytes body chunk whole bad = whole_or_bad bytes body chunk whole bad
body_or_wrong Unframed bytes body chunk void wrong = void

body_or_unframed : (framing : Framing) (bytes body : List ℕ) → HasBody framing bytes body → framing ≡ Unframed → ⊥
body_or_unframed framing bytes body has none = subst (λ (f : Framing). HasBody f bytes body) none has

-- the body of one reading of a head is that of each
body_of : (bytes : List ℕ) (h k : ResponseHead) (r q body : List ℕ) → HasSuccess bytes h r → HasSuccess bytes k q → HasBody (framing_of h.fields) r body
    → HasBody (framing_of k.fields) q body
body_of bytes h k r q body a b has =
    let same = has_one bytes h k r q a.response b.response in
    subst (λ (t : List ℕ). HasBody (framing_of k.fields) t body) same.1 (subst (λ (head : ResponseHead). HasBody (framing_of head.fields) r body) same.0 has)

whole_one : (bytes a b : List ℕ) (d e : Option (List ℕ)) → HasWhole bytes a d → HasWhole bytes b e → a ≡ b
whole_one bytes a b d e x y = body_one (framing_of y.head.fields) y.rest a b (body_of bytes x.head y.head x.rest y.rest a x.success y.success x.has) y.has

-- two digests that one head gives
given_of : (bytes a b : List ℕ) (d e : Option (List ℕ)) (x : HasWhole bytes a d) (y : HasWhole bytes b e) → IsDigestGiven y.head.fields d
given_of bytes a b d e x y =
    subst (λ (head : ResponseHead). IsDigestGiven head.fields d) (has_one bytes x.head y.head x.rest y.rest x.success.response y.success.response).0 x.gives

no_digest : (need : Bool) (bytes body other : List ℕ) (given : Option (List ℕ)) → HasWhole bytes body given → IsRightDigest need body given → HasWhole bytes other None → IsTrue need → ⊥
no_digest need bytes body other None x right y needed = right needed
no_digest need bytes body other (Some digest) x right y needed =
    given_or_none (digest_members y.head.fields) digest (given_of bytes body other (Some digest) None x y) y.gives

wrong_digest : (need : Bool) (bytes body other got digest : List ℕ) (given : Option (List ℕ)) → HasWhole bytes body given → IsRightDigest need body given
    → HasWhole bytes other (Some digest) → got ≡ sha256 other → got ≢ digest → ⊥
wrong_digest need bytes body other got digest None x right y got-is not = given_or_none (digest_members y.head.fields) digest y.gives (given_of bytes body other None (Some digest) x y)
wrong_digest need bytes body other got digest (Some first) x right y got-is not =
    let same = given_one (digest_members y.head.fields) first digest (given_of bytes body other (Some first) (Some digest) x y) y.gives in
    not (got-is ∙ ap sha256 (sym (whole_one bytes body other (Some first) (Some digest) x y)) ∙ right ∙ same)

-- ---- what passes comes to nothing else

pub bytes_one : (need : Bool) (bytes : List ℕ) (ended : Bool) (body : List ℕ) (answer : Result (List ℕ) ExchangeFault) → BytesOutcome need bytes ended (Ok body)
    → BytesOutcome need bytes ended answer → answer ≡ Ok body
bytes_one need bytes ended body (Ok other) (given, x, right) (digest, y, also) = ap Ok (sym (whole_one bytes body other given digest x y))
bytes_one need bytes ended body (Err fault.Link) (given, x, right) void = absurd void
bytes_one need bytes ended body (Err fault.Head) (given, x, right) refused = absurd (has_not_refused bytes x.head x.rest x.success.response refused)
bytes_one need bytes ended body (Err fault.HeadLimit) (given, x, right) (long, unread) = absurd (has_not_open bytes x.head x.rest x.success.response unread)
bytes_one need bytes ended body (Err (fault.Status status)) (given, x, right) (k, q, other, code, not) =
    absurd (not (sym code ∙ ap status_code (sym (has_one bytes x.head k x.rest q x.success.response other).0) ∙ x.success.success))
bytes_one need bytes ended body (Err fault.NoLength) (given, x, right) (k, q, other, none) =
    absurd (body_or_unframed (framing_of k.fields) q body (body_of bytes x.head k x.rest q body x.success other x.has) none)
bytes_one need bytes ended body (Err (fault.BodyLimit n)) (given, x, right) (k, q, other, long) =
    absurd (body_or_long (framing_of k.fields) q body n (body_of bytes x.head k x.rest q body x.success other x.has) long)
bytes_one need bytes ended body (Err fault.Cut) (given, x, right) (end, inl (short, unread)) = absurd (has_not_open bytes x.head x.rest x.success.response unread)
bytes_one need bytes ended body (Err fault.Cut) (given, x, right) (end, inr (k, q, other, lacks)) =
    absurd (lacking_or_whole (framing_of k.fields) q body lacks (body_of bytes x.head k x.rest q body x.success other x.has))
bytes_one need bytes ended body (Err fault.NoDigest) (given, x, right) (other, y, needed) = absurd (no_digest need bytes body other given x right y needed)
bytes_one need bytes ended body (Err (fault.Digest got digest)) (given, x, right) (other, y, got-is, not) =
    absurd (wrong_digest need bytes body other got digest given x right y got-is not)
bytes_one need bytes ended body (Err (fault.Chunk chunk)) (given, x, right) (k, q, other, wrong) =
    absurd (body_or_wrong (framing_of k.fields) q body chunk (body_of bytes x.head k x.rest q body x.success other x.has) wrong)

abbrev SessionOutcomeOf : Bool → Bool → List ℕ → Bool → Result (List ℕ) ExchangeFault → Type 0
SessionOutcomeOf failed need bytes ended answer = MatchBool failed (answer ≡ Err fault.Link) (BytesOutcome need bytes ended answer)

outcome_one : (failed need : Bool) (bytes : List ℕ) (ended : Bool) (body : List ℕ) (answer : Result (List ℕ) ExchangeFault)
    → SessionOutcomeOf failed need bytes ended (Ok body) → SessionOutcomeOf failed need bytes ended answer → answer ≡ Ok body
outcome_one true need bytes ended body answer void is = absurd (cc)
outcome_one false need bytes ended body answer passes is = bytes_one need bytes ended body answer passes is

pub session_one : (need : Bool) (session : Session) (body : List ℕ) (answer : Result (List ℕ) ExchangeFault) → SessionOutcome need session (Ok body)
    → SessionOutcome need session answer → answer ≡ Ok body
session_one need session body answer passes is = outcome_one session.failed need session.received session.ended body answer passes is
