-- Answers that a server keeps, each by the body of the request that it answered and, if the request has one, by its meaning: two
-- requests with one meaning have one answer, however they are spelled. What a meaning is, which of them are the same, and which belong
-- to the first part are parameters.
use Rattle.std.specs.Prelude.{◌≡◌, ◌&&◌, ◌+◌, ◌^◌, ◌<◌, ◌≤◌, ℕ, Bool, true, false, if◌then◌else◌, List, [], ◌∷◌, ◌++◌, length, take, drop, position, slice_get, sum_by, Option, Some, None, is_some, nat_le, nat_lt, option_map, All, MatchBool}
use Rattle.std.specs.Str.{bytes_eq}
use Rattle.http_edge.specs.Responses.{response_text}
use Rattle.http_serving.specs.declared.kept.KeptAnswer.{KeptAnswer}
use Rattle.http_serving.specs.declared.kept.Room.{Room}
use Rattle.http_serving.specs.declared.responses.Answer.{Answer}
use Rattle.http_serving.specs.declared.responses.Answer.TheVariants as answer
use Rattle.http_serving.specs.declared.responses.Response.{Response}

-- ---- how much is kept

-- the bytes of an answer, with those of its request and 256 for its meaning
abbrev pub kept_size : {K : Type 0} → KeptAnswer K → ℕ
kept_size answer = length answer.asked + length answer.text + 256

-- They are as few as there is room for, and have these bytes in all. There is never room for 4 GiB.
pub record AreFew {K : Type 0} (kept : List (KeptAnswer K)) (bytes : ℕ) (room : Room) : Type 0 where
  pub limit : room.bytes < 2 ^ 32
  pub count : length kept ≤ room.answers
  pub size : sum_by kept_size kept ≡ bytes
  pub small : bytes ≤ room.bytes

-- A part of what is kept, with its room. The answer that was asked for least lately stands first.
pub record KeptPart (K : Type 0) : Type 0 where
  pub answers : List (KeptAnswer K)
  pub room : Room

-- Kept answers stand in two parts: those whose meaning belongs to the first, and others.
pub record KeptLists (K : Type 0) : Type 0 where
  pub first : KeptPart K
  pub others : KeptPart K

-- Each part has no more than its room.
pub record HaveRoom {K : Type 0} (kept : KeptLists K) : Type 0 where
  pub first : length kept.first.answers ≤ kept.first.room.answers
  pub first_bytes : sum_by kept_size kept.first.answers ≤ kept.first.room.bytes
  pub others : length kept.others.answers ≤ kept.others.room.answers
  pub others_bytes : sum_by kept_size kept.others.answers ≤ kept.others.room.bytes

-- nothing kept, with the same rooms
abbrev pub emptied : {K : Type 0} → KeptLists K → KeptLists K
emptied kept = record { first = record kept.first { answers = [] }; others = record kept.others { answers = [] } }

-- Each answer is such a one.
pub record HoldsOfAnswers {K : Type 0} (P : KeptAnswer K → Type 0) (kept : KeptLists K) : Type 0 where
  pub first : All P kept.first.answers
  pub others : All P kept.others.answers

-- ---- what is asked for again

-- whether an answer has a meaning that is the same as this one
abbrev pub has_meaning : {K : Type 0} → (K → K → Bool) → K → Option K → Bool
has_meaning same meaning None = false
has_meaning same meaning (Some other) = same other meaning

-- whether a meaning belongs to the first part
abbrev pub is_for_first : {K : Type 0} → (K → Bool) → Option K → Bool
is_for_first first None = false
is_for_first first (Some meaning) = first meaning

-- the places of the first answer to this body, and of the first with this meaning
abbrev pub place_by_body : {K : Type 0} → List ℕ → List (KeptAnswer K) → Option ℕ
place_by_body asked kept = position (λ answer. bytes_eq answer.asked asked) kept

abbrev pub place_by_meaning : {K : Type 0} → (K → K → Bool) → K → List (KeptAnswer K) → Option ℕ
place_by_meaning same meaning kept = position (λ answer. has_meaning same meaning answer.meaning) kept

-- the text of the answer at a place
abbrev pub text_at : {K : Type 0} → List (KeptAnswer K) → Option ℕ → Option (List ℕ)
text_at kept None = None
text_at kept (Some place) = option_map (λ answer. answer.text) (slice_get kept place)

-- what is kept after the answer at a place was asked for: it stands behind all others
abbrev pub after_asking : {K : Type 0} → List (KeptAnswer K) → Option ℕ → List (KeptAnswer K)
after_asking kept None = kept
after_asking kept (Some place) = take place kept ++ (drop 1 (drop place kept) ++ take 1 (drop place kept))

-- the same of the first part, and of the other
abbrev pub after_asking_first : {K : Type 0} → Option ℕ → KeptLists K → KeptLists K
after_asking_first place kept = record kept { first = record kept.first { answers = after_asking kept.first.answers place } }

abbrev pub after_other : {K : Type 0} → Option ℕ → KeptLists K → KeptLists K
after_other place kept = record kept { others = record kept.others { answers = after_asking kept.others.answers place } }

-- the text of a part, where it has one, and else that of the other
abbrev pub first_text : Option (List ℕ) → Option (List ℕ) → Option (List ℕ)
first_text None other = other
first_text (Some text) other = Some text

-- the text of the answer to a body, and what is kept after it was asked for
abbrev pub text_by_body : {K : Type 0} → List ℕ → KeptLists K → Option (List ℕ)
text_by_body asked kept =
    first_text (text_at kept.first.answers (place_by_body asked kept.first.answers)) (text_at kept.others.answers (place_by_body asked kept.others.answers))

abbrev pub after_body : {K : Type 0} → List ℕ → KeptLists K → KeptLists K
after_body asked kept =
    if is_some (place_by_body asked kept.first.answers)
    then after_asking_first (place_by_body asked kept.first.answers) kept
    else after_other (place_by_body asked kept.others.answers) kept

-- the same of a meaning, which is looked for in its part alone
abbrev pub text_by_meaning : {K : Type 0} → (K → K → Bool) → (K → Bool) → Option K → KeptLists K → Option (List ℕ)
text_by_meaning same first None kept = None
text_by_meaning same first (Some meaning) kept =
    if first meaning
    then text_at kept.first.answers (place_by_meaning same meaning kept.first.answers)
    else text_at kept.others.answers (place_by_meaning same meaning kept.others.answers)

abbrev pub after_meaning : {K : Type 0} → (K → K → Bool) → (K → Bool) → Option K → KeptLists K → KeptLists K
after_meaning same first None kept = kept
after_meaning same first (Some meaning) kept =
    if first meaning
    then after_asking_first (place_by_meaning same meaning kept.first.answers) kept
    else after_other (place_by_meaning same meaning kept.others.answers) kept

-- ---- what is kept anew

-- Whether a part keeps an answer: its text is long enough, and there is room for it if nothing else is kept.
abbrev pub is_kept_in : {K : Type 0} → KeptAnswer K → Room → Bool
is_kept_in answer room = nat_le room.least (length answer.text) && (nat_lt 0 room.answers && nat_le (kept_size answer) room.bytes)

-- A part has room for these.
abbrev pub FitIn : {K : Type 0} → List (KeptAnswer K) → Room → Type 0
FitIn kept room = (length kept ≤ room.answers) × (sum_by kept_size kept ≤ room.bytes)

-- Left of all of these are those behind the first ones, as many of which went as had to for a part to have room for the others.
pub record AreLeft {K : Type 0} (all left : List (KeptAnswer K)) (room : Room) : Type 0 where
  pub gone : ℕ
  pub are : left ≡ drop gone all
  pub fit : FitIn left room
  pub least : (fewer : ℕ) → fewer < gone → FitIn (drop fewer all) room → ⊥

-- An answer came behind the others. So many went that were asked for least lately, and no more than had to.
pub record Comes {K : Type 0} (answer : KeptAnswer K) (before after : KeptPart K) : Type 0 where
  pub gone : ℕ
  pub room : after.room ≡ before.room
  pub answers : after.answers ≡ drop gone before.answers ++ answer ∷ []
  pub fits : FitIn after.answers before.room
  pub least : (fewer : ℕ) → fewer < gone → FitIn (drop fewer before.answers ++ answer ∷ []) before.room → ⊥

-- It came if its part keeps it, and else all is as it was.
abbrev pub HasKept : {K : Type 0} → KeptAnswer K → (before after : KeptPart K) → Type 0
HasKept answer before after = MatchBool (is_kept_in answer before.room) (Comes answer before after) (after ≡ before)

-- So it is in the part of its meaning, and the other part is as it was.
abbrev pub HasKeptIn : {K : Type 0} → KeptAnswer K → Bool → (before after : KeptLists K) → Type 0
HasKeptIn answer true before after = HasKept answer before.first after.first × (after.others ≡ before.others)
HasKeptIn answer false before after = HasKept answer before.others after.others × (after.first ≡ before.first)

-- An answer is a response, or the text of one without a cause.
abbrev pub IsSentAs : Response → Answer → Type 0
IsSentAs response (answer.Made made) = made ≡ response
IsSentAs response (answer.Written written) =
    (written.status ≡ response.status) × (response.cause ≡ []) × (written.text ≡ response_text response.status response.fields response.body)
IsSentAs response (answer.Shared shared) =
    (shared.status ≡ response.status) × (response.cause ≡ []) × (shared.text ≡ response_text response.status response.fields response.body)

-- What comes of a response to a body, with this meaning, that is sent as this answer: one whose text is shared was kept as its part
-- keeps answers, and with any other all is as it was.
abbrev pub KeepsSent : {K : Type 0} → (K → Bool) → List ℕ → Option K → Response → Answer → (before after : KeptLists K) → Type 0
KeepsSent first asked meaning response (answer.Shared shared) before after =
    HasKeptIn (record { asked = asked; meaning = meaning; text = response_text response.status response.fields response.body })
    (is_for_first first meaning) before after
KeepsSent first asked meaning response (answer.Made made) before after = after ≡ before
KeepsSent first asked meaning response (answer.Written written) before after = after ≡ before

-- ---- what is kept stays as it is to be

-- A text that is found by a body is that of such an answer to this body.
abbrev pub FindsByBody : {K : Type 0} → (KeptAnswer K → Type 0) → Type 0
FindsByBody {K} P =
    (kept : KeptLists K) (asked text : List ℕ) → HoldsOfAnswers P kept → text_by_body asked kept ≡ Some text
    → (answer : KeptAnswer K) × P answer × (answer.asked ≡ asked) × (answer.text ≡ text)

-- A text that is found by a meaning is that of such an answer with the same meaning.
abbrev pub FindsByMeaning : {K : Type 0} → (K → K → Bool) → (K → Bool) → (KeptAnswer K → Type 0) → Type 0
FindsByMeaning {K} same first P =
    (kept : KeptLists K) (meaning : K) (text : List ℕ) → HoldsOfAnswers P kept → text_by_meaning same first (Some meaning) kept ≡ Some text
    → (answer : KeptAnswer K) × (other : K) × P answer × (answer.meaning ≡ Some other) × (same other meaning ≡ true) × (answer.text ≡ text)

-- What was asked for again stays such.
pub record StaysAsked {K : Type 0} (same : K → K → Bool) (first : K → Bool) (P : KeptAnswer K → Type 0) : Type 0 where
  pub by_body : (kept : KeptLists K) (asked : List ℕ) → HoldsOfAnswers P kept → HoldsOfAnswers P (after_body asked kept)
  pub by_meaning : (kept : KeptLists K) (meaning : Option K) → HoldsOfAnswers P kept → HoldsOfAnswers P (after_meaning same first meaning kept)

-- So does what is kept with one answer more that is such, and what is kept of nothing.
pub record StaysKept {K : Type 0} (first : K → Bool) (P : KeptAnswer K → Type 0) : Type 0 where
  pub more : (asked : List ℕ) (meaning : Option K) (response : Response) (sent : Answer) (before after : KeptLists K) → HoldsOfAnswers P before
      → P (record { asked = asked; meaning = meaning; text = response_text response.status response.fields response.body })
      → KeepsSent first asked meaning response sent before after → HoldsOfAnswers P after
  pub none : (kept : KeptLists K) → HoldsOfAnswers P (emptied kept)
