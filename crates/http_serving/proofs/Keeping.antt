-- What is kept is found by what it answers, and stays right.
use Rattle.std.proofs.Common.{◌≡◌, ℕ, Bool, true, false, List, ◌++◌, take, drop, get_or, Option, Some, None, refl, sym, ap, ◌∙◌, subst}
use Rattle.std.specs.Prelude.{All, MatchBool, if◌then◌else◌, is_some, option_map, position, slice_get}
use Rattle.std.specs.Str.{bytes_eq}
use Rattle.std.proofs.lemmas.List.Elements.{All-append, All-drop, All-get_or, All-nil, All-push, All-take}
use Rattle.std.proofs.lemmas.List.Quantifiers.{position-Some}
use Rattle.std.proofs.lemmas.Option.{get_or_from_slice_get, slice_get_within}
use Rattle.std.proofs.lemmas.Slice.Eq.{bytes_eq-Decides}
use Rattle.http_edge.specs.Responses.{response_text}
use Rattle.http_serving.specs.Kept.{after_asking, after_asking_first, after_meaning, after_other, first_text, has_meaning, is_for_first, place_by_body, place_by_meaning, text_at, is_kept_in, HoldsOfAnswers, Comes, FindsByBody, FindsByMeaning, HasKept, HasKeptIn, KeepsSent, KeptLists, KeptPart, StaysAsked, StaysKept}
use Rattle.http_serving.specs.declared.kept.KeptAnswer.{KeptAnswer}
use Rattle.http_serving.specs.declared.responses.Answer.{Answer}
use Rattle.http_serving.specs.declared.responses.Answer.TheVariants as answer
use Rattle.http_serving.specs.declared.responses.Response.{Response}

module _ {K : Type 0} (P : KeptAnswer K → Type 0) where
  -- ---- an answer that is found

  -- what was kept of a text that is found
  record IsFound (test : KeptAnswer K → Bool) (text : List ℕ) : Type 0 where
    pub answer : KeptAnswer K
    pub is : P answer
    pub passes : test answer ≡ true
    pub text_is : answer.text ≡ text

  found_at : (test : KeptAnswer K → Bool) (kept : List (KeptAnswer K)) (text : List ℕ) → All P kept → text_at kept (position test kept) ≡ Some text → IsFound test text
  found_at test kept text all says = go (position test kept) refl says
    where
      at : (place : ℕ) (answer : Option (KeptAnswer K)) → position test kept ≡ Some place → slice_get kept place ≡ answer → option_map (λ (a : KeptAnswer K). a.text) answer ≡ Some text → IsFound test text
      at place None is there here = absurd (cc)
      at place (Some answer) is there here =
          let own : get_or kept place answer ≡ answer = get_or_from_slice_get kept place answer answer there in
          record {
            answer = answer;
            is = subst P own (All-get_or P kept place answer (slice_get_within kept place answer there) all);
            passes = ap test (sym own) ∙ (position-Some test kept place answer is).1;
            text_is = cc;
          }

      go : (place : Option ℕ) → position test kept ≡ place → text_at kept place ≡ Some text → IsFound test text
      go None is here = absurd (cc)
      go (Some place) is here = at place (slice_get kept place) is refl here

  of_body : (asked text : List ℕ) → IsFound (λ (answer : KeptAnswer K). bytes_eq answer.asked asked) text
      → (answer : KeptAnswer K) × P answer × (answer.asked ≡ asked) × (answer.text ≡ text)
  of_body asked text found = (found.answer, found.is, (bytes_eq-Decides found.answer.asked asked).0 found.passes, found.text_is)

  pub finds_by_body : FindsByBody P
  finds_by_body kept asked text are says = go (text_at kept.first.answers (place_by_body asked kept.first.answers)) refl says
    where
      go : (first : Option (List ℕ)) → text_at kept.first.answers (place_by_body asked kept.first.answers) ≡ first
          → first_text first (text_at kept.others.answers (place_by_body asked kept.others.answers)) ≡ Some text
          → (answer : KeptAnswer K) × P answer × (answer.asked ≡ asked) × (answer.text ≡ text)
      go None is here = of_body asked text (found_at (λ (answer : KeptAnswer K). bytes_eq answer.asked asked) kept.others.answers text are.others here)
      go (Some other) is here = of_body asked text (found_at (λ (answer : KeptAnswer K). bytes_eq answer.asked asked) kept.first.answers text are.first (is ∙ here))

  module _ (same : K → K → Bool) (first : K → Bool) where
    meant : (meaning : K) (text : List ℕ) (answer : KeptAnswer K) (found : Option K) → answer.meaning ≡ found → has_meaning same meaning found ≡ true → P answer → answer.text ≡ text
        → (answer : KeptAnswer K) × (other : K) × P answer × (answer.meaning ≡ Some other) × (same other meaning ≡ true) × (answer.text ≡ text)
    meant meaning text answer None is passes holds text_is = absurd (cc)
    meant meaning text answer (Some other) is passes holds text_is = (answer, other, holds, is, passes, text_is)

    of_meaning : (meaning : K) (text : List ℕ) → IsFound (λ (answer : KeptAnswer K). has_meaning same meaning answer.meaning) text
        → (answer : KeptAnswer K) × (other : K) × P answer × (answer.meaning ≡ Some other) × (same other meaning ≡ true) × (answer.text ≡ text)
    of_meaning meaning text found = meant meaning text found.answer found.answer.meaning refl found.passes found.is found.text_is

    pub finds_by_meaning : FindsByMeaning same first P
    finds_by_meaning kept meaning text are says = go (first meaning) says
      where
        go : (is_first : Bool)
            → (if is_first then text_at kept.first.answers (place_by_meaning same meaning kept.first.answers) else text_at kept.others.answers (place_by_meaning same meaning kept.others.answers)) ≡ Some text
            → (answer : KeptAnswer K) × (other : K) × P answer × (answer.meaning ≡ Some other) × (same other meaning ≡ true) × (answer.text ≡ text)
        go true here = of_meaning meaning text (found_at (λ (answer : KeptAnswer K). has_meaning same meaning answer.meaning) kept.first.answers text are.first here)
        go false here = of_meaning meaning text (found_at (λ (answer : KeptAnswer K). has_meaning same meaning answer.meaning) kept.others.answers text are.others here)

  -- ---- what was asked for goes behind the others

  asked_for : (kept : List (KeptAnswer K)) (place : Option ℕ) → All P kept → All P (after_asking kept place)
  asked_for kept None all = all
  asked_for kept (Some place) all =
      let rest : All P (drop place kept) = All-drop P place kept all in
      All-append P (take place kept) (drop 1 (drop place kept) ++ take 1 (drop place kept)) (All-take P place kept all)
      (All-append P (drop 1 (drop place kept)) (take 1 (drop place kept)) (All-drop P 1 (drop place kept) rest) (All-take P 1 (drop place kept) rest))

  in_part : (kept : KeptLists K) (is_first : Bool) (a b : Option ℕ) → HoldsOfAnswers P kept → HoldsOfAnswers P (if is_first then after_asking_first a kept else after_other b kept)
  in_part kept true a b are = record { first = asked_for kept.first.answers a are.first; others = are.others }
  in_part kept false a b are = record { first = are.first; others = asked_for kept.others.answers b are.others }

  by_meaning : (same : K → K → Bool) (first : K → Bool) (kept : KeptLists K) (meaning : Option K) → HoldsOfAnswers P kept → HoldsOfAnswers P (after_meaning same first meaning kept)
  by_meaning same first kept None are = are
  by_meaning same first kept (Some meaning) are =
      in_part kept (first meaning) (place_by_meaning same meaning kept.first.answers) (place_by_meaning same meaning kept.others.answers) are

  pub stays_asked : (same : K → K → Bool) (first : K → Bool) → StaysAsked same first P
  stays_asked same first = record {
    by_body = λ kept asked are.
        in_part kept (is_some (place_by_body asked kept.first.answers)) (place_by_body asked kept.first.answers) (place_by_body asked kept.others.answers) are;
    by_meaning = by_meaning same first;
  }

  -- ---- a new answer

  one_part : (answer : KeptAnswer K) (before after : KeptPart K) → All P before.answers → P answer → HasKept answer before after → All P after.answers
  one_part answer before after are is has = go (is_kept_in answer before.room) has
    where
      go : (keeps : Bool) → MatchBool keeps (Comes answer before after) (after ≡ before) → All P after.answers
      go true comes =
          subst (All P) (sym comes.answers) (All-push P (drop comes.gone before.answers) answer (All-drop P comes.gone before.answers are) is)
      go false same = subst (λ (part : KeptPart K). All P part.answers) (sym same) are

  one_more_kept : (answer : KeptAnswer K) (is_first : Bool) (before after : KeptLists K) → HoldsOfAnswers P before → P answer → HasKeptIn answer is_first before after → HoldsOfAnswers P after
  one_more_kept answer true before after are is has = record {
    first = one_part answer before.first after.first are.first is has.0;
    others = subst (λ (part : KeptPart K). All P part.answers) (sym has.1) are.others;
  }
  one_more_kept answer false before after are is has = record {
    first = subst (λ (part : KeptPart K). All P part.answers) (sym has.1) are.first;
    others = one_part answer before.others after.others are.others is has.0;
  }

  more_kept : (first : K → Bool) (asked : List ℕ) (meaning : Option K) (response : Response) (sent : Answer) (before after : KeptLists K) → HoldsOfAnswers P before
      → P (record { asked = asked; meaning = meaning; text = response_text response.status response.fields response.body })
      → KeepsSent first asked meaning response sent before after → HoldsOfAnswers P after
  more_kept first asked meaning response (answer.Made made) before after are is same = subst (HoldsOfAnswers P) (sym same) are
  more_kept first asked meaning response (answer.Written written) before after are is same = subst (HoldsOfAnswers P) (sym same) are
  more_kept first asked meaning response (answer.Shared shared) before after are is has =
      one_more_kept (record { asked = asked; meaning = meaning; text = response_text response.status response.fields response.body }) (is_for_first first meaning) before after are is has

  pub stays_kept : (first : K → Bool) → StaysKept first P
  stays_kept first = record {
    more = more_kept first;
    none = λ kept. record { first = All-nil P; others = All-nil P };
  }

-- ---- what is kept of a text

-- a written text that was shared and kept
pub kept_written : {K : Type 0} (first : K → Bool) (asked : List ℕ) (meaning : Option K) (response : Response) (text shared : List ℕ) (before between after : KeptLists K)
    → text ≡ response_text response.status response.fields response.body → shared ≡ text → between ≡ before
    → HasKeptIn (record { asked = asked; meaning = meaning; text = shared }) (is_for_first first meaning) between after
    → HasKeptIn (record { asked = asked; meaning = meaning; text = response_text response.status response.fields response.body }) (is_for_first first meaning) before after
kept_written {K} first asked meaning response text shared before between after whole is same has =
    let made : List ℕ → KeptAnswer K = λ t. record { asked = asked; meaning = meaning; text = t } in
    let written : List ℕ = response_text response.status response.fields response.body in
    subst (λ (b : KeptLists K). HasKeptIn (made written) (is_for_first first meaning) b after) same
    (subst (λ (t : List ℕ). HasKeptIn (made t) (is_for_first first meaning) between after) (is ∙ whole) has)
