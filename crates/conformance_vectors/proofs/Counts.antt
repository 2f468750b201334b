-- Answers to cases, one by one and all together.
use Rattle.std.proofs.Common.{◌≡◌, ◌↔◌, ℕ, zero, suc, ◌+◌, ◌<◌, ◌≤◌, All, List, [], ◌∷◌, ◌++◌, Bool, true, false, not, cond, ltb, length, take, get_or, Option, Some, None, refl, sym, ap, subst, ◌∙◌, arith, IsTrue}
use Rattle.std.specs.List.{count_by, position, position_or_len, list_any, AllByRecursion}
use Rattle.std.specs.Option.{MatchOption}
use Rattle.std.proofs.lemmas.Bool.{false≢true, ltb-true, ltb-false}
use Rattle.std.proofs.lemmas.List.{take_more}
use Rattle.std.proofs.lemmas.List.Elements.{All-from_recursion, All-nil, All-cons, All-head, All-tail}
use Rattle.std.proofs.lemmas.List.Sums.{count_by-le-length, sum_by-cons}
use Rattle.std.proofs.Math.Numerals.{one-add}
use Rattle.conformance_vectors.specs.Vectors.{Meets, MeetCount, nothing, met, failed, IsFirstFailed, AreDecided}
use Rattle.conformance_vectors.specs.declared.case.Case.{Case}

-- one answer more
pub decided_push : (cases : List Case) (answers : List Bool) (case : Case) (answer : Bool) → AreDecided cases answers → (IsTrue answer ↔ Meets case) → AreDecided (cases ++ case ∷ []) (answers ++ answer ∷ [])
decided_push [] [] case answer h k = (k, tt)
decided_push [] (b ∷ bs) case answer h k = absurd h
decided_push (c ∷ cs) [] case answer h k = absurd h
decided_push (c ∷ cs) (b ∷ bs) case answer h k = (h.0, decided_push cs bs case answer h.1 k)

-- the answer to one case more of a list that is gone through
pub decided_more : (cases : List Case) (answers new : List Bool) (i : ℕ) (d : Case) (answer : Bool) → i < length cases → AreDecided (take i cases) answers → new ≡ answers ++ answer ∷ [] → (IsTrue answer ↔ Meets (get_or cases i d)) → AreDecided (take (i + 1) cases) new
decided_more cases answers new i d answer inside so_far grown here =
    subst (λ bs. AreDecided (take (i + 1) cases) bs) (sym grown)
    (subst (λ cs. AreDecided cs (answers ++ answer ∷ [])) (sym (take_more cases i d inside)) (decided_push (take i cases) answers (get_or cases i d) answer so_far here))

pub same_length : (cases : List Case) (answers : List Bool) → AreDecided cases answers → length answers ≡ length cases
same_length [] [] h = refl
same_length [] (b ∷ bs) h = absurd h
same_length (c ∷ cs) [] h = absurd h
same_length (c ∷ cs) (b ∷ bs) h = let rest = same_length cs bs h.1 in omega arith

not_met : (case : Case) → (IsTrue false ↔ Meets case) → Meets case → ⊥
not_met case h m = false≢true (h.1 m)

abbrev yes : List Bool → ℕ
yes answers = count_by (λ answer. answer) answers

yes_more : (answers : List Bool) → yes (true ∷ answers) ≡ 1 + yes answers
yes_more answers = sum_by-cons (λ answer. cond answer 1 0) true answers

yes_same : (answers : List Bool) → yes (false ∷ answers) ≡ yes answers
yes_same answers = omega arith

-- as many are met as answers say so
pub counted : (cases : List Case) (answers : List Bool) → AreDecided cases answers → MeetCount cases (count_by (λ answer. answer) answers)
counted [] [] h = nothing
counted [] (b ∷ bs) h = absurd h
counted (c ∷ cs) [] h = absurd h
counted (c ∷ cs) (true ∷ bs) h =
    subst (MeetCount (c ∷ cs)) (omega (arith, yes_more bs)) (met (h.0.0 refl) (counted cs bs h.1))
counted (c ∷ cs) (false ∷ bs) h =
    subst (MeetCount (c ∷ cs)) (sym (yes_same bs)) (failed (not_met c h.0) (counted cs bs h.1))

-- where every answer says so, all are met, and the other way round
pub all_met : (cases : List Case) (answers : List Bool) → AreDecided cases answers → count_by (λ answer. answer) answers ≡ length cases → All Meets cases
all_met [] [] h e = All-nil Meets
all_met [] (b ∷ bs) h e = absurd h
all_met (c ∷ cs) [] h e = absurd h
all_met (c ∷ cs) (true ∷ bs) h e = All-cons Meets c cs (h.0.0 refl) (all_met cs bs h.1 (omega (arith, e, yes_more bs)))
all_met (c ∷ cs) (false ∷ bs) h e = absurd (omega (arith, e, yes_same bs, count_by-le-length (λ answer. answer) bs, same_length cs bs h.1))

pub all_counted : (cases : List Case) (answers : List Bool) → AreDecided cases answers → All Meets cases → count_by (λ answer. answer) answers ≡ length cases
all_counted [] [] h all = refl
all_counted [] (b ∷ bs) h all = absurd h
all_counted (c ∷ cs) [] h all = absurd h
all_counted (c ∷ cs) (true ∷ bs) h all = let rest = all_counted cs bs h.1 (All-tail Meets c cs all) in omega (arith, rest, yes_more bs)
all_counted (c ∷ cs) (false ∷ bs) h all = absurd (not_met c h.0 (All-head Meets c cs all))

-- the first that is not met

abbrev Told : List Case → Option ℕ → Type 0
Told cases found = MatchOption found (All Meets cases) (λ place. IsFirstFailed cases place)

told_at : (cases : List Case) (answers : List Bool) → AreDecided cases answers → position_or_len (λ answer. not answer) answers < length answers → IsFirstFailed cases (position_or_len (λ answer. not answer) answers)
told_at [] [] h lt = absurd (omega arith)
told_at [] (b ∷ bs) h lt = absurd h
told_at (c ∷ cs) [] h lt = absurd h
told_at (c ∷ cs) (false ∷ bs) h lt = record { inside = omega arith; failed = λ other m. not_met c h.0 m; before = All-nil Meets }
told_at (c ∷ cs) (true ∷ bs) h lt =
    let n = position_or_len (λ answer. not answer) bs in
    let rest = told_at cs bs h.1 (omega arith) in
    let inside = rest.inside in
    subst (IsFirstFailed (c ∷ cs)) (sym (one-add n)) (record {
      inside = omega arith;
      failed = λ other m. rest.failed other m;
      before = All-cons Meets c (take n cs) (h.0.0 refl) rest.before;
    })

told_none : (cases : List Case) (answers : List Bool) → AreDecided cases answers → length answers ≤ position_or_len (λ answer. not answer) answers → All Meets cases
told_none [] [] h le = All-nil Meets
told_none [] (b ∷ bs) h le = absurd h
told_none (c ∷ cs) [] h le = absurd h
told_none (c ∷ cs) (false ∷ bs) h le = absurd (omega arith)
told_none (c ∷ cs) (true ∷ bs) h le = All-cons Meets c cs (h.0.0 refl) (told_none cs bs h.1 (omega arith))

pub told : (cases : List Case) (answers : List Bool) → AreDecided cases answers → Told cases (position (λ answer. not answer) answers)
told cases answers h = step (ltb (position_or_len (λ answer. not answer) answers) (length answers)) refl
  where
    step : (b : Bool) → ltb (position_or_len (λ answer. not answer) answers) (length answers) ≡ b → Told cases (cond b (Some (position_or_len (λ answer. not answer) answers)) None)
    step true e = told_at cases answers h (ltb-true _ _ e)
    step false e = told_none cases answers h (ltb-false _ _ e)
