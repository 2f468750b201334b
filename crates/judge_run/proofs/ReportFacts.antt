-- A report while it is made, and while it is written.
use Rattle.std.proofs.Common.{◌≡◌, ℕ, ◌+◌, ◌<◌, ◌≤◌, Bool, true, false, ◌||◌, cond, List, [], ◌∷◌, ◌++◌, length, take, drop, get_or, refl, sym, ap, ◌∙◌, subst, arith, append_assoc, append-nil, Option}
use Rattle.std.specs.List.{concat, count_by, list_any}
use Rattle.std.proofs.lemmas.List.{take-append-drop, take_more}
use Rattle.std.proofs.lemmas.List.Folds.{concat-append}
use Rattle.std.proofs.lemmas.List.Recursion.{is_count_by}
use Rattle.sb_outside.specs.Outside.{appended}
use Rattle.sb_outside.specs.Writing.{HasFront}
use Rattle.input_lines.specs.Ways.{appended-twice, drop_some, front_more, way_front}
use Rattle.verdict_report.specs.Printed.{report_line, report_lines, summary_text, is_undecided, is_judged_refused, is_judged_unsafe, counts_of}
use Rattle.verdict_report.specs.declared.verdicts.Judged.{Judged}
use Rattle.verdict_report.specs.declared.counts.Counts.{Counts}
use Rattle.judge_run.specs.Printed.{is_left_open, report_text, outcome_of_all}
use Rattle.judge_run.specs.declared.judgement.Outcome.TheVariants.{Safe, Unsafe, Open}
use Rattle.judge_run.specs.Reporting.{IsReport, pages_text}
use Rattle.judge_run.specs.declared.report.Report.{Report}

-- ---- one URL more

line_with : (a b : ℕ) (one : Judged) → a ≡ b → report_line a one ≡ report_line b one
line_with a b one h = ap (λ n. report_line n one) h

pub lines_one_more : (n : ℕ) (all : List Judged) (one : Judged) → report_lines n (all ++ one ∷ []) ≡ report_lines n all ++ report_line (n + length all) one
lines_one_more n [] one = append-nil (report_line n one) ∙ line_with n (n + 0) one (omega arith)
lines_one_more n (first ∷ all) one =
    ap (λ rest. report_line n first ++ rest) (lines_one_more (n + 1) all one)
    ∙ (sym (append_assoc (report_line n first) (report_lines (n + 1) all) (report_line (n + 1 + length all) one))
    ∙ ap (λ last. (report_line n first ++ report_lines (n + 1) all) ++ last) (line_with (n + 1 + length all) (n + length (first ∷ all)) one (omega arith)))

-- a page that was full stands behind the others, and the next is empty
pub turned : (full full' : List (List ℕ)) (page page' next : List ℕ) → full' ≡ full ++ page' ∷ [] → page' ≡ page → next ≡ [] → concat full' ++ next ≡ concat full ++ page
turned full full' page page' next pushed same empty =
    ap (λ last. concat full' ++ last) empty
    ∙ (append-nil (concat full')
    ∙ (ap (λ (pages : List (List ℕ)). concat pages) pushed
    ∙ (ap (λ (last : List ℕ). concat (full ++ last ∷ [])) same
    ∙ (concat-append full (page ∷ []) ∙ ap (λ last. concat full ++ last) (append-nil page)))))

pub report_more : (before between after : Report) (all : List Judged) (one : Judged) → IsReport before all
    → pages_text between ≡ pages_text before → between.counts ≡ before.counts → after.full ≡ between.full
    → after.page ≡ between.page ++ report_line (between.counts.urls + 1) one
    → (between.counts ≡ counts_of all → after.counts ≡ counts_of (all ++ one ∷ [])) → IsReport after (all ++ one ∷ [])
report_more before between after all one is text same full page counted =
    let counts : between.counts ≡ counts_of all = same ∙ is.counts in
    let number : between.counts.urls + 1 ≡ 1 + length all = let e : between.counts.urls ≡ length all = ap (λ (c : Counts). c.urls) counts in omega (arith, e) in
    record {
      text = ap (λ full. concat full ++ after.page) full
          ∙ (ap (λ page. concat between.full ++ page) page
          ∙ (sym (append_assoc (concat between.full) between.page (report_line (between.counts.urls + 1) one))
          ∙ (ap (λ done. done ++ report_line (between.counts.urls + 1) one) (text ∙ is.text)
          ∙ (ap (λ last. report_lines 1 all ++ last) (line_with (between.counts.urls + 1) (1 + length all) one number)
          ∙ sym (lines_one_more 1 all one)))));
      counts = counted counts;
    }

-- ---- what is said of them together

abbrev count : (Judged → Bool) → List Judged → ℕ
count p [] = 0
count p (one ∷ all) = cond (p one) (1 + count p all) (count p all)

counted : (p : Judged → Bool) (all : List Judged) → count p all ≡ count_by p all
counted p all = is_count_by (count p) p refl (λ one more. refl) all

none_of : (p : Judged → Bool) (all : List Judged) → count p all ≡ 0 → list_any p all ≡ false
none_of p [] h = refl
none_of p (one ∷ all) h = step (p one) refl h (λ k. none_of p all k)
  where
    step : (b : Bool) → p one ≡ b → cond b (1 + count p all) (count p all) ≡ 0 → (count p all ≡ 0 → list_any p all ≡ false) → (p one || list_any p all) ≡ false
    step true e h rest = absurd (omega (arith, h))
    step false e h rest = ap (λ c. c || list_any p all) e ∙ rest h

some_of : (p : Judged → Bool) (all : List Judged) → 0 < count p all → list_any p all ≡ true
some_of p [] h = absurd (omega (arith, h))
some_of p (one ∷ all) h = step (p one) refl h (λ k. some_of p all k)
  where
    step : (b : Bool) → p one ≡ b → 0 < cond b (1 + count p all) (count p all) → (0 < count p all → list_any p all ≡ true) → (p one || list_any p all) ≡ true
    step true e h rest = ap (λ c. c || list_any p all) e
    step false e h rest = ap (λ c. c || list_any p all) e ∙ rest h

either : (a b c d : Bool) → ((a || b) || (c || d)) ≡ ((a || c) || (b || d))
either true b c d = refl
either false true true d = refl
either false true false true = refl
either false true false false = refl
either false false c d = refl

any_either : (all : List Judged) → list_any is_left_open all ≡ (list_any is_undecided all || list_any is_judged_refused all)
any_either [] = refl
any_either (one ∷ all) =
    ap (λ rest. is_left_open one || rest) (any_either all) ∙ either (is_undecided one) (is_judged_refused one) (list_any is_undecided all) (list_any is_judged_refused all)

said : (a b : Bool) (all : List Judged) → list_any is_judged_unsafe all ≡ a → list_any is_left_open all ≡ b → outcome_of_all all ≡ cond a Unsafe (cond b Open Safe)
said a b all one other = ap (λ x. cond x Unsafe (cond (list_any is_left_open all) Open Safe)) one ∙ ap (λ x. cond a Unsafe (cond x Open Safe)) other

module _ (counts : Counts) (all : List Judged) (same : counts ≡ counts_of all) where
  found : count is_judged_unsafe all ≡ counts.found_unsafe
  found = counted is_judged_unsafe all ∙ ap (λ (c : Counts). c.found_unsafe) (sym same)

  left_open : count is_undecided all ≡ counts.undecided
  left_open = counted is_undecided all ∙ ap (λ (c : Counts). c.undecided) (sym same)

  turned_away : count is_judged_refused all ≡ counts.refused
  turned_away = counted is_judged_refused all ∙ ap (λ (c : Counts). c.refused) (sym same)

  none_found : counts.found_unsafe ≤ 0 → list_any is_judged_unsafe all ≡ false
  none_found h = none_of is_judged_unsafe all (omega (arith, found, h))

  pub said_unsafe : 0 < counts.found_unsafe → Unsafe ≡ outcome_of_all all
  said_unsafe h = sym (said true (list_any is_left_open all) all (some_of is_judged_unsafe all (omega (arith, found, h))) refl)

  pub said_undecided : counts.found_unsafe ≤ 0 → 0 < counts.undecided → Open ≡ outcome_of_all all
  said_undecided none h =
      sym (said false true all (none_found none) (any_either all ∙ ap (λ b. b || list_any is_judged_refused all) (some_of is_undecided all (omega (arith, left_open, h)))))

  pub said_refused : counts.found_unsafe ≤ 0 → counts.undecided ≤ 0 → 0 < counts.refused → Open ≡ outcome_of_all all
  said_refused none decided h =
      sym (said false true all (none_found none)
      (any_either all ∙ (ap (λ b. b || list_any is_judged_refused all) (none_of is_undecided all (omega (arith, left_open, decided))) ∙ some_of is_judged_refused all (omega (arith, turned_away, h)))))

  pub said_safe : counts.found_unsafe ≤ 0 → counts.undecided ≤ 0 → counts.refused ≤ 0 → Safe ≡ outcome_of_all all
  said_safe none decided taken =
      sym (said false false all (none_found none)
      (any_either all ∙ (ap (λ b. b || list_any is_judged_refused all) (none_of is_undecided all (omega (arith, left_open, decided))) ∙ none_of is_judged_refused all (omega (arith, turned_away, taken)))))

-- ---- writing

-- a text behind what was written before it
pub front_behind : (a b c : Option (List ℕ)) (page text : List ℕ) → b ≡ appended a page → HasFront b c text → HasFront a c (page ++ text)
front_behind a b c page text h front = way_front [] page text (record { taken = page; has = h; rest = append-nil page }) front

pub front_of_page : (a b : Option (List ℕ)) (page : List ℕ) (n : ℕ) → n < length page → b ≡ appended a (take n page) → HasFront a b page
front_of_page a b page n within has =
    record { taken = take n page; lost = drop n page; has = has; rest = take-append-drop n page; missing = drop_some n page within }

pub pages_more : (pages : List (List ℕ)) (i : ℕ) (page : List ℕ) → page ≡ get_or pages i page → i < length pages → concat (take (i + 1) pages) ≡ concat (take i pages) ++ page
pages_more pages i page is within =
    ap (λ (ps : List (List ℕ)). concat ps) (take_more pages i page within)
    ∙ (ap (λ (one : List ℕ). concat (take i pages ++ one ∷ [])) (sym is)
    ∙ (concat-append (take i pages) (page ∷ []) ∙ ap (λ last. concat (take i pages) ++ last) (append-nil page)))

pub page_written : (a b c : Option (List ℕ)) (pages : List (List ℕ)) (i : ℕ) (page text : List ℕ) → page ≡ get_or pages i page → text ≡ page → i < length pages
    → b ≡ appended a (concat (take i pages)) → c ≡ appended b text → c ≡ appended a (concat (take (i + 1) pages))
page_written a b c pages i page text is same within so_far now =
    now ∙ (ap (λ last. appended b last) same
    ∙ (ap (λ known. appended known page) so_far
    ∙ (appended-twice a (concat (take i pages)) page ∙ ap (λ text. appended a text) (sym (pages_more pages i page is within)))))

pub front_of_pages : (a b c : Option (List ℕ)) (pages : List (List ℕ)) (i : ℕ) (page text : List ℕ) → page ≡ get_or pages i page → text ≡ page → i < length pages
    → b ≡ appended a (concat (take i pages)) → HasFront b c text → HasFront a c (concat pages)
front_of_pages a b c pages i page text is same within so_far front =
    subst (λ (text : List ℕ). HasFront a c text)
    (ap (λ done. done ++ concat (drop (i + 1) pages)) (sym (pages_more pages i page is within))
    ∙ (sym (concat-append (take (i + 1) pages) (drop (i + 1) pages)) ∙ ap (λ (ps : List (List ℕ)). concat ps) (take-append-drop (i + 1) pages)))
    (front_more (concat (take i pages) ++ page) (concat (drop (i + 1) pages))
    (front_behind a b c (concat (take i pages)) page so_far (subst (λ (text : List ℕ). HasFront b c text) same front)))

-- the pages, and the last with the summary
report_whole : (report : Report) (all : List Judged) → IsReport report all → concat report.full ++ (report.page ++ summary_text all) ≡ report_text all
report_whole report all is = sym (append_assoc (concat report.full) report.page (summary_text all)) ∙ ap (λ lines. lines ++ summary_text all) is.text

pub report_written : (a b c : Option (List ℕ)) (report : Report) (all : List Judged) → IsReport report all
    → b ≡ appended a (concat report.full) → c ≡ appended b (report.page ++ summary_text all) → c ≡ appended a (report_text all)
report_written a b c report all is pages last =
    last ∙ (ap (λ known. appended known (report.page ++ summary_text all)) pages
    ∙ (appended-twice a (concat report.full) (report.page ++ summary_text all) ∙ ap (λ text. appended a text) (report_whole report all is)))

pub front_of_report : (a b c : Option (List ℕ)) (report : Report) (all : List Judged) → IsReport report all
    → b ≡ appended a (concat report.full) → HasFront b c (report.page ++ summary_text all) → HasFront a c (report_text all)
front_of_report a b c report all is pages front =
    subst (λ (text : List ℕ). HasFront a c text) (report_whole report all is) (front_behind a b c (concat report.full) (report.page ++ summary_text all) pages front)

pub front_of_lines : (a b : Option (List ℕ)) (report : Report) (all : List Judged) → IsReport report all
    → HasFront a b (concat report.full) → HasFront a b (report_text all)
front_of_lines a b report all is front =
    subst (λ (text : List ℕ). HasFront a b text) (report_whole report all is) (front_more (concat report.full) (report.page ++ summary_text all) front)
