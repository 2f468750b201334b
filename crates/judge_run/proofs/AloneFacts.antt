-- A run that looks each URL up itself, as one beside no updates.
use Rattle.std.proofs.Common.{◌≡◌, ◌+◌, ◌*◌, ◌<◌, ◌≤◌, ℕ, zero, suc, List, [], ◌∷◌, false, length, map, refl, sym, subst, append-nil, Option, Some, None, Ok, Err, arith}
use Rattle.std.specs.Prelude.{slice_get, IfOk}
use Rattle.std.proofs.lemmas.List.Elements.{All-nil}
use Rattle.sb_outside.specs.Outside.{IfTold}
use Rattle.sb_round.specs.Rounds.{BeginsRounds}
use Rattle.snapshot_publish.specs.Publications.{Publications}
use Rattle.input_lines.specs.Lines.{lines_of}
use Rattle.update_run.specs.Run.{Seen}
use Rattle.update_run.specs.Saved.{HasSaved, Keeping, ReadsAgain}
use Rattle.update_run.specs.Steps.{round_state_of}
use Rattle.update_run.specs.declared.client.Client.{Client}
use Rattle.url_checker.specs.declared.finds.Finds.{Finds}
use Rattle.url_checker.specs.declared.findings.Finding.{Finding}
use Rattle.url_checker.specs.declared.findings.Checked.TheVariants.{Found}
use Rattle.wait_rules.specs.declared.waits.WaitState.{WaitState}
use Rattle.judge_run.specs.Checked.{NumbersNeverFall}
use Rattle.judge_run.specs.Judging.{Case, AreCases, check_of, finds_after}
use Rattle.judge_run.specs.Run.{JudgeEnding, EndsReporting, EndsUpdating}
use Rattle.judge_run.specs.declared.plan.JudgePlan.{JudgePlan}
use Rattle.judge_run.proofs.Cases.{told_nothing}
use Rattle.judge_run.proofs.Endings.{any_end}

-- ---- a keeper that was handed nothing

told_itself : {A : Type 0} (known : Option A) → IfTold known known
told_itself None = tt
told_itself (Some told) = refl

saved_nothing : (keeper : Keeping) → HasSaved [] keeper keeper
saved_nothing keeper = record { handed = told_nothing keeper.handed; keeps = told_itself keeper.kept; reads = All-nil ReadsAgain }

-- ---- the numbers of checks

-- each finding names a publication
numbers_are : (plan : JudgePlan) (published : Publications) (finds : Finds) (lines : List (List ℕ)) (cases : List Case) → AreCases plan published finds lines cases
    → (index : ℕ) (finding : Finding) → slice_get (map check_of cases) index ≡ Some (Found finding) → finding.number < length published
numbers_are plan published finds [] [] are index finding e = absurd (cc)
numbers_are plan published finds [] (case ∷ cases) are index finding e = absurd are
numbers_are plan published finds (line ∷ lines) [] are index finding e = absurd are
numbers_are plan published finds (line ∷ lines) (Ok answered ∷ cases) (is, are) zero finding e =
    let same : answered.finding ≡ finding = cc in
    subst (λ (f : Finding). f.number < length published) same is.0.there
numbers_are plan published finds (line ∷ lines) (Err fault ∷ cases) (is, are) zero finding e = absurd (cc)
numbers_are plan published finds (line ∷ lines) (case ∷ cases) (is, are) (suc index) finding e =
    numbers_are plan published (finds_after published finds case) lines cases are index finding e

-- with one publication they are all one
all_one : (first later : ℕ) → first < 1 → first ≤ later
all_one first later h = omega (arith, h)

pub never_fall_on_one : (seats : ℕ) (plan : JudgePlan) (published : Publications) (finds : Finds) (lines : List (List ℕ)) (cases : List Case) → length published ≡ 1 → AreCases plan published finds lines cases
    → NumbersNeverFall seats (map check_of cases)
never_fall_on_one seats plan published finds lines cases one are place below turn turn' first later order at at' =
    let number = numbers_are plan published finds lines cases are (place + turn * seats) first at in
    all_one first.number later.number (omega (arith, number, one))

-- ---- from a client on

pub ends_alone : BeginsRounds → (plan : JudgePlan) (client : Client) (finds : WaitState) (text text' : List ℕ) (before after : Seen) (ending : JudgeEnding)
    → plan.updates.rounds ≡ 0 → text ≡ text' → EndsReporting plan ending (client.lists ∷ []) finds client.page (lines_of text) before after → IfOk ending (λ judgement. judgement.refused ≡ false)
    → EndsUpdating plan ending client finds (lines_of text') before after
ends_alone go plan client finds text text' before after ending none same ends refused =
    any_end ending plan client finds (lines_of text') before before after
    (record {
      rounds = [];
      all = sym none;
      state = round_state_of client;
      made = go (round_state_of client) plan.updates.options plan.updates.target plan.updates.need_digest before.outside;
      saved = saved_nothing before.keeper;
      waiting = refl;
      counted = omega arith;
      idle = λ _. refl;
    })
    (subst (λ (page : List ℕ). EndsReporting plan ending (client.lists ∷ []) finds page (lines_of text') before after) (sym (append-nil client.page))
    (subst (λ (input : List ℕ). EndsReporting plan ending (client.lists ∷ []) finds client.page (lines_of input) before after) same ends))
    refused
