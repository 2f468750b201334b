use Rattle.std.proofs.Common.{◌≡◌, true, false, List, ℕ, refl, sym, ap, ◌∙◌}
use Rattle.sb_model.specs.History.{History, declares}
use Rattle.generated_load.specs.Exercise.{HasRoom, exercise_line, line_of_history}
use Rattle.generated_load.specs.Generated.{generated, generated_list}
use Rattle.generated_load.proofs.Asked.{if_ok}
use Rattle.generated_load.proofs.exercising.exercise.Goals as goal

it_declares : (count seed : ℕ) → declares (generated count seed) generated_list ≡ true
unfolding generated
it_declares count seed = refl

pub returns-clause-line : goal.returns-clause-line
unfolding exercise_line
returns-clause-line c =
    let count = c.args.count in
    let seed = c.args.seed in
    let history = c.in_ok-history.history.versions in
    if_ok (λ (line : List ℕ). line ≡ line_of_history history count seed) (λ (line : List ℕ). HasRoom count seed → line ≡ line_of_history (generated count seed) count seed) c.line_of.result
    (λ line is room. is ∙ ap (λ (h : History). line_of_history h count seed) (c.in_ok-history.ensures.loaded room)) c.line_of.ensures.line

pub returns-clause-past : goal.returns-clause-past
returns-clause-past c = λ e room.
    let same = ap (λ (h : History). declares h generated_list) (c.in_ok-history.ensures.loaded room) in
    let no : false ≡ true = sym (c.line_of.ensures.past e) ∙ same ∙ it_declares c.args.count c.args.seed in
    cc
