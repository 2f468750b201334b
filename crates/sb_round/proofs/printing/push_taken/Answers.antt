use Rattle.std.proofs.Common.{[], ◌∷◌, ◌++◌, ◌∙◌, ap, append_assoc}
use Rattle.std.proofs.lemmas.Result.{on_err_weaker}
use Rattle.sb_round.proofs.Fronts.{front_of}
use Rattle.sb_round.proofs.printing.push_taken.Goals as goal

pub returns-clause-front : goal.returns-clause-front
returns-clause-front c =
    on_err_weaker c.push_result.result
    (front_of c.args.page.now _ c.push.new.self c.push_result.new.page
    (c.in_ok-push.ensures.ok ∙ ap (λ text. text ++ 32 ∷ []) c.in_ok-push_name.ensures.ok ∙ append_assoc c.args.page.now _ (32 ∷ [])))
    c.push_result.ensures.front
