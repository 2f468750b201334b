use Rattle.std.proofs.Common.{[], ◌∷◌, Err, ap, sym, ◌∙◌}
use Rattle.std.proofs.lemmas.Result.{IfOk-weaker}
use Rattle.update_client.specs.Held.{tokens_of}
use Rattle.judge_run.proofs.Cases.{found_first, first_lists_are, refused_line}
use Rattle.judge_run.proofs.alone.look_up.Goals as goal

pub returns-in-Ok-clause-judged : goal.returns-in-Ok-clause-judged
returns-in-Ok-clause-judged g c =
    let lists = c.args.lists.now in
    let line = c.args.text.now in
    let found = c.in-Ok.ensures.finding in
    IfOk-weaker c.resolve_finding.result _ _ (λ one judged. judged.judges)
    (c.resolve_finding.ensures.judged (lists ∷ []) line (c.requires.states ∙ sym (ap tokens_of (first_lists_are lists line c.in-Ok.finding found)))
    (found_first lists line c.in-Ok.finding found))

pub returns-in-Err-Url-clause-judged : goal.returns-in-Err-Url-clause-judged
returns-in-Err-Url-clause-judged g c =
    let is = c.in-Err-Url.ensures.refused c.in-Err-Url.fault (ap Err c.in-Err-Url.field-0-is) in
    refused_line c.args.plan.now (c.args.lists.now ∷ []) _ _ c.args.text.now c.in-Err-Url.fault _ c.in-Err-Url.fault-is is
