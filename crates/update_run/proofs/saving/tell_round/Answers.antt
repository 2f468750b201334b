use Rattle.std.proofs.Common.{List, ◌++◌, ap, ◌∙◌}
use Rattle.update_client.specs.Held.{Held}
use Rattle.update_run.specs.Printed.{not_answered, not_answered_lines}
use Rattle.update_run.proofs.Saves.{told_err, told_to_end, not_told_to_end}
use Rattle.update_run.proofs.saving.tell_round.Goals as goal

pub returns-in-Err-clause-stopped : goal.returns-in-Err-clause-stopped
returns-in-Err-clause-stopped g c =
    told_err c.in-Err.stop c.args.number c.args.end.now c.args.lists.now _ _ _ _ c.args.page.now c.push_round.new.page c.requires c.in-Ok.ensures.ok
    c.in-Err.ensures.some c.in-Err.ensures.stopped

pub returns-in-Ok-push_not_answered-clause-text : goal.returns-in-Ok-push_not_answered-clause-text
returns-in-Ok-push_not_answered-clause-text g c =
    told_to_end c.args.number c.args.end.now c.args.lists.now _ _ c.args.page.now c.push_round.new.page c.save_installed.new.page c.requires c.in-Ok.ensures.ok c.in-Ok-save_installed.ensures.text
    c.push_not_answered.new.page
    (c.in-Ok-push_not_answered.ensures
    ∙ ap (λ (lists : List Held). c.save_installed.new.page ++ not_answered_lines c.args.number (not_answered lists c.args.end.now.taken)) c.lists.ensures.value)

pub returns-in-Err-push_not_answered-clause-stopped : goal.returns-in-Err-push_not_answered-clause-stopped
returns-in-Err-push_not_answered-clause-stopped g c =
    not_told_to_end c.args.number c.args.end.now c.args.lists.now _ _ c.args.page.now c.push_round.new.page c.save_installed.new.page c.requires c.in-Ok.ensures.ok c.in-Ok-save_installed.ensures.text
    _ _ c.in-Ok-save_installed.ensures.waits c.in-Ok-save_installed.ensures.saved
