use Rattle.std.proofs.Common.{sym, ◌∙◌}
use Rattle.update_run.proofs.Saves.{nothing_to_save}
use Rattle.update_run.proofs.saving.save_installed.Goals as goal

pub returns-clause-saved : goal.returns-clause-saved
returns-clause-saved g c = nothing_to_save c.args.end.now.taken c.args.lists.now _ (sym c.has_installed.ensures ∙ c.if-has_installed.false)
