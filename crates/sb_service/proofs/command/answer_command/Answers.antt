use Rattle.std.proofs.Common.{sym}
use Rattle.sb_service.proofs.Commands.{asks_answer}
use Rattle.sb_service.proofs.command.answer_command.Goals as goal

pub returns-in-Ok-Some : goal.returns-in-Ok-Some
returns-in-Ok-Some c = asks_answer _ _ (sym (rw c.in-Ok-Some.field-0-is at c.in-Ok-Some.ensures))
