use Rattle.sb_service.proofs.Turns.{loud_line, quiet_line}
use Rattle.sb_service.proofs.serve.tell_end.Goals as goal

pub returns-then-quiet-clause-lined : goal.returns-then-quiet-clause-lined
returns-then-quiet-clause-lined g c = quiet_line c.args.quiet _ _ _ c.if-quiet.true

pub returns-clause-lined : goal.returns-clause-lined
returns-clause-lined g c = loud_line c.args.quiet _ _ _ _ _ c.if-quiet.false c.print_end.ensures.lined
