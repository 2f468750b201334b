use Rattle.std.proofs.Common.{sym}
use Rattle.sb_model.proofs.NameParts.{parts_cut, parts_none}
use Rattle.sb_model.proofs.names.split_at_slash.Goals as goal

pub returns-in_default : goal.returns-in_default
returns-in_default c = parts_none c.args.text.now (sym c.in_default.ensures)

pub returns : goal.returns
returns c = parts_cut c.args.text.now c.in-Some.slash (sym c.in-Some.ensures)
