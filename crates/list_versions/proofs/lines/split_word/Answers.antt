use Rattle.std.proofs.Common.{sym}
use Rattle.list_versions.proofs.Words.{words_cut, words_none}
use Rattle.list_versions.proofs.lines.split_word.Goals as goal

pub returns-in_default : goal.returns-in_default
returns-in_default c = words_none c.args.text.now (sym c.in_default.ensures)

pub returns : goal.returns
returns c = words_cut c.args.text.now c.in-Some.space (sym c.in-Some.ensures)
