use Rattle.input_lines.proofs.InputLines.{each_plain, joined_whole}
use Rattle.input_lines.proofs.laws.lines_are_the_input.Goals as goal

pub returns-clause-plain : goal.returns-clause-plain
returns-clause-plain c = each_plain

pub returns-clause-whole : goal.returns-clause-whole
returns-clause-whole c = joined_whole
