use Rattle.input_lines.proofs.FirstBytes.{first_is_position}
use Rattle.input_lines.proofs.input.first_newline.Goals as goal

pub returns : goal.returns
returns c = first_is_position c.args.text.now c.memchr.result c.memchr.ensures
