use Rattle.list_versions.specs.Lines.{is_space}
use Rattle.list_versions.proofs.FirstBytes.{first_is_position}
use Rattle.list_versions.proofs.lines.space_in.Goals as goal

pub returns : goal.returns
returns c = first_is_position is_space c.args.text.now c.memchr.result c.memchr.ensures
