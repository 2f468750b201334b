use Rattle.list_versions.specs.Lines.{is_newline}
use Rattle.list_versions.proofs.FirstBytes.{first_is_position}
use Rattle.list_versions.proofs.split.newline_in.Goals as goal

pub returns : goal.returns
returns c = first_is_position is_newline c.args.text.now c.memchr.result c.memchr.ensures
