use Rattle.std.proofs.Common.{rules}
use Rattle.std.proofs.lemmas.List.{append_assoc}
use Rattle.proto_wire.specs.Spelling.{written_field}
use Rattle.proto_wire.proofs.writing.push_number.Goals as goal

pub returns-clause-ok : goal.returns-clause-ok
unfolding written_field
returns-clause-ok c = search (rules, append_assoc)
