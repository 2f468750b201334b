use Rattle.std.proofs.Common.{rules}
use Rattle.std.proofs.lemmas.List.{append_assoc}
use Rattle.proto_wire.specs.Spelling.{written_field}
use Rattle.proto_wire.proofs.writing.push_bytes.Goals as goal

pub returns-else-is_err-clause-ok : goal.returns-else-is_err-clause-ok
unfolding written_field
returns-else-is_err-clause-ok c = search (rules, append_assoc)
