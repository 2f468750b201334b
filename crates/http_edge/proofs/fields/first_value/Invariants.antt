use Rattle.std.proofs.Common.{◌≡◌, [], take}
use Rattle.http_edge.specs.Fields.{values_at}
use Rattle.http_edge.proofs.fields.first_value.Given as goal

abbrev pub invariant-loop-field : goal.invariant-loop-field
invariant-loop-field l = values_at l.buffer (take l.field-index l.fields) l.name ≡ []
