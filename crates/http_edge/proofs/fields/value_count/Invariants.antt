use Rattle.std.proofs.Common.{◌≡◌, ◌≤◌, length, take}
use Rattle.http_edge.specs.Fields.{values_at}
use Rattle.http_edge.proofs.fields.value_count.Given as goal

abbrev pub invariant-loop-field : goal.invariant-loop-field
invariant-loop-field l = record {
  counted : l.count ≡ length (values_at l.buffer (take l.field-index l.fields) l.name);
  bounded : l.count ≤ l.field-index;
}
