use Rattle.std.proofs.Common.{arith}
use Rattle.std.proofs.lemmas.Grind.{common_steps}
use Rattle.http_edge.proofs.FieldValues.{count_more}
use Rattle.http_edge.proofs.fields.value_count.Goals as goal
use Rattle.http_edge.proofs.fields.value_count.Goals.{then-is_some, else-is_some}

pub loop-field-preserved : goal.loop-field-preserved
loop-field-preserved c =
    let more = count_more c.args.buffer.now c.args.fields.now c.args.name.now c.loop-field.field-index _ c.value_if_named.result
    c.loop-field-test.true c.value_if_named.ensures in
    elim c.if-is_some.branch [ then-is_some w ↦ grind (arith, common_steps, more) | else-is_some w ↦ grind (arith, common_steps, more) ]
