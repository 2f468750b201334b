use Rattle.http_edge.proofs.FieldValues.{none_more, first_found}
use Rattle.http_edge.proofs.fields.first_value.Goals as goal

pub returns-in-Some-clause-first : goal.returns-in-Some-clause-first
returns-in-Some-clause-first c =
    first_found c.args.buffer.now c.args.fields.now c.args.name.now c.loop-field.field-index _ c.value_if_named.result c.in-Some.value
    c.loop-field-test.true c.loop-field.invariant c.value_if_named.ensures c.in-Some.is

pub loop-field-preserved : goal.loop-field-preserved
loop-field-preserved c =
    none_more c.args.buffer.now c.args.fields.now c.args.name.now c.loop-field.field-index _ c.value_if_named.result
    c.loop-field-test.true c.loop-field.invariant c.value_if_named.ensures c.in_default.is
