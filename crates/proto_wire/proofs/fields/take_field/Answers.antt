use Rattle.std.proofs.Common.{◌/◌, sym, ap, ◌∙◌, rules}
use Rattle.std.proofs.lemmas.Bool.{false≢true}
use Rattle.std.proofs.lemmas.Result.{err_from_is_err_and}
use Rattle.proto_wire.specs.Wire.{IsFieldNumber}
use Rattle.proto_wire.specs.Reading.{found_then, after_key, field_at}
use Rattle.proto_wire.proofs.ValueFacts.{key_value, key_fault, key_beyond}
use Rattle.proto_wire.proofs.fields.take_field.Goals as goal

pub returns-in_err-key-clause-fault : goal.returns-in_err-key-clause-fault
unfolding field_at
returns-in_err-key-clause-fault c =
    let err = err_from_is_err_and c.from_residual.result c.from_residual.ensures.1 in
    rw (err.1, err.2) (ap (found_then (after_key c.args.place)) c.in_err-key.ensures.fault)

pub returns-then-not-is_field_number-clause-fault : goal.returns-then-not-is_field_number-clause-fault
unfolding field_at
returns-then-not-is_field_number-clause-fault c =
    ap (found_then (after_key c.args.place)) c.in_ok-key.ensures.read
    ∙ key_beyond c.args.place c.in_ok-key.key.number c.in_ok-key.key.rest.now (λ some few. false≢true (sym c.if-not-is_field_number.true ∙ c.is_field_number.ensures.1 (some, few)))

pub returns-in_err-taken-clause-fault : goal.returns-in_err-taken-clause-fault
unfolding field_at
returns-in_err-taken-clause-fault c =
    let err = err_from_is_err_and c.from_residual-in_err-taken.result c.from_residual-in_err-taken.ensures.1 in
    let number : IsFieldNumber (c.in_ok-key.key.number / 8) = search rules in
    rw (err.1, err.2) (
    ap (found_then (after_key c.args.place)) c.in_ok-key.ensures.read
    ∙ key_fault c.args.place c.in_ok-key.key.number c.in_ok-key.key.rest.now c.in_err-taken.field-0.0 number.0 number.1 c.in_err-taken.ensures.fault)

pub returns-clause-read : goal.returns-clause-read
unfolding field_at
returns-clause-read c =
    let number : IsFieldNumber (c.in_ok-key.key.number / 8) = search rules in
    ap (found_then (after_key c.args.place)) c.in_ok-key.ensures.read
    ∙ key_value c.args.place c.in_ok-key.key.number c.in_ok-key.key.rest.now _ c.in_ok-taken.taken.rest.now number.0 number.1 c.in_ok-taken.ensures.read
