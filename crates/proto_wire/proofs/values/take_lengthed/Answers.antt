use Rattle.std.proofs.Common.{ℕ, ap, ◌∙◌}
use Rattle.std.proofs.lemmas.Result.{err_from_is_err_and}
use Rattle.proto_wire.specs.Wire.{BytesValue}
use Rattle.proto_wire.specs.Reading.{Found, found_as, found_then, first_bytes_at, value_at}
use Rattle.proto_wire.proofs.values.take_lengthed.Goals as goal

pub returns-in_err-count-clause-fault : goal.returns-in_err-count-clause-fault
unfolding value_at
returns-in_err-count-clause-fault c =
    let err = err_from_is_err_and c.from_residual.result c.from_residual.ensures.1 in
    rw (err.1, err.2) (ap (λ (found : Found ℕ). found_as BytesValue (found_then (first_bytes_at c.args.place) found)) c.in_err-count.ensures.fault)

pub returns-in_err-taken-clause-fault : goal.returns-in_err-taken-clause-fault
unfolding value_at
returns-in_err-taken-clause-fault c =
    let err = err_from_is_err_and c.from_residual-in_err-taken.result c.from_residual-in_err-taken.ensures.1 in
    rw (err.1, err.2) (
    ap (λ (found : Found ℕ). found_as BytesValue (found_then (first_bytes_at c.args.place) found)) c.in_ok-count.ensures.read
    ∙ ap (found_as BytesValue) c.in_err-taken.ensures.fault)

pub returns-clause-read : goal.returns-clause-read
unfolding value_at
returns-clause-read c =
    ap (λ (found : Found ℕ). found_as BytesValue (found_then (first_bytes_at c.args.place) found)) c.in_ok-count.ensures.read
    ∙ ap (found_as BytesValue) c.in_ok-taken.ensures.read
