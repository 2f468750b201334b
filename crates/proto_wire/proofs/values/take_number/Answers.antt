use Rattle.std.proofs.Common.{ap}
use Rattle.std.proofs.lemmas.Result.{err_from_is_err_and}
use Rattle.proto_wire.specs.Wire.{VarintValue}
use Rattle.proto_wire.specs.Reading.{found_as, value_at}
use Rattle.proto_wire.proofs.values.take_number.Goals as goal

pub returns-in_err-taken-clause-fault : goal.returns-in_err-taken-clause-fault
unfolding value_at
returns-in_err-taken-clause-fault c =
    let err = err_from_is_err_and c.from_residual.result c.from_residual.ensures.1 in
    rw (err.1, err.2) (ap (found_as VarintValue) c.in_err-taken.ensures.fault)

pub returns-clause-read : goal.returns-clause-read
unfolding value_at
returns-clause-read c = ap (found_as VarintValue) c.in_ok-taken.ensures.read
