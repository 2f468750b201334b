use Rattle.std.proofs.Common.{ℕ, List, Ok, sym, ap, ◌∙◌}
use Rattle.std.proofs.lemmas.Result.{err_from_is_err_and}
use Rattle.std.specs.Int.{w64, from_le_bytes}
use Rattle.proto_wire.specs.Wire.{Fixed64Value}
use Rattle.proto_wire.specs.Reading.{found_as, value_at}
use Rattle.proto_wire.proofs.values.take_fixed64.Goals as goal

pub returns-in_err-taken-clause-fault : goal.returns-in_err-taken-clause-fault
unfolding value_at
returns-in_err-taken-clause-fault c =
    let err = err_from_is_err_and c.from_residual.result c.from_residual.ensures.1 in
    rw (err.1, err.2) (ap (found_as (λ (bytes : List ℕ). Fixed64Value (from_le_bytes w64 bytes))) c.in_err-taken.ensures.fault)

pub returns-clause-read : goal.returns-clause-read
unfolding value_at
returns-clause-read c =
    ap (found_as (λ (bytes : List ℕ). Fixed64Value (from_le_bytes w64 bytes))) c.in_ok-taken.ensures.read
    ∙ ap (λ (number : ℕ). Ok (Fixed64Value number, c.in_ok-taken.taken.rest.now)) (sym c.from_le_bytes.ensures)
