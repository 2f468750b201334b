use Rattle.std.proofs.Common.{ap, refl, Some}
use Rattle.list_versions.proofs.Hexes.{bytes_short, bytes_found, bytes_lost, decoded, refused}
use Rattle.list_versions.proofs.lines.epoch.Goals as goal

pub returns-then-digits-ne16 : goal.returns-then-digits-ne16
returns-then-digits-ne16 c = bytes_short c.args.digits.now c.if-digits-ne16.true

pub returns-in-Ok : goal.returns-in-Ok
returns-in-Ok c =
    let found = bytes_found c.args.digits.now _ c.if-digits-ne16.false (decoded _ c.decode_to_slice.new.out c.decode_to_slice.result tt c.decode_to_slice.ensures.value c.in-Ok.is) in
    rw found (ap Some c.from_be_bytes.ensures)

pub returns-in-Err : goal.returns-in-Err
returns-in-Err c =
    let lost = bytes_lost c.args.digits.now _ c.if-digits-ne16.false (refused _ c.decode_to_slice.new.out c.decode_to_slice.result tt _ c.decode_to_slice.ensures.value c.in-Err.is) in
    rw lost refl
