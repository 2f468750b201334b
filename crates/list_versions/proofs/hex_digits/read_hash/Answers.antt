use Rattle.std.proofs.Common.{◌≡◌, ◌∙◌, sym, arith, length-set}
use Rattle.list_versions.proofs.DigitPairs.{read_more, read_bad, read_all, read_no_hash}
use Rattle.list_versions.proofs.hex_digits.read_hash.Goals as goal

pub returns-then-digits-ne64-clause-value : goal.returns-then-digits-ne64-clause-value
returns-then-digits-ne64-clause-value c = read_no_hash c.args.digits.now c.if-digits-ne64.true

pub returns-in_err-byte-clause-value : goal.returns-in_err-byte-clause-value
returns-in_err-byte-clause-value c =
    c.from_residual.ensures ∙ read_bad c.args.digits.now c.bytes.hash c.bytes.i c.if-digits-ne64.false (omega arith) (sym c.byte_of.ensures ∙ c.in_err-byte.was) c.bytes.invariant.read

pub bytes-preserved : goal.bytes-preserved
bytes-preserved c = record {
  read = read_more c.args.digits.now c.bytes.hash c.bytes.i c.in_ok-byte.byte (omega (arith, c.if-digits-ne64.false)) (omega (arith, c.bytes.invariant.whole)) (sym c.byte_of.ensures ∙ c.in_ok-byte.was) c.bytes.invariant.read;
  whole = length-set c.bytes.hash c.bytes.i c.in_ok-byte.byte ∙ c.bytes.invariant.whole;
}

pub returns-clause-value : goal.returns-clause-value
returns-clause-value c =
    let done : c.bytes.i ≡ 32 = omega arith in
    read_all c.args.digits.now c.bytes.hash c.if-digits-ne64.false c.bytes.invariant.whole (rw done at c.bytes.invariant.read)

pub returns-clause-whole : goal.returns-clause-whole
returns-clause-whole c = c.bytes.invariant.whole
