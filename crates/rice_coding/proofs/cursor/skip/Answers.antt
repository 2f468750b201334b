use Rattle.std.proofs.Common.{◌+◌, ◌/◌, ◌≤◌, length, arith, rules}
use Rattle.rice_coding.proofs.BitFacts.{length-bits_from, skipped}
use Rattle.rice_coding.proofs.cursor.skip.Goals as goal

pub slice_bounds-result-count : goal.slice_bounds-result-count
slice_bounds-result-count c = omega (arith, length-bits_from c.args.at.bytes.now c.args.at.offset)

pub returns : goal.returns
returns c =
    let within : (c.args.at.offset + c.args.count) / 8 ≤ length c.args.at.bytes.now = omega (arith, length-bits_from c.args.at.bytes.now c.args.at.offset) in
    skipped c.args.at.bytes.now c.args.at.offset c.args.count within

pub slice_bounds-result-start : goal.slice_bounds-result-start
slice_bounds-result-start c =
    let within : (c.args.at.offset + c.args.count) / 8 ≤ length c.args.at.bytes.now = omega (arith, length-bits_from c.args.at.bytes.now c.args.at.offset) in
    search rules
