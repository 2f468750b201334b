use Rattle.std.proofs.Common.{◌+◌, ◌^◌, ◌<◌, arith, rules}
use Rattle.rice_coding.specs.declared.fault.RiceFault.TheVariants.{Parameter, CountLimit, Range}
use Rattle.rice_coding.specs.Bits.{bits_from}
use Rattle.rice_coding.specs.Rice.{HasParameter, CanBegin}
use Rattle.rice_coding.proofs.DecodeFacts.{decoding_first, decoding_begins}
use Rattle.rice_coding.proofs.ReadingFacts.{reading_is, reading_only}
use Rattle.rice_coding.proofs.reader.RiceReader.start.Goals as goal

pub returns-clause-reading : goal.returns-clause-reading
unfolding bits_from
returns-clause-reading c =
    let allowed : HasParameter c.args.coding.now = search rules in
    let first : c.args.coding.now.first < 2 ^ 32 = omega arith in
    rw c.as_slice.ensures (reading_is c.args.coding.now allowed first)

pub returns-clause-only : goal.returns-clause-only
unfolding bits_from
returns-clause-only c =
    let first : c.args.coding.now.first < 2 ^ 32 = omega arith in
    rw c.as_slice.ensures (reading_only c.args.coding.now first)

pub returns-then-coding-gt28-clause-refused : goal.returns-then-coding-gt28-clause-refused
returns-then-coding-gt28-clause-refused c =
    let r = c.args.coding.now in
    decoding_first r c.args.limit (Parameter r.parameter) (search rules)

pub returns-then-coding-limit-clause-refused : goal.returns-then-coding-limit-clause-refused
returns-then-coding-limit-clause-refused c =
    let r = c.args.coding.now in
    decoding_first r c.args.limit (CountLimit (c.from.result + 1)) (search rules)

pub returns-then-coding-from-clause-refused : goal.returns-then-coding-from-clause-refused
returns-then-coding-from-clause-refused c = decoding_first c.args.coding.now c.args.limit (Range 0) (search rules)

pub returns-clause-decoding : goal.returns-clause-decoding
unfolding bits_from
returns-clause-decoding c =
    let begins : CanBegin c.args.coding.now c.args.limit = search rules in
    rw c.as_slice.ensures (decoding_begins c.args.coding.now c.args.limit begins)
