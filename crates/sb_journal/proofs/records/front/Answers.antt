use Rattle.std.proofs.Common.{arith, sym}
use Rattle.std.proofs.lemmas.List.{length-take-le, take_all}
use Rattle.sb_journal.proofs.records.front.Goals as goal

pub returns-then-lines-le-RECORD_SIZE : goal.returns-then-lines-le-RECORD_SIZE
returns-then-lines-le-RECORD_SIZE c = sym (take_all 1024 c.args.lines.now c.if-lines-le-RECORD_SIZE.true)

pub slice_bounds-result-end : goal.slice_bounds-result-end
slice_bounds-result-end c = sym (length-take-le 1024 c.args.lines.now (omega arith))
