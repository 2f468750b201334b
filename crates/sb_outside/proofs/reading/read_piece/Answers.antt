use Rattle.std.proofs.Common.{take, ◌++◌, arith}
use Rattle.sb_outside.proofs.Fronts.{front_then}
use Rattle.sb_outside.proofs.reading.read_piece.Goals as goal

pub returns-in-Err-clause-so_far_refused : goal.returns-in-Err-clause-so_far_refused
returns-in-Err-clause-so_far_refused g c = λ _ start before. record {
  given = c.args.text.now ++ take c.in-Ok.count c.read.new.buffer;
  gives = front_then _ _ _ _ _ before (c.in-Ok.ensures.bytes (omega (arith, c.if-count-eq0.false)));
}
