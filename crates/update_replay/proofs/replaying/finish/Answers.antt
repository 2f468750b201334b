use Rattle.input_lines.specs.Ways.{on_any, way_lost}
use Rattle.update_replay.proofs.replaying.finish.Goals as goal

pub returns-in_err-flush-in-Ok-clause-err : goal.returns-in_err-flush-in-Ok-clause-err
returns-in_err-flush-in-Ok-clause-err g c = on_any _ (way_lost _ _ c.in-Ok.ensures.text c.in_err-flush-in-Ok.ensures.err)
