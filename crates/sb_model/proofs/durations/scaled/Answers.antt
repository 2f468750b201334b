use Rattle.sb_model.proofs.Numerals.{scaled_more, below_more}
use Rattle.sb_model.proofs.durations.scaled.Goals as goal

pub loop-place-preserved : goal.loop-place-preserved
loop-place-preserved c = (scaled_more _ _ _ _ c.loop-place.auto._place c.loop-place.invariant.0, below_more _ _ c.loop-place.invariant.1)
