use Rattle.sb_model.proofs.DurationTexts.{reads_nanos, writes_nanos}
use Rattle.sb_model.proofs.laws.durations_are_their_digits.Goals as goal

pub returns : goal.returns
returns c text nanos = (writes_nanos text nanos, reads_nanos text nanos)
