use Rattle.client_words.proofs.Targets.{sound_asking}
use Rattle.client_words.proofs.laws.asked_targets_are_sound.Goals as goal

pub returns : goal.returns
returns c = λ named asking is. sound_asking named asking is
