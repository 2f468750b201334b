use Rattle.proxy_words.proofs.Sound.{sound}
use Rattle.proxy_words.proofs.line.proxies_ask_sound_targets.Goals as goal

pub returns : goal.returns
returns c = sound c.asked_targets_are_sound.ensures
