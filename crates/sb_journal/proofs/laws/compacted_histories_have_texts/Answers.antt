use Rattle.sb_journal.proofs.AnewTexts.{anew_text}
use Rattle.sb_journal.proofs.laws.compacted_histories_have_texts.Goals as goal

pub returns : goal.returns
returns c = λ epoch history small formed bytes. anew_text epoch history small formed bytes
