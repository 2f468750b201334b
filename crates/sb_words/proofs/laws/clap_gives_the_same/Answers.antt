use Rattle.std.proofs.Common.{sym}
use Rattle.sb_words.proofs.Readings.{barred_gives_nothing, reads}
use Rattle.sb_words.proofs.laws.clap_gives_the_same.Goals as goal

pub returns-clause-same : goal.returns-clause-same
returns-clause-same c = reads

pub returns-clause-barred : goal.returns-clause-barred
returns-clause-barred c = λ shape words bar. sym (barred_gives_nothing shape words bar)
