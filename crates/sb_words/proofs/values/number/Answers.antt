use Rattle.std.proofs.Common.{arith}
use Rattle.std.proofs.lemmas.Grind.{common_steps}
use Rattle.sb_words.proofs.NumeralTexts.{too_large}
use Rattle.sb_words.proofs.values.number.Goals as goal

pub returns-in-Err-clause-value : goal.returns-in-Err-clause-value
returns-in-Err-clause-value c =
    too_large c.args.text.now _ _ c.args.low c.args.high (omega arith) c.parse.ensures.value.0 c.in-Err.is (grind (arith, common_steps))
