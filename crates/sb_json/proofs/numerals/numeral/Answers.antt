use Rattle.std.proofs.Common.{arith}
use Rattle.std.proofs.lemmas.Grind.{common_steps}
use Rattle.sb_json.proofs.NumeralTexts.{too_large}
use Rattle.sb_json.proofs.numerals.numeral.Goals as goal

pub returns-in-Err : goal.returns-in-Err
returns-in-Err c =
    too_large c.args.text.now _ _ c.args.most (omega arith) c.parse.ensures.value.0 c.in-Err.is (grind (arith, common_steps))
