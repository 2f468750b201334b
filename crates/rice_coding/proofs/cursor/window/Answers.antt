use Rattle.std.proofs.Common.{ℕ, ◌+◌, ◌%◌, ◌<◌, eqb, false, arith, ap, sym, ◌∙◌}
use Rattle.std.proofs.lemmas.List.{get_or-drop}
use Rattle.std.proofs.lemmas.Nat.{shr-shr}
use Rattle.rice_coding.specs.Bits.{bits_of, bits_from}
use Rattle.rice_coding.proofs.cursor.window.Goals as goal

pub returns : goal.returns
unfolding bits_from
returns c = λ i below.
    let at : c.args.at.offset + i < 64 = omega arith in
    get_or-drop c.args.at.offset (bits_of c.args.at.bytes.now) i false
    ∙ c.word_of.ensures (c.args.at.offset + i) at
    ∙ ap (λ (n : ℕ). eqb (n % 2) 1) (sym (shr-shr c.word_of.result c.args.at.offset i))
