use Rattle.std.proofs.Common.{List, ℕ, ◌/◌, ◌%◌, ap, ◌∙◌}
use Rattle.std.proofs.lemmas.List.{take_rest}
use Rattle.rice_coding.specs.Bits.{bits_from}
use Rattle.rice_coding.proofs.BitFacts.{bits_from-byte}
use Rattle.rice_coding.proofs.place.cursor_at.Goals as goal

pub returns : goal.returns
returns c =
    let at = c.args.at in
    ap (λ (rest : List ℕ). bits_from rest (at.bit % 8)) (take_rest at.bytes.now (at.bit / 8)) ∙ bits_from-byte at.bytes.now at.bit at.within
