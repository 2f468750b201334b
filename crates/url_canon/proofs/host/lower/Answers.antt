use Rattle.std.proofs.Common.{get_or, sym, ap, ◌∙◌, arith, set}
use Rattle.std.specs.Char.{to_ascii_lowercase}
use Rattle.std.proofs.lemmas.List.Edits.{map_over_more}
use Rattle.std.proofs.lemmas.Grind.{get_or_default_zero}
use Rattle.url_canon.proofs.host.lower.Goals as goal

pub loop-byte-preserved : goal.loop-byte-preserved
loop-byte-preserved c =
    let i = c.loop-byte.byte-index in
    let byte = get_or c.loop-byte.text i 0 in
    ap (λ b. set c.loop-byte.text i b) c.to_ascii_lowercase.ensures.value
    ∙ map_over_more to_ascii_lowercase c.args.text.now c.loop-byte.text i byte c.loop-byte-test.true c.loop-byte.invariant (sym (get_or_default_zero c.loop-byte.text i byte (omega arith)))
