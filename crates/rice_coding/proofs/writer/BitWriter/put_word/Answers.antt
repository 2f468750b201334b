use Rattle.std.proofs.Common.{◌≡◌, ℕ, ◌<◌, Bool, List, ◌++◌, get_or, ap, sym, subst, ◌∙◌}
use Rattle.std.specs.Int.{w64, to_le_bytes}
use Rattle.rice_coding.specs.Bits.{low_bits, bits_of}
use Rattle.rice_coding.proofs.BitFacts.{bits_of-append, bits_of-word, bytes_fit, fits-append}
use Rattle.rice_coding.proofs.writer.BitWriter.put_word.Goals as goal

pub invariant_of-self-2 : goal.invariant_of-self-2
invariant_of-self-2 c =
    let old = c.self.inside.bytes.items in
    let is : c.extend_from_slice.new.self.items ≡ old ++ to_le_bytes w64 c.args.word = c.in_ok-extend_from_slice.ensures.items ∙ ap (λ (bytes : List ℕ). old ++ bytes) c.to_le_bytes.ensures in
    subst (λ (bytes : List ℕ). (i : ℕ) → get_or bytes i 0 < 256) (sym is) (fits-append old (to_le_bytes w64 c.args.word) c.self.invariant (bytes_fit c.args.word))

pub returns : goal.returns
returns c =
    let old = c.self.inside.bytes.items in
    let is : c.extend_from_slice.new.self.items ≡ old ++ to_le_bytes w64 c.args.word = c.in_ok-extend_from_slice.ensures.items ∙ ap (λ (bytes : List ℕ). old ++ bytes) c.to_le_bytes.ensures in
    ap bits_of is ∙ bits_of-append old (to_le_bytes w64 c.args.word) ∙ ap (λ (bits : List Bool). bits_of old ++ bits) (bits_of-word c.args.word c.ranges.word.fits)
    ∙ ap (λ (bits : List Bool). bits ++ low_bits 64 c.args.word) c.self.view_is
