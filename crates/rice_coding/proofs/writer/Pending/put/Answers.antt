use Rattle.std.proofs.Common.{Bool, List, ◌++◌, arith, ap, sym, ◌∙◌}
use Rattle.std.proofs.lemmas.List.{append_assoc}
use Rattle.rice_coding.specs.Bits.{low_bits}
use Rattle.rice_coding.proofs.BitFacts.{put_fits, put_bits, put_out, next_word}
use Rattle.rice_coding.proofs.writer.Pending.put.Goals as goal

pub invariant_of-result : goal.invariant_of-result
invariant_of-result c =
    let p = c.self.inside in
    (c.if-total-lt64.true, put_fits p.word p.count c.args.number c.args.count c.self.invariant.1 (omega (arith, c.if-total-lt64.true)) c.requires.fits)

pub returns-then-total-lt64 : goal.returns-then-total-lt64
returns-then-total-lt64 c =
    let p = c.self.inside in
    let old = c.args.writer.now in
    let more = low_bits c.args.count c.args.number in
    ap (λ (bits : List Bool). old ++ bits) (put_bits p.word p.count c.args.number c.args.count c.self.invariant.1 (omega (arith, c.if-total-lt64.true)) c.requires.fits)
    ∙ sym (append_assoc old (low_bits p.count p.word) more) ∙ ap (λ (bits : List Bool). (old ++ bits) ++ more) c.self.view_is

pub invariant_of-result-2 : goal.invariant_of-result-2
invariant_of-result-2 c =
    let p = c.self.inside in (
      omega (arith, c.self.invariant.0, c.requires.few),
      next_word p.count c.args.number c.args.count c.self.invariant.0 c.if-total-lt64.false c.requires.fits,
    )

pub returns : goal.returns
returns c =
    let p = c.self.inside in
    put_out c.args.writer.now c.put_word.new.self p.word p.count c.args.number c.args.count c.self.invariant.1 c.self.invariant.0 c.if-total-lt64.false c.in_ok-put_word.ensures
    ∙ ap (λ (bits : List Bool). (c.args.writer.now ++ bits) ++ low_bits c.args.count c.args.number) c.self.view_is
