use Rattle.std.proofs.Common.{◌≡◌, ℕ, ◌+◌, ◌-◌, ◌*◌, ◌<◌, ◌≤◌, Bool, false, List, ◌++◌, get_or, take, replicate, arith, ap, sym, subst, ◌∙◌}
use Rattle.std.specs.Int.{w64, to_le_bytes}
use Rattle.rice_coding.specs.Bits.{low_bits, bits_of}
use Rattle.rice_coding.proofs.BitFacts.{put_last, bytes_fit, fits-append, fits-take}
use Rattle.rice_coding.proofs.PackFacts.{packed_is}
use Rattle.rice_coding.proofs.writer.BitWriter.finish.Goals as goal

pub returns : goal.returns
returns c =
    let r = c.self.inside in
    let p = c.pending.inside in
    let n = c.div_ceil.result in
    let bytes = c.extend_from_slice.new.self.items in
    let last = to_le_bytes w64 p.word in
    let short : 8 * n < p.count + 8 = omega (arith, c.div_ceil.ensures) in
    let long : p.count ≤ 8 * n = omega (arith, c.div_ceil.ensures) in
    let free = 8 * n - p.count in
    let is : bytes ≡ r.bytes.items ++ take n last = c.in_ok-extend_from_slice.ensures.items ∙ ap (λ (last : List ℕ). r.bytes.items ++ take n last) c.to_le_bytes-last.ensures in
    let all : bits_of r.bytes.items ++ low_bits p.count p.word ≡ c.args.self ++ c.args.pending =
    ap (λ (bits : List Bool). bits ++ low_bits p.count p.word) c.self.view_is ∙ ap (λ (bits : List Bool). c.args.self ++ bits) c.pending.view_is in
    let held : bits_of bytes ≡ (c.args.self ++ c.args.pending) ++ replicate free false =
    put_last r.bytes.items bytes p.count p.word n c.pending.invariant.0 c.pending.invariant.1 short long is ∙ ap (λ (bits : List Bool). bits ++ replicate free false) all in
    let fits : (i : ℕ) → get_or bytes i 0 < 256 =
    subst (λ (bytes : List ℕ). (i : ℕ) → get_or bytes i 0 < 256) (sym is) (fits-append r.bytes.items (take n last) c.self.invariant (fits-take n last (bytes_fit p.word))) in
    c.from_vec.ensures ∙ packed_is bytes (c.args.self ++ c.args.pending) free fits (omega (arith, short)) held
