use Rattle.std.proofs.Common.{◌≡◌, ℕ, ◌+◌, ◌<◌, List, inl, inr, length, take, get_or, arith, ap, sym, ◌∙◌}
use Rattle.std.proofs.lemmas.Bool.{cases_lt}
use Rattle.std.proofs.lemmas.List.{length-take, get_or-take, get_or_past}
use Rattle.rice_coding.proofs.BitFacts.{word_bits}
use Rattle.rice_coding.proofs.cursor.word_of.Goals as goal

pub returns-in-Some : goal.returns-in-Some
returns-in-Some c =
    let front : c.in-Some.chunk.now ≡ take 8 c.args.bytes.now = c.in-Some.ensures.cases.0 in
    let rest : length c.in-Some.field-0-1.now + 8 ≡ length c.args.bytes.now = c.in-Some.ensures.cases.2 in
    let same : (k : ℕ) → k < 8 → get_or c.in-Some.chunk.now k 0 ≡ get_or c.args.bytes.now k 0 =
    λ k below. ap (λ (bytes : List ℕ). get_or bytes k 0) front ∙ get_or-take 8 c.args.bytes.now k 0 below in
    let long : length c.in-Some.chunk.now ≡ 8 = ap length front ∙ omega (arith, length-take 8 c.args.bytes.now) in
    let fits : (k : ℕ) → get_or c.in-Some.chunk.now k 0 < 256 = λ k. elim (cases_lt k 8) [
      | inl below ↦ omega (arith, same k below, c.type_inv.bytes k)
      | inr above ↦ omega (arith, get_or_past c.in-Some.chunk.now k 0 (omega arith))
    ] in
    word_bits c.args.bytes.now c.in-Some.chunk.now c.from_le_bytes.result long fits c.from_le_bytes.ensures same

pub returns : goal.returns
returns c =
    let copied : (k : ℕ) → get_or c.loop-i.chunk k 0 ≡ get_or c.args.bytes.now k 0 = λ k. elim (cases_lt k c.loop-i.i) [
      | inl below ↦ c.loop-i.invariant.1 k below
      | inr above ↦ c.loop-i.invariant.2 k above ∙ sym (get_or_past c.args.bytes.now k 0 (omega arith))
    ] in
    word_bits c.args.bytes.now c.loop-i.chunk c.from_le_bytes-2.result c.loop-i.invariant.0
    (λ k. omega (arith, copied k, c.type_inv.bytes k)) c.from_le_bytes-2.ensures (λ k _. copied k)
