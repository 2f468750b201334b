use Rattle.std.proofs.Common.{◌≡◌, ℕ, ◌+◌, ◌<◌, ◌≤◌, Bool, true, false, List, None, Some, length, get_or, drop, arith, ap, sym, ◌∙◌}
use Rattle.std.proofs.lemmas.List.{length-drop}
use Rattle.rice_coding.specs.Bits.{bits_from}
use Rattle.rice_coding.specs.Reading.{unary}
use Rattle.rice_coding.proofs.CodeFacts.{after_ones, after_ones-after_ones, run_ones, run_zero, unary_none, unary_some, unary_after, within_from_one, short_from_has, long_from_has}
use Rattle.rice_coding.proofs.cursor.take_ones.Goals as goal

pub returns-then-not-has-clause-none : goal.returns-then-not-has-clause-none
returns-then-not-has-clause-none c =
    let bits = bits_from c.loop-place.place.bytes.now c.loop-place.place.offset in
    let run : c.trailing_ones-run.result < 57 = c.if-run-lt57.true in
    let ones : (i : ℕ) → i < c.trailing_ones-run.result → get_or bits i false ≡ true =
    λ i below. run_ones bits c.window.result 57 c.trailing_ones-run.result c.window.type_inv c.window.ensures c.trailing_ones-run.ensures i (omega arith) below in
    let short : length bits < c.trailing_ones-run.result + 1 = short_from_has c.has.result _ _ c.if-not-has.true c.has.ensures in
    let none : unary bits ≡ None = unary_none bits c.trailing_ones-run.result ones (omega arith) in
    c.loop-place.invariant.1 ∙ ap (after_ones c.loop-place.invariant.0) none

pub returns-then-run-lt57-clause-some : goal.returns-then-run-lt57-clause-some
returns-then-run-lt57-clause-some c =
    let bits = bits_from c.loop-place.place.bytes.now c.loop-place.place.offset in
    let run : c.trailing_ones-run.result < 57 = c.if-run-lt57.true in
    let ones : (i : ℕ) → i < c.trailing_ones-run.result → get_or bits i false ≡ true =
    λ i below. run_ones bits c.window.result 57 c.trailing_ones-run.result c.window.type_inv c.window.ensures c.trailing_ones-run.ensures i (omega arith) below in
    let clear : get_or bits c.trailing_ones-run.result false ≡ false =
    run_zero bits c.window.result 57 c.trailing_ones-run.result c.window.type_inv (omega arith) c.window.ensures c.trailing_ones-run.ensures run in
    let long : c.trailing_ones-run.result + 1 ≤ length bits = long_from_has c.has.result _ _ c.if-not-has.false c.has.ensures in
    let some : unary bits ≡ Some (c.trailing_ones-run.result, drop (c.trailing_ones-run.result + 1) bits) = unary_some bits c.trailing_ones-run.result ones (omega arith) clear in (
      c.loop-place.invariant.0 + c.trailing_ones-run.result,
      c.loop-place.invariant.1 ∙ ap (after_ones c.loop-place.invariant.0) some ∙ ap (λ (rest : List Bool). Some (c.loop-place.invariant.0 + c.trailing_ones-run.result, rest)) (sym c.skip.ensures),
      omega (arith, c.loop-place.invariant.2),
    )

pub skip-place-requires-clause-there : goal.skip-place-requires-clause-there
skip-place-requires-clause-there c =
    let bits = bits_from c.loop-place.place.bytes.now c.loop-place.place.offset in
    let run : 57 ≤ c.trailing_ones-run.result = c.if-run-lt57.false in
    let one : get_or bits 56 false ≡ true =
    run_ones bits c.window.result 57 c.trailing_ones-run.result c.window.type_inv c.window.ensures c.trailing_ones-run.ensures 56 (omega arith) (omega arith) in
    within_from_one bits 56 one

pub loop-place-smaller : goal.loop-place-smaller
loop-place-smaller c =
    let bits = bits_from c.loop-place.place.bytes.now c.loop-place.place.offset in
    let run : 57 ≤ c.trailing_ones-run.result = c.if-run-lt57.false in
    let one : get_or bits 56 false ≡ true =
    run_ones bits c.window.result 57 c.trailing_ones-run.result c.window.type_inv c.window.ensures c.trailing_ones-run.ensures 56 (omega arith) (omega arith) in
    let long : 57 ≤ length bits = within_from_one bits 56 one in
    omega (arith, ap length c.skip-place.ensures, length-drop 57 bits)

pub loop-place-preserved : goal.loop-place-preserved
loop-place-preserved c =
    let bits = bits_from c.loop-place.place.bytes.now c.loop-place.place.offset in
    let run : 57 ≤ c.trailing_ones-run.result = c.if-run-lt57.false in
    let ones : (i : ℕ) → i < 57 → get_or bits i false ≡ true =
    λ i below. run_ones bits c.window.result 57 c.trailing_ones-run.result c.window.type_inv c.window.ensures c.trailing_ones-run.ensures i below (omega arith) in (
      c.loop-place.invariant.0 + 57,
      c.loop-place.invariant.1
          ∙ ap (after_ones c.loop-place.invariant.0) (unary_after bits 57 ones ∙ ap (λ (rest : List Bool). after_ones 57 (unary rest)) (sym c.skip-place.ensures))
          ∙ after_ones-after_ones c.loop-place.invariant.0 57 _,
      omega (arith, c.loop-place.invariant.2),
    )
