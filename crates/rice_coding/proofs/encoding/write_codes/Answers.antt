use Rattle.std.proofs.Common.{ℕ, ◌+◌, ◌-◌, Bool, List, [], ◌++◌, ◌≡◌, get_or, drop, ap, sym, ◌∙◌}
use Rattle.std.proofs.lemmas.List.{append_assoc, append-nil, drop_all}
use Rattle.rice_coding.specs.Bits.{packed}
use Rattle.rice_coding.specs.Codes.{code, codes, differences}
use Rattle.rice_coding.proofs.BitFacts.{if_ok_then}
use Rattle.rice_coding.proofs.EncodeFacts.{differences-drop, get_or-next}
use Rattle.rice_coding.proofs.encoding.write_codes.Goals as goal

pub loop-value-preserved : goal.loop-value-preserved
loop-value-preserved c =
    let i = c.loop-value.value-index in
    let value = get_or c.args.rest.now i 0 in
    let k = c.args.choice.parameter in
    let now = c.loop-value.writer ++ c.loop-value.pending in
    let later = differences value (drop (i + 1) c.args.rest.now) in (
      get_or-next c.args.first i c.args.rest.now,
      ap (λ (bits : List Bool). bits ++ codes k later) c.in_ok-pending.ensures
          ∙ append_assoc now (code k (value - c.loop-value.previous)) (codes k later)
          ∙ ap (λ (deltas : List ℕ). now ++ codes k deltas) (sym (differences-drop c.loop-value.previous i c.args.rest.now c.loop-value-test.true))
          ∙ c.loop-value.invariant.1,
    )

pub returns : goal.returns
returns c =
    let k = c.args.choice.parameter in
    let now = c.loop-value.writer ++ c.loop-value.pending in
    let all = codes k (differences c.args.first c.args.rest.now) in
    let none : drop c.loop-value.value-index c.args.rest.now ≡ [] = drop_all c.loop-value.value-index c.args.rest.now c.loop-value-test.false in
    let whole : now ≡ all =
    sym (append-nil now) ∙ ap (λ (rest : List ℕ). now ++ codes k (differences c.loop-value.previous rest)) (sym none) ∙ c.loop-value.invariant.1 in
    if_ok_then c.finish.result c.finish.ensures (λ bytes is. is ∙ ap packed whole)
