use Rattle.std.proofs.Common.{◌≡◌, ◌-◌, ◌++◌, ◌≤◌, ap, ◌∙◌, length, arith, append_assoc, List, ℕ}
use Rattle.std.specs.Prelude.{replicate, decimal}
use Rattle.std.proofs.lemmas.Fmt.{length-decimal-le}
use Rattle.sb_model.specs.Time.{padded}
use Rattle.sb_model.proofs.durations.push_padded.Goals as goal

pub returns : goal.returns
returns c =
    let digits : c.as_bytes-digits.result.now ≡ decimal c.args.number = c.as_bytes-digits.ensures.value ∙ c.format.ensures.text in
    let zeros : c.loop-place._place - length (decimal c.args.number) ≡ c.args.size - length (decimal c.args.number) =
    let short : length (decimal c.args.number) ≤ c.args.size = length-decimal-le c.args.size c.args.number c.requires.some c.requires.fits (omega (arith, c.ranges.number.fits)) in
    let same : length c.as_bytes-digits.result.now ≡ length (decimal c.args.number) = ap length digits in
    let last : c.loop-place._place ≤ c.args.size = c.loop-place.auto._place-end (omega (arith, short, same)) in
    omega (arith, last, c.loop-place-test.false) in
    let text : c.loop-place.text ++ c.as_bytes-digits.result.now ≡ c.args.text.now ++ padded c.args.size c.args.number
    = ap (λ (ds : List ℕ). c.loop-place.text ++ ds) digits
    ∙ ap (λ (bs : List ℕ). bs ++ decimal c.args.number) (c.loop-place.invariant ∙ ap (λ n. c.args.text.now ++ replicate n 48) zeros)
    ∙ append_assoc c.args.text.now (replicate (c.args.size - length (decimal c.args.number)) 48) (decimal c.args.number) in
    rw (← text) c.append.ensures.ok
