use Rattle.std.proofs.Common.{arith, length}
use Rattle.sb_json.proofs.Densities.{plain_front}
use Rattle.sb_json.proofs.density.plain_bytes.Goals as goal

pub returns-in-None : goal.returns-in-None
returns-in-None c =
    let text = c.args.text.now in
    let plain = plain_front text (length text) (omega arith) (λ k lt. c.in-None.ensures k (omega arith) lt) in
    record { within = omega arith; inside = plain.0; stays = plain.1; sign = λ lt. absurd (omega (arith, lt)) }

pub returns-in-Some-clause-inside : goal.returns-in-Some-clause-inside
returns-in-Some-clause-inside c =
    let high = c.in-Some.ensures.0.high in
    (plain_front c.args.text.now c.in-Some.place (omega (arith, high)) (λ k lt. c.in-Some.ensures.0.before k (omega arith) lt)).0

pub returns-in-Some-clause-stays : goal.returns-in-Some-clause-stays
returns-in-Some-clause-stays c =
    let high = c.in-Some.ensures.0.high in
    (plain_front c.args.text.now c.in-Some.place (omega (arith, high)) (λ k lt. c.in-Some.ensures.0.before k (omega arith) lt)).1
