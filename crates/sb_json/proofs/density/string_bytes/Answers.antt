use Rattle.std.proofs.Common.{◌≡◌, ℕ, List, ◌+◌, ◌-◌, ◌<◌, length, take, drop, get_or, ap, subst, ◌∙◌, arith, ⊎_elim, length-drop, get_or-drop}
use Rattle.std.proofs.lemmas.List.{take_rest}
use Rattle.sb_json.specs.Density.{Inside}
use Rattle.sb_json.proofs.Densities.{Skips, fronts, closed, escaped}
use Rattle.sb_json.proofs.density.string_bytes.Goals as goal

-- as far as the first quote or backslash behind a place
so_far : (text : List ℕ) (at n : ℕ) → Skips Inside (take at text) Inside → Skips Inside (take n (take (length text - at) (drop at text))) Inside → Skips Inside (take (at + n) text) Inside
so_far text at n h g =
    fronts Inside Inside Inside text at n h (subst (λ (l : List ℕ). Skips Inside (take n l) Inside) (take_rest text at) g)

rest_length : (text : List ℕ) (at : ℕ) → length (take (length text - at) (drop at text)) ≡ length text - at
rest_length text at = ap (λ (l : List ℕ). length l) (take_rest text at) ∙ length-drop at text

rest_byte : (text : List ℕ) (at n : ℕ) → get_or (take (length text - at) (drop at text)) n 0 ≡ get_or text (at + n) 0
rest_byte text at n = ap (λ (l : List ℕ). get_or l n 0) (take_rest text at) ∙ get_or-drop at text n 0

pub returns-then-sign-text-clause-inside : goal.returns-then-sign-text-clause-inside
returns-then-sign-text-clause-inside c =
    (so_far c.args.text.now c.signs.at c.plain_bytes.result (c.signs.invariant.inside, c.signs.invariant.stays c.signs-test.true) (c.plain_bytes.ensures.inside, c.plain_bytes.ensures.stays)).0

pub returns-then-text-sign-eq34 : goal.returns-then-text-sign-eq34
returns-then-text-sign-eq34 c =
    let text = c.args.text.now in
    let at = c.signs.at + c.plain_bytes.result in
    let lt : at < length text = omega (arith, c.plain_bytes.ensures.within, rest_length text c.signs.at, c.if-sign-text.false, c.signs-test.true) in
    let so = so_far text c.signs.at c.plain_bytes.result (c.signs.invariant.inside, c.signs.invariant.stays c.signs-test.true) (c.plain_bytes.ensures.inside, c.plain_bytes.ensures.stays) in
    let whole = closed text at lt so c.if-text-sign-eq34.true in
    record { within = omega (arith, lt); inside = whole.0; ended = λ _. whole.1 }

pub signs-preserved : goal.signs-preserved
signs-preserved c =
    let text = c.args.text.now in
    let at = c.signs.at + c.plain_bytes.result in
    let rest = rest_length text c.signs.at in
    let lt : at < length text = omega (arith, c.plain_bytes.ensures.within, rest, c.if-sign-text.false, c.signs-test.true) in
    let so = so_far text c.signs.at c.plain_bytes.result (c.signs.invariant.inside, c.signs.invariant.stays c.signs-test.true) (c.plain_bytes.ensures.inside, c.plain_bytes.ensures.stays) in
    let byte = rest_byte text c.signs.at c.plain_bytes.result in
    let backslash : get_or text at 0 ≡ 92 = ⊎_elim (λ quote. absurd (omega (arith, quote, byte, c.if-text-sign-eq34.false))) (λ is. omega (arith, is, byte)) (c.plain_bytes.ensures.sign (omega (arith, lt, rest))) in
    let pair = escaped text at lt so backslash in
    record { within = omega (arith, lt); inside = pair.0; stays = pair.1 }
