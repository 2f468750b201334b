use Rattle.std.proofs.Common.{◌≡◌, ℕ, cond, List, [], ◌+◌, ◌-◌, ◌≤◌, length, take, drop, get_or, ap, sym, subst, ◌∙◌, arith, inl, inr, length-drop}
use Rattle.std.proofs.lemmas.Bool.{ne_eqb}
use Rattle.std.proofs.lemmas.List.{take_rest}
use Rattle.sb_json.specs.Density.{Inside, Outside, outside_from, place_behind, is_opening, is_value_sign}
use Rattle.sb_json.proofs.Densities.{IsRead, adds, string_read, byte_read, byte_past}
use Rattle.sb_json.proofs.density.first_past.Goals as goal
use Rattle.sb_json.proofs.density.first_past.Goals.{then-openings-most_openings-via-then-openings-most_openings, then-openings-most_openings-via-else-openings-most_openings+then-values-most_values}

rest_length : (text : List ℕ) (at : ℕ) → length (take (length text - at) (drop at text)) ≡ length text - at
rest_length text at = ap (λ (l : List ℕ). length l) (take_rest text at) ∙ length-drop at text

pub bytes-preserved-then-byte-eq34 : goal.bytes-preserved-then-byte-eq34
bytes-preserved-then-byte-eq34 c =
    let text = c.args.text.now in
    let at = c.bytes.at in
    let n = c.string_bytes.result in
    let rest = rest_length text (at + 1) in
    let fits : at + (1 + n) ≤ length text = omega (arith, c.string_bytes.ensures.within, rest, c.bytes-test.true) in
    string_read text at c.bytes.openings c.bytes.values n c.bytes.invariant c.bytes-test.true c.if-byte-eq34.true fits
    (subst (λ (l : List ℕ). outside_from Inside (take n l) ≡ []) (take_rest text (at + 1)) c.string_bytes.ensures.inside)
    (λ more. subst (λ (l : List ℕ). place_behind Inside (take n l) ≡ Outside) (take_rest text (at + 1)) (c.string_bytes.ensures.ended (omega (arith, more, rest))))

pub returns-then-openings-most_openings : goal.returns-then-openings-most_openings
returns-then-openings-most_openings c =
    let text = c.args.text.now in
    let byte = get_or text c.bytes.at 0 in
    let o : c.from-openings.result ≡ cond (is_opening byte) 1 0 = adds c.is_opening.result (is_opening byte) c.from-openings.result c.from-openings.ensures c.is_opening.ensures in
    let v : c.from-values.result ≡ cond (is_value_sign byte) 1 0 = adds c.is_value_sign.result (is_value_sign byte) c.from-values.result c.from-values.ensures c.is_value_sign.ensures in
    byte_past text c.bytes.at c.bytes.openings c.bytes.values c.bytes.invariant c.bytes-test.true
    (elim c.then-openings-most_openings.branch [
      | then-openings-most_openings-via-then-openings-most_openings w ↦ inl (omega (arith, o, w.if-openings-most_openings.true))
      | then-openings-most_openings-via-else-openings-most_openings+then-values-most_values w ↦ inr (omega (arith, v, w.if-values-most_values.true))
    ])

pub bytes-preserved : goal.bytes-preserved
bytes-preserved c =
    let text = c.args.text.now in
    let byte = get_or text c.bytes.at 0 in
    let o : c.from-openings.result ≡ cond (is_opening byte) 1 0 = adds c.is_opening.result (is_opening byte) c.from-openings.result c.from-openings.ensures c.is_opening.ensures in
    let v : c.from-values.result ≡ cond (is_value_sign byte) 1 0 = adds c.is_value_sign.result (is_value_sign byte) c.from-values.result c.from-values.ensures c.is_value_sign.ensures in
    let read = byte_read text c.bytes.at c.bytes.openings c.bytes.values c.bytes.invariant c.bytes-test.true (ne_eqb byte 34 c.if-byte-eq34.false)
    (omega (arith, o, c.if-openings-most_openings.false)) (omega (arith, v, c.if-values-most_values.false)) in
    subst (λ (m : ℕ). IsRead text (c.bytes.at + 1) (c.bytes.openings + m) (c.bytes.values + c.from-values.result)) (sym o)
    (subst (λ (m : ℕ). IsRead text (c.bytes.at + 1) (c.bytes.openings + cond (is_opening byte) 1 0) (c.bytes.values + m)) (sym v) read)
