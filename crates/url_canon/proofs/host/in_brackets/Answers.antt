use Rattle.std.proofs.Common.{◌+◌, arith, sym}
use Rattle.std.proofs.lemmas.Bool.{and_right, and_from}
use Rattle.std.proofs.lemmas.List.{length-take-le}
use Rattle.url_canon.specs.Host.{is_opening_bracket, is_close}
use Rattle.url_canon.specs.Words.{begins_with}
use Rattle.url_canon.proofs.Cuts.{position_or_len-le, any_at, none_at, through_first}
use Rattle.url_canon.proofs.host.in_brackets.Goals as goal

pub returns-then-place-text : goal.returns-then-place-text
returns-then-place-text c =
    and_right (begins_with is_opening_bracket c.args.text.now) _ (none_at is_close c.args.text.now c.place_of-place.result c.place_of-place.ensures (cc))

pub overflow_add-result : goal.overflow_add-result
overflow_add-result c =
    omega (arith, position_or_len-le is_close c.args.text.now)

pub slice_bounds-result-end : goal.slice_bounds-result-end
slice_bounds-result-end c =
    let within = position_or_len-le is_close c.args.text.now in
    sym (length-take-le (c.place_of-place.result + 1) c.args.text.now (omega arith))

pub returns : goal.returns
returns c =
    (and_from (begins_with is_opening_bracket c.args.text.now) _ (sym c.if-not-begins_with_open.ensures) (any_at is_close c.args.text.now c.place_of-place.result c.place_of-place.ensures c.if-place-text.false), through_first 93 c.args.text.now c.place_of-place.result c.place_of-place.ensures c.if-place-text.false)
