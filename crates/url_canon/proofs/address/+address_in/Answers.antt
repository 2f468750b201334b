use Rattle.std.proofs.Common.{◌-◌, ◌+◌, ◌*◌, ◌∷◌, ap, sym, ◌∙◌, arith, option_copied, Some}
use Rattle.std.specs.List.{slice_split}
use Rattle.url_canon.specs.Address.{address_in}
use Rattle.url_canon.specs.Words.{is_dot}
use Rattle.url_canon.proofs.Splits.{parts_after, some-slice_split}
use Rattle.url_canon.proofs.Numbers.{address_in-last, address_in-more, address_in-more_none, addresses_most, joined_fits}
use Rattle.url_canon.proofs.address.+address_in.Goals as goal

pub returns-then-fits-clause-value : goal.returns-then-fits-clause-value
returns-then-fits-clause-value t c =
    let parts = c.split_at_byte.ensures.parts ∙ ap (λ o. c.split_at_byte.result.0.now ∷ parts_after is_dot (option_copied o)) c.in_default.is in
    sym (ap (address_in c.args.width) parts ∙ address_in-last c.args.width (c.args.width - 1) c.split_at_byte.result.0.now c.in_ok-number.number (omega arith) (addresses_most c.args.width c.requires) (sym c.in_ok-number.ensures) (omega arith))

pub returns-in_err-low-clause-value : goal.returns-in_err-low-clause-value
returns-in_err-low-clause-value t c =
    let rest = c.in-Some.rest.now in
    let parts = c.split_at_byte.ensures.parts ∙ ap (λ o. c.split_at_byte.result.0.now ∷ parts_after is_dot (option_copied o)) c.in-Some.is in
    c.from_residual-in_err-low.ensures ∙ sym (ap (address_in c.args.width) parts ∙ address_in-more_none c.args.width (c.args.width - 1) c.split_at_byte.result.0.now (slice_split is_dot rest) (omega arith) (some-slice_split is_dot rest) (sym c.in_err-low.ensures.value))

pub overflow_mul-result : goal.overflow_mul-result
overflow_mul-result t c =
    let whole = joined_fits c.args.width c.count_addresses-then-number-lt256.result c.in_ok-number.number c.in_ok-low.low (omega arith) c.count_addresses-then-number-lt256.ensures c.if-number-lt256.true c.in_ok-low.ensures.fits in
    omega (arith, addresses_most c.args.width c.requires)

pub overflow_add-result : goal.overflow_add-result
overflow_add-result t c =
    let whole = joined_fits c.args.width c.count_addresses-then-number-lt256.result c.in_ok-number.number c.in_ok-low.low (omega arith) c.count_addresses-then-number-lt256.ensures c.if-number-lt256.true c.in_ok-low.ensures.fits in
    omega (arith, addresses_most c.args.width c.requires)

pub returns-then-number-lt256-clause-value : goal.returns-then-number-lt256-clause-value
returns-then-number-lt256-clause-value t c =
    let rest = c.in-Some.rest.now in
    let parts = c.split_at_byte.ensures.parts ∙ ap (λ o. c.split_at_byte.result.0.now ∷ parts_after is_dot (option_copied o)) c.in-Some.is in
    ap (λ size. Some (c.in_ok-number.number * size + c.in_ok-low.low)) c.count_addresses-then-number-lt256.ensures
    ∙ sym (ap (address_in c.args.width) parts ∙ address_in-more c.args.width (c.args.width - 1) c.split_at_byte.result.0.now (slice_split is_dot rest) c.in_ok-number.number c.in_ok-low.low (omega arith) (some-slice_split is_dot rest) (sym c.in_ok-number.ensures) c.if-number-lt256.true (sym c.in_ok-low.ensures.value))

pub returns-then-number-lt256-clause-fits : goal.returns-then-number-lt256-clause-fits
returns-then-number-lt256-clause-fits t c =
    joined_fits c.args.width c.count_addresses-then-number-lt256.result c.in_ok-number.number c.in_ok-low.low (omega arith) c.count_addresses-then-number-lt256.ensures c.if-number-lt256.true c.in_ok-low.ensures.fits
