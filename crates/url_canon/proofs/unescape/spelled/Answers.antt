use Rattle.url_canon.proofs.Inplace.{spells}
use Rattle.url_canon.proofs.unescape.spelled.Goals as goal

pub returns : goal.returns
returns c =
    let high = c.in_ok-high.ensures in
    let low = c.in_ok-low.ensures in
    (c.in-len2-up.len_at_least, spells c.args.text.now c.in_ok-high.high c.in_ok-low.low c.in-len2-up.len_at_least high.0 high.1 low.0 low.1)
