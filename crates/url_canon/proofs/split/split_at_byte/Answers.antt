use Rattle.std.proofs.Common.{◌==◌}
use Rattle.url_canon.proofs.Cuts.{without_first, parts_first, parts_whole}
use Rattle.url_canon.proofs.split.split_at_byte.Goals as goal

pub returns-then-place-text-clause-parts : goal.returns-then-place-text-clause-parts
returns-then-place-text-clause-parts c =
    parts_whole (λ b. b == c.args.byte) c.args.text.now c.place_of-place.result c.place_of-place.ensures (cc)

pub returns-clause-after : goal.returns-clause-after
returns-clause-after c =
    without_first (λ b. b == c.args.byte) c.args.text.now c.place_of-place.result c.place_of-place.ensures c.if-place-text.false

pub returns-clause-parts : goal.returns-clause-parts
returns-clause-parts c =
    parts_first (λ b. b == c.args.byte) c.args.text.now c.place_of-place.result 0 c.place_of-place.ensures c.if-place-text.false
