use Rattle.std.specs.List.{slice_split}
use Rattle.url_canon.specs.Parts.{is_at}
use Rattle.url_canon.proofs.Splits.{last_part-more, some-slice_split}
use Rattle.url_canon.proofs.parts.without_user.Goals as goal

pub loop-rest-init : goal.loop-rest-init
loop-rest-init c =
    last_part-more c.args.authority.now (slice_split is_at c.args.authority.now) (some-slice_split is_at c.args.authority.now)
