use Rattle.std.proofs.Common.{option_copied}
use Rattle.std.specs.List.{slice_split}
use Rattle.url_canon.specs.Path.{is_slash}
use Rattle.url_canon.proofs.Splits.{parts_after, size_after}
use Rattle.url_canon.proofs.Paths.{Stays}
use Rattle.url_canon.proofs.path.has_normal_components.Given as goal

abbrev pub invariant-loop-rest : goal.invariant-loop-rest
invariant-loop-rest l =
    Stays (parts_after is_slash (option_copied l.rest)) → Stays (slice_split is_slash l.path)

abbrev pub decreases-loop-rest : goal.decreases-loop-rest
decreases-loop-rest l = size_after (option_copied l.rest)
