use Rattle.std.proofs.Common.{option_copied}
use Rattle.std.specs.List.{slice_split, AllByRecursion}
use Rattle.url_canon.specs.Words.{is_dot}
use Rattle.url_canon.proofs.Splits.{parts_after, size_after}
use Rattle.url_canon.proofs.Labels.{HasBytes}
use Rattle.url_canon.proofs.host.is_tidy.Given as goal

abbrev pub invariant-loop-rest : goal.invariant-loop-rest
invariant-loop-rest l =
    AllByRecursion HasBytes (parts_after is_dot (option_copied l.rest)) → AllByRecursion HasBytes (slice_split is_dot l.text)

abbrev pub decreases-loop-rest : goal.decreases-loop-rest
decreases-loop-rest l = size_after (option_copied l.rest)
