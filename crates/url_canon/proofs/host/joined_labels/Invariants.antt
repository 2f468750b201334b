use Rattle.std.proofs.Common.{◌≡◌, option_copied}
use Rattle.std.specs.List.{join_with_byte}
use Rattle.url_canon.specs.Host.{labels_of}
use Rattle.url_canon.proofs.Splits.{parts_after, size_after}
use Rattle.url_canon.proofs.Labels.{with_labels}
use Rattle.url_canon.proofs.host.joined_labels.Given as goal
use Rattle.url_canon.specs.Words.{is_dot}

abbrev pub invariant-loop-rest : goal.invariant-loop-rest
invariant-loop-rest l =
    with_labels l.name.items (parts_after is_dot (option_copied l.rest)) ≡ join_with_byte 46 (labels_of l.text)

abbrev pub decreases-loop-rest : goal.decreases-loop-rest
decreases-loop-rest l = size_after (option_copied l.rest)
