use Rattle.std.proofs.Common.{◌≡◌, ◌∷◌, option_copied}
use Rattle.std.specs.List.{slice_split}
use Rattle.url_canon.specs.Words.{last_part}
use Rattle.url_canon.specs.Parts.{is_at}
use Rattle.url_canon.proofs.Splits.{parts_after, size_after}
use Rattle.url_canon.proofs.parts.without_user.Given as goal

abbrev pub invariant-loop-rest : goal.invariant-loop-rest
invariant-loop-rest l =
    last_part (l.last ∷ parts_after is_at (option_copied l.rest)) ≡ last_part (slice_split is_at l.authority)

abbrev pub decreases-loop-rest : goal.decreases-loop-rest
decreases-loop-rest l = size_after (option_copied l.rest)
