use Rattle.std.proofs.Common.{◌≡◌, ◌∷◌, [], map, option_copied}
use Rattle.std.specs.List.{fold, slice_split}
use Rattle.url_canon.specs.Words.{last_part}
use Rattle.url_canon.specs.Path.{is_slash, with_component}
use Rattle.url_canon.proofs.Splits.{parts_after, size_after}
use Rattle.url_canon.proofs.path.without_dot_segments.Given as goal

abbrev pub invariant-loop-rest : goal.invariant-loop-rest
invariant-loop-rest l =
    (fold with_component (map (λ c. c.now) l.kept.items) (parts_after is_slash (option_copied l.rest)) ≡ fold with_component [] (slice_split is_slash l.path)) × (last_part (l.last ∷ parts_after is_slash (option_copied l.rest)) ≡ last_part (slice_split is_slash l.path))

abbrev pub decreases-loop-rest : goal.decreases-loop-rest
decreases-loop-rest l = size_after (option_copied l.rest)
