use Rattle.std.proofs.Common.{◌≡◌}
use Rattle.std.specs.List.{flat_map, range_with_len}
use Rattle.generated_load.specs.Generated.{seed_number_at, other_seed, generated_url_at}
use Rattle.generated_load.proofs.urls.generated_urls.Given as goal

-- the page has the URLs so far
abbrev pub invariant-loop-place : goal.invariant-loop-place
invariant-loop-place l =
    (l.number ≡ seed_number_at (other_seed l.seed) l.place) × (l.page ≡ flat_map (generated_url_at l.seed) (range_with_len 1 l.place))
