use Rattle.std.proofs.Common.{◌≡◌, ◌<◌, ◌^◌, take}
use Rattle.std.specs.Prelude.{All}
use Rattle.list_versions.specs.Quads.{quads_of}
use Rattle.list_versions.proofs.quads.numbers_from.Given as goal

abbrev pub invariant-loop-quad : goal.invariant-loop-quad
invariant-loop-quad l = record {
  prefixes : quads_of l.numbers.items ≡ take l.quad-index l.quads;
  small : All (λ number. number < 2 ^ 32) l.numbers.items;
}
