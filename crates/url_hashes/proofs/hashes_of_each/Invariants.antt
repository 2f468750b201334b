use Rattle.std.proofs.Common.{◌≡◌, map, take}
use Rattle.url_expressions.specs.Spans.{piece_of}
use Rattle.url_hashes.specs.Hashes.{full_hash_of}
use Rattle.url_hashes.proofs.hashes_of_each.Given as goal

abbrev pub invariant-loop-span : goal.invariant-loop-span
invariant-loop-span l = l.hashes ≡ map (λ span. full_hash_of (piece_of l.text span)) (take l.span-index l.spans)
