use Rattle.std.proofs.Common.{◌≡◌, All}
use Rattle.url_expressions.specs.Spans.{piece_of}
use Rattle.url_hashes.specs.Hashes.{full_hash_of}
use Rattle.url_hashes.proofs.hash_fronts.Given as goal

abbrev pub invariant-loop-span : goal.invariant-loop-span
invariant-loop-span l = All (λ one. one.hash ≡ full_hash_of (piece_of l.text one.span)) l.known.items
