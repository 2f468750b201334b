use Rattle.std.proofs.Common.{◌≡◌, ◌≤◌, length, All}
use Rattle.sha2.specs.Hashers.{Holds256}
use Rattle.url_expressions.specs.Spans.{piece_of}
use Rattle.url_hashes.specs.Hashes.{full_hash_of}
use Rattle.url_hashes.proofs.push_fronts.Given as goal

abbrev pub invariant-loop : goal.invariant-loop
invariant-loop l = record {
  order : l.from ≤ l.done;
  within : l.done ≤ length l.text;
  sum : Holds256 l.sum (piece_of l.text (record { from = l.from; to = l.done }));
  known : All (λ one. one.hash ≡ full_hash_of (piece_of l.text one.span)) l.fn.known.items
      → All (λ one. one.hash ≡ full_hash_of (piece_of l.text one.span)) l.known.items;
}
