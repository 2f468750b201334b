use Rattle.std.proofs.Common.{◌≡◌, ◌≤◌, ◌-◌, length, drop}
use Rattle.url_canon.specs.Unescaping.{with_byte}
use Rattle.url_canon.proofs.unescape.byte_before.Given as goal

abbrev pub invariant-loop-front : goal.invariant-loop-front
invariant-loop-front l = record {
  within : l.taken ≤ length l.text;
  value : with_byte l.front (drop l.taken l.text) ≡ with_byte l.byte l.text;
}

abbrev pub decreases-loop-front : goal.decreases-loop-front
decreases-loop-front l = length l.text - l.taken
