use Rattle.std.proofs.Common.{◌≡◌, ◌≤◌, ◌-◌, length, drop}
use Rattle.httparse.specs.Grammar.{skip_ows}
use Rattle.http_edge.proofs.digests.trim_start.Given as goal

abbrev pub invariant-bytes : goal.invariant-bytes
invariant-bytes l = record {
  within : l.start ≤ length l.text;
  same : skip_ows (drop l.start l.text) ≡ skip_ows l.text;
}

abbrev pub decreases-bytes : goal.decreases-bytes
decreases-bytes l = length l.text - l.start
