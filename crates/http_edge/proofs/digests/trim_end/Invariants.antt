use Rattle.std.proofs.Common.{◌≡◌, ◌≤◌, length, take, reverse}
use Rattle.httparse.specs.Grammar.{skip_ows}
use Rattle.http_edge.proofs.digests.trim_end.Given as goal

abbrev pub invariant-bytes : goal.invariant-bytes
invariant-bytes l = record {
  within : l.end ≤ length l.text;
  same : skip_ows (reverse (take l.end l.text)) ≡ skip_ows (reverse l.text);
}

abbrev pub decreases-bytes : goal.decreases-bytes
decreases-bytes l = l.end
