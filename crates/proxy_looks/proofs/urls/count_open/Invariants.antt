use Rattle.std.proofs.Common.{◌≡◌, ◌≤◌, length, take}
use Rattle.proxy_looks.specs.Urls.{open_hits}
use Rattle.proxy_looks.proofs.urls.count_open.Given as goal

abbrev pub invariant-loop-one : goal.invariant-loop-one
invariant-loop-one l = record {
  count : l.count ≡ length (open_hits (take l.one-index l.urls));
  few : l.count ≤ l.one-index;
}
