use Rattle.std.proofs.Common.{◌≡◌, take}
use Rattle.call_tests.proofs.lists.lent.Given as goal

abbrev pub invariant-loop-url : goal.invariant-loop-url
invariant-loop-url l = l.lines ≡ take l.url-index l.urls
