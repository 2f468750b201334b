use Rattle.std.proofs.Common.{ℕ, List, ◌++◌, take}
use Rattle.http_edge.specs.Deciding.{StandsFor}
use Rattle.http_edge.proofs.deciding.RequestWatch.feed.Given as goal

abbrev pub invariant-loop-byte : goal.invariant-loop-byte
invariant-loop-byte l = (bytes : List ℕ) → StandsFor l.fn.self bytes → StandsFor l.self (bytes ++ take l.byte-index l.piece)
