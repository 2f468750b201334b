use Rattle.std.proofs.Common.{length}
use Rattle.hash_prefixes.proofs.HexFacts.{IsWritten}
use Rattle.hash_prefixes.proofs.hex_text.append_hex.Given as goal

abbrev pub invariant-loop-rest : goal.invariant-loop-rest
invariant-loop-rest l = IsWritten l.initial.out l.out l.fn.bytes l.rest

abbrev pub decreases-loop-rest : goal.decreases-loop-rest
decreases-loop-rest l = length l.rest
