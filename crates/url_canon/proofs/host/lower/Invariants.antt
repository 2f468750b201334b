use Rattle.std.proofs.Common.{◌≡◌, ◌++◌, take, drop, map}
use Rattle.std.specs.Char.{to_ascii_lowercase}
use Rattle.url_canon.proofs.host.lower.Given as goal

abbrev pub invariant-loop-byte : goal.invariant-loop-byte
invariant-loop-byte l = l.text ≡ map to_ascii_lowercase (take l.byte-index l.fn.text) ++ drop l.byte-index l.fn.text
