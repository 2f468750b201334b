use Rattle.std.proofs.Common.{◌≡◌, drop}
use Rattle.std.specs.Str.{bytes_eq}
use Rattle.percent_encoding.specs.Iter.{decoded_bytes}
use Rattle.http_serving.specs.Queries.{percent_decoded}
use Rattle.http_serving.proofs.queries.decodes_to.Given as goal

abbrev pub invariant-loop-byte : goal.invariant-loop-byte
invariant-loop-byte l = bytes_eq (percent_decoded l.raw) l.wanted ≡ bytes_eq (decoded_bytes l.decoded) (drop l.byte-index l.wanted)
