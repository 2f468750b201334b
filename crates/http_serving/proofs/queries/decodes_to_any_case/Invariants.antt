use Rattle.std.proofs.Common.{◌≡◌, drop}
use Rattle.std.specs.Str.{str_eq_ignore_ascii_case}
use Rattle.percent_encoding.specs.Iter.{decoded_bytes}
use Rattle.http_serving.specs.Queries.{percent_decoded}
use Rattle.http_serving.proofs.queries.decodes_to_any_case.Given as goal

abbrev pub invariant-loop-byte : goal.invariant-loop-byte
invariant-loop-byte l = str_eq_ignore_ascii_case (percent_decoded l.raw) l.wanted ≡ str_eq_ignore_ascii_case (decoded_bytes l.decoded) (drop l.byte-index l.wanted)
