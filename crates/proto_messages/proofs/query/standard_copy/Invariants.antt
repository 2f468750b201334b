use Rattle.std.proofs.Common.{◌≡◌, map, take}
use Rattle.sb_json.specs.Values.{in_standard_alphabet}
use Rattle.proto_messages.proofs.query.standard_copy.Given as goal

abbrev pub invariant-loop-byte : goal.invariant-loop-byte
invariant-loop-byte l = l.copy ≡ map in_standard_alphabet (take l.byte-index l.text)
