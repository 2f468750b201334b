use Rattle.std.proofs.Common.{◌≡◌, ◌-◌, ◌^◌, ◌<◌, ◌≤◌, drop}
use Rattle.proto_wire.specs.Reading.{varint_at, varint_in}
use Rattle.proto_wire.proofs.VarintFacts.{after_sevens}
use Rattle.proto_wire.proofs.varints.take_varint.Given as goal

abbrev pub invariant-loop-i : goal.invariant-loop-i
invariant-loop-i l =
    (l.i ≤ 9)
    × (l.worth ≡ 128 ^ l.i)
    × (l.number < l.worth)
    × (varint_at l.place l.bytes ≡ after_sevens l.number l.worth (varint_in (10 - l.i) l.place (drop l.i l.bytes)))
