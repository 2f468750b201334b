use Rattle.std.proofs.Common.{◌≡◌, ◌-◌, ◌*◌, ◌^◌, ◌<◌, ◌≤◌, ◌++◌, length, take}
use Rattle.proto_wire.specs.Spelling.{shortest_varint, sevens_of}
use Rattle.proto_wire.proofs.spelling.spell.Given as goal

abbrev pub invariant-loop-left : goal.invariant-loop-left
invariant-loop-left l =
    (l.last ≤ 9)
    × (l.left < 2 * 128 ^ (9 - l.last))
    × (length l.bytes ≡ 10)
    × (shortest_varint l.number ≡ take l.last l.bytes ++ sevens_of (9 - l.last) l.left)

abbrev pub decreases-loop-left : goal.decreases-loop-left
decreases-loop-left l = l.left
