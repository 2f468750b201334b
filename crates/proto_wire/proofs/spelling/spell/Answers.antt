use Rattle.std.proofs.Common.{◌+◌, ◌%◌, ◌<◌, ◌≤◌, length, refl, ◌∙◌, length-set, arith}
use Rattle.proto_wire.specs.Spelling.{shortest_varint}
use Rattle.proto_wire.proofs.SpellingFacts.{room_more, fits_more, spelled_more}
use Rattle.proto_wire.proofs.spelling.spell.Goals as goal

pub loop-left-init : goal.loop-left-init
unfolding shortest_varint
loop-left-init c = (omega arith, omega arith, refl, refl)

pub loop-left-preserved : goal.loop-left-preserved
loop-left-preserved c =
    let l = c.loop-left in
    let few : l.last ≤ 8 = room_more l.last l.left l.invariant.0 l.invariant.1 c.loop-left-test.true in
    let within : l.last < length l.bytes = omega arith in (
      omega arith,
      fits_more l.last l.left few l.invariant.1,
      length-set l.bytes l.last (l.left % 128 + 128) ∙ l.invariant.2,
      l.invariant.3 ∙ spelled_more l.last l.left l.bytes within few c.loop-left-test.true,
    )
