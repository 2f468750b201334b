use Rattle.std.proofs.Common.{◌≡◌, ◌+◌, ◌*◌, length, length-append, ap, arith}
use Rattle.proto_wire.specs.Spelling.{shortest_varint, written_field}
use Rattle.proto_wire.proofs.writing.number_len.Goals as goal

pub returns-clause-len : goal.returns-clause-len
unfolding written_field
returns-clause-len c =
    let key : c.from.result * 8 ≡ 8 * c.args.field + 0 = omega (arith, c.from.ensures) in
    omega (
      arith,
      c.varint_len.ensures.len,
      c.varint_len-2.ensures.len,
      ap (λ n. length (shortest_varint n)) key,
      length-append (shortest_varint (8 * c.args.field + 0)) (shortest_varint c.args.number),
    )
