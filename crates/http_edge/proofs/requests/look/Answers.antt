use Rattle.std.proofs.Common.{arith}
use Rattle.std.proofs.lemmas.List.{length-take}
use Rattle.http_edge.proofs.requests.look.Goals as goal

pub look_at_head-requires : goal.look_at_head-requires
look_at_head-requires c = omega (arith, length-take 16384 c.args.text.now, c.as_mut_slice.ensures.len, c.in_ok-room.ensures, c.min.ensures)
