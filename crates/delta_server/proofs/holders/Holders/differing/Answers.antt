use Rattle.std.proofs.Common.{◌≡◌, ◌+◌, ◌*◌, length, arith}
use Rattle.sb_model.specs.Difference.{difference_count}
use Rattle.delta_server.specs.Walk.{published}
use Rattle.delta_server.proofs.SetCounts.{difference_by_shared}
use Rattle.delta_server.proofs.holders.Holders.differing.Goals as goal

pub returns : goal.returns
returns c = λ entries counts.
    let d : difference_count c.args.self.now.held.now (published entries) + 2 * c.args.self.now.shared ≡ length c.args.self.now.held.now + length (published entries) =
    difference_by_shared c.args.self.now.held.now (published entries) c.args.self.now.shared counts.stay counts.known in
    omega (arith, c.len.ensures.count entries counts, c.len.ensures.few, c.len-2.ensures.value, c.len-2.ensures.count, c.from.ensures, c.saturating_add-both.ensures, c.saturating_mul.ensures, c.saturating_sub.ensures)
