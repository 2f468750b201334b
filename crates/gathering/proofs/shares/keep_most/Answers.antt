use Rattle.std.proofs.Common.{◌≡◌, ◌+◌, ◌∙◌, length, arith}
use Rattle.gathering.proofs.LeastTaken.{is_there, one_gone}
use Rattle.gathering.proofs.shares.keep_most.Goals as goal

pub returns-in-Some-clause-most : goal.returns-in-Some-clause-most
returns-in-Some-clause-most c = λ within.
    let there = is_there c.args.taken.now c.in-Some.address c.len.ensures.ordered c.in-Some.ensures.some in
    let gone : length c.remove.new.self.entries + 1 ≡ length c.args.taken.now.entries = one_gone c.remove.result _ _ _ (c.remove.ensures.value ∙ there) c.remove.ensures.len in
    omega arith
