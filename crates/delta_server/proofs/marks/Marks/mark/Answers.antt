use Rattle.std.proofs.Common.{arith}
use Rattle.delta_server.proofs.MarkFacts.{tells_marked}
use Rattle.delta_server.proofs.marks.Marks.mark.Goals as goal

pub returns-clause-tells : goal.returns-clause-tells
returns-clause-tells c = λ most count few tells.
    tells_marked c.args.self.now (record { begins = c.raise.new.counts; stops = c.raise-2.new.counts }) c.args.begin c.args.stop most count c.requires.order tells c.raise.ensures.len
    (λ n. c.raise.ensures.sums n (omega (arith, few, tells.begins c.args.begin))) (λ n. c.raise-2.ensures.sums n (omega (arith, few, tells.stops c.args.stop)))
    (c.raise.ensures.most most tells.begins) (c.raise-2.ensures.most most tells.stops)
