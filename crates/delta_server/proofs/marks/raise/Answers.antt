use Rattle.std.proofs.Common.{arith}
use Rattle.std.proofs.lemmas.Grind.{get_or_default_zero}
use Rattle.delta_server.proofs.MarkFacts.{raised_to}
use Rattle.delta_server.proofs.marks.raise.Goals as goal

pub returns-clause-sums : goal.returns-clause-sums
returns-clause-sums c = λ count room. raised_to c.args.counts.now.items c.args.place _ count c.requires (omega (arith, room, get_or_default_zero c.args.counts.now.items c.args.place c.index.result.now c.requires))
