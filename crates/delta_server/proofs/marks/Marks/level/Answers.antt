use Rattle.std.proofs.Common.{arith}
use Rattle.std.proofs.lemmas.Grind.{get_or_default_zero}
use Rattle.delta_server.proofs.MarkFacts.{level_is}
use Rattle.delta_server.proofs.marks.Marks.level.Goals as goal

pub returns : goal.returns
returns c = λ most count few less within tells stands.
    level_is c.args.self.now c.args.place c.args.before most _ count within c.requires.same few less tells stands
    (omega (
      arith,
      get_or_default_zero c.args.self.now.begins.items c.args.place c.index.result.now c.requires.within,
      get_or_default_zero c.args.self.now.stops.items c.args.place c.index-2.result.now (omega arith),
    ))
