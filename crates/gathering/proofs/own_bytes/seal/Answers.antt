use Rattle.gathering.proofs.Pieces.{sealed}
use Rattle.gathering.proofs.own_bytes.seal.Goals as goal

pub returns-clause-rest : goal.returns-clause-rest
returns-clause-rest c =
    sealed c.args.full.now.items c.push_back_reserved.new.self.items c.args.last.now c.replace-whole.result c.replace-whole.new.dest (cc) (cc) (cc)
