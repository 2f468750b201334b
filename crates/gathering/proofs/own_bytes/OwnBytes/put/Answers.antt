use Rattle.std.proofs.Common.{◌≡◌, ◌+◌, length, take, arith}
use Rattle.std.proofs.lemmas.List.{length-take-le}
use Rattle.gathering.proofs.Pieces.{put_sealed, put_sealed_bytes}
use Rattle.gathering.proofs.own_bytes.OwnBytes.put.Goals as goal

pub invariant_of-self-2 : goal.invariant_of-self-2
invariant_of-self-2 c =
    let counted : length (take c.min-count.result c.args.piece.now) ≡ c.min-count.result = length-take-le c.min-count.result c.args.piece.now (omega arith) in
    let sum : c.in-Some.left ≡ c.self.inside.left + length (take c.min-count.result c.args.piece.now) = omega (arith, counted) in
    put_sealed c.self.inside.full.items c.seal.new.full.items c.self.inside.last c.seal.new.last (take c.min-count.result c.args.piece.now) c.append.new.self c.self.inside.sent c.self.inside.left c.in-Some.left
    c.in_ok-seal.ensures.first c.in_ok-seal.ensures.rest c.in_ok-seal.ensures.filled c.self.invariant.going c.self.invariant.filled c.self.invariant.count c.in_ok-append.ensures.ok sum

pub returns-clause-ok : goal.returns-clause-ok
returns-clause-ok c =
    rw (← c.self.view_is)
    (put_sealed_bytes c.self.inside.full.items c.seal.new.full.items c.self.inside.last c.seal.new.last (take c.min-count.result c.args.piece.now) c.append.new.self c.self.inside.sent
    c.in_ok-seal.ensures.first c.in_ok-seal.ensures.rest c.self.invariant.going c.in_ok-append.ensures.ok)
