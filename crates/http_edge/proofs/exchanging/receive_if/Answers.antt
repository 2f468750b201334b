use Rattle.std.proofs.Common.{subst}
use Rattle.http_edge.specs.Exchanges.{IsOpenExchange}
use Rattle.http_edge.proofs.TalkFacts.{talk_received, talk_part, talk_unsent}
use Rattle.http_edge.proofs.exchanging.receive_if.Goals as goal

pub returns-then-not-sent-clause-answer : goal.returns-then-not-sent-clause-answer
returns-then-not-sent-clause-answer g c = λ target kind body at start opens.
    talk_unsent target kind body at c.args.need_digest start _
    (subst (λ sent. IsOpenExchange target kind body at start (g.L.Link.log c.args.link.now) sent) c.if-not-sent.true opens)

pub returns-clause-answer : goal.returns-clause-answer
returns-clause-answer g c = λ target kind body at start opens.
    talk_received target kind body at c.args.need_digest start _ _ c.receive_response.result
    (subst (λ sent. IsOpenExchange target kind body at start (g.L.Link.log c.args.link.now) sent) c.if-not-sent.false opens)
    c.receive_response.ensures.received

pub returns-clause-refused : goal.returns-clause-refused
returns-clause-refused g c = λ target kind body at start opens.
    talk_part target kind body at c.args.need_digest start _ _ c.receive_response.result
    (subst (λ sent. IsOpenExchange target kind body at start (g.L.Link.log c.args.link.now) sent) c.if-not-sent.false opens)
    c.receive_response.ensures.refused
