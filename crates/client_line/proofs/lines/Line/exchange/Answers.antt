use Rattle.std.proofs.Common.{◌∙◌}
use Rattle.std.proofs.lemmas.Result.{on_err_weaker}
use Rattle.http_edge.specs.Exchanges.{IsOpenExchange, HoldsPart}
use Rattle.client_line.proofs.Parts.{closes_if, broken_if}
use Rattle.client_line.proofs.lines.Line.exchange.Goals as goal

pub returns-clause-closed : goal.returns-clause-closed
returns-clause-closed g c =
    closes_if c.args.at _ _ _ c.end_exchange.result c.in_ok-sent.ensures.unread
    (c.end_exchange.ensures.closed c.args.at (c.in_ok-sent.ensures.unread.last ∙ c.requires.read))

pub returns-clause-refused : goal.returns-clause-refused
returns-clause-refused g c =
    let opens = c.in_ok-sent.ensures.opened in
    broken_if (IsOpenExchange c.args.target.now c.args.kind c.args.body.now c.args.at (g.Self.Line.view c.args.self.now).told.log (g.Self.Line.view c.begin_exchange.new.self).told.log c.in_ok-sent.sent)
    (λ ended. HoldsPart c.args.target.now c.args.kind c.args.body.now c.args.at c.args.need_digest ended (g.Self.Line.view c.args.self.now).told.log (g.Self.Line.view c.end_exchange.new.self).told.log)
    c.args.at _ _ _ c.end_exchange.result c.in_ok-sent.ensures.unread (c.in_ok-sent.ensures.unread.last ∙ c.requires.read) opens
    (on_err_weaker c.end_exchange.result
    (λ part. (part.0, (λ is. part.1 c.args.target.now c.args.kind c.args.body.now c.args.at _ is), part.2)) c.end_exchange.ensures.refused)
