use Rattle.std.proofs.Common.{sym}
use Rattle.http_serving.proofs.Unavailable.{front_sent, unavailable_is, whole_sent}
use Rattle.http_serving.proofs.responses.send_unavailable.Goals as goal

pub returns-clause-sent : goal.returns-clause-sent
returns-clause-sent g c = front_sent _ _ _ c.write_all.result (sym unavailable_is) c.write_all.ensures.ok c.write_all.ensures.err

pub returns-clause-whole : goal.returns-clause-whole
returns-clause-whole g c =
    whole_sent _ _ _ _ _ c.write_all.result (sym unavailable_is) c.write_all.ensures.ok c.write_all.ensures.kept c.write_all.ensures.failed
