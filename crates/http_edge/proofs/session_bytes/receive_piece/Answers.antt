use Rattle.std.proofs.Common.{◌<◌, take, arith}
use Rattle.std.proofs.lemmas.List.{length-take}
use Rattle.sb_outside.specs.Sessions.{with_end, with_failure, with_received}
use Rattle.http_edge.proofs.SessionSteps.{turns_from}
use Rattle.http_edge.proofs.session_bytes.receive_piece.Goals as goal

pub returns-in-Ok-eq0-clause-end : goal.returns-in-Ok-eq0-clause-end
returns-in-Ok-eq0-clause-end g c = λ _.
    turns_from with_end _ _ (c.in-Ok-eq0.ensures.end c.in-Ok-eq0.field-0-test (omega (arith, c.recv.auto.buffer, c.requires)))

pub returns-in-Ok-append-clause-more : goal.returns-in-Ok-append-clause-more
returns-in-Ok-append-clause-more g c =
    let count : 0 < c.in-Ok.count = omega (arith, c.in-Ok.count-test.1) in
    record {
      given = take c.in-Ok.count c.recv.new.buffer;
      some = omega (arith, length-take c.in-Ok.count c.recv.new.buffer, c.in-Ok.ensures.within);
      short = omega (arith, length-take c.in-Ok.count c.recv.new.buffer, c.recv.auto.buffer, c.requires);
      whole = c.in-Ok-append.ensures.ok;
      receives = turns_from (with_received (take c.in-Ok.count c.recv.new.buffer)) _ _ (c.in-Ok.ensures.bytes count);
    }

pub returns-in-Err-append-clause-refused_log : goal.returns-in-Err-append-clause-refused_log
returns-in-Err-append-clause-refused_log g c = λ _.
    let count : 0 < c.in-Ok.count = omega (arith, c.in-Ok.count-test.1) in
    record {
      given = take c.in-Ok.count c.recv.new.buffer;
      short = omega (arith, length-take c.in-Ok.count c.recv.new.buffer, c.recv.auto.buffer, c.requires);
      receives = turns_from (with_received (take c.in-Ok.count c.recv.new.buffer)) _ _ (c.in-Ok.ensures.bytes count);
    }

pub returns-in-Err-clause-failed_log : goal.returns-in-Err-clause-failed_log
returns-in-Err-clause-failed_log g c = λ _. turns_from with_failure _ _ c.in-Err.ensures.err
