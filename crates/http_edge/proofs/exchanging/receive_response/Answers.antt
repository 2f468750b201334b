use Rattle.std.proofs.Common.{[], false}
use Rattle.http_edge.proofs.SessionSteps.{err_says, receives_nothing}
use Rattle.http_edge.proofs.ResponseFacts.{received_fault}
use Rattle.http_edge.proofs.ReadFacts.{reads_nothing, head_reads_only}
use Rattle.http_edge.proofs.exchanging.receive_response.Goals as goal

pub returns-in_err-buffer-clause-refused : goal.returns-in_err-buffer-clause-refused
returns-in_err-buffer-clause-refused g c = err_says c.from_residual.result _ ([], false, false, receives_nothing _, reads_nothing c.args.need_digest false false)

pub returns-in-Err-Fault-clause-received : goal.returns-in-Err-Fault-clause-received
returns-in-Err-Fault-clause-received g c =
    let all = c.in-Err-Fault.ensures.fault in
    let reads = head_reads_only c.args.need_digest all.0 all.1 all.2 all.4 in
    (all.0, all.1, all.2, all.3, reads, rw c.in-Err-Fault.field-0-is (received_fault c.args.need_digest all.0 all.1 all.2 c.in-Err-Fault.fault (rw c.in-Err-Fault.field-0-is at all.5)))

pub returns-clause-refused : goal.returns-clause-refused
returns-clause-refused g c =
    let all = c.in-Err-OutOfMemory.ensures.fault in
    (all.0, all.1, all.2, all.3, head_reads_only c.args.need_digest all.0 all.1 all.2 all.4)
