use Rattle.std.proofs.Common.{false}
use Rattle.http_edge.specs.Outcomes.{IsUndecided}
use Rattle.http_edge.proofs.ResponseFacts.{other_status, unframed}
use Rattle.http_edge.proofs.ReadFacts.{reads_open, head_reads}
use Rattle.http_edge.proofs.exchanging.receive_rest.Goals as goal

pub returns-then-parts-ne200-clause-received : goal.returns-then-parts-ne200-clause-received
returns-then-parts-ne200-clause-received g c = λ start received.
    let reads = reads_open (IsUndecided c.args.need_digest) c.args.text.now (head_reads c.args.need_digest c.args.text.now c.requires.reads) in
    (c.args.text.now, false, false, received, reads, other_status c.args.need_digest false c.args.text.now c.args.parts c.requires.parts c.if-parts-ne200.true)

pub returns-in-Unframed-clause-received : goal.returns-in-Unframed-clause-received
returns-in-Unframed-clause-received g c = λ start received.
    let reads = reads_open (IsUndecided c.args.need_digest) c.args.text.now (head_reads c.args.need_digest c.args.text.now c.requires.reads) in
    (c.args.text.now, false, false, received, reads, unframed c.args.need_digest false c.args.text.now c.args.parts c.requires.parts c.if-parts-ne200.false c.in-Unframed.is)
