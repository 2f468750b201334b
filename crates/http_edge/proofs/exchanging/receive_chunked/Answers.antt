use Rattle.std.proofs.Common.{◌≡◌, ℕ, List, ◌++◌, drop, subst, false}
use Rattle.http_edge.specs.Chunks.{IsWholeBody}
use Rattle.http_edge.specs.ChunkSteps.{IsFaultOfChunks, IsOpenBodyWith}
use Rattle.http_edge.specs.Outcomes.{IsUndecided}
use Rattle.http_edge.specs.SessionBytes.{ReadsWhile, ReadsOnly}
use Rattle.http_edge.specs.declared.session_bytes.ReceiveFault.TheVariants.{Fault}
use Rattle.http_edge.proofs.RequestFacts.{rest_of}
use Rattle.http_edge.proofs.SessionSteps.{err_says, receives_then, receives_and}
use Rattle.http_edge.proofs.ResponseFacts.{compared_chunks, chunked_fault}
use Rattle.http_edge.proofs.ReadFacts.{reads_open, reads_and, head_reads, chunks_undecided}
use Rattle.http_edge.proofs.exchanging.receive_chunked.Goals as goal

pub returns-in-Ok-clause-received : goal.returns-in-Ok-clause-received
returns-in-Ok-clause-received g c = λ start received.
    let text = c.args.text.now in
    let rest : c.in_ok-body.body ≡ drop c.args.parts.start text =
    rest_of c.in_ok-body.body c.as_slice.result.now text c.args.parts.start c.in_ok-body.ensures c.as_slice.ensures in
    let whole = c.in-Ok.ensures.whole in
    let reads = subst (λ (body : List ℕ). ReadsWhile (IsOpenBodyWith body) whole.0) rest whole.2 in (
      text ++ whole.0,
      false,
      false,
      receives_then text whole.0 _ _ _ received whole.1,
      reads_and (IsUndecided c.args.need_digest) (IsOpenBodyWith (drop c.args.parts.start text)) text whole.0 false false
          (chunks_undecided c.args.need_digest text c.args.parts c.requires.parts c.requires.success c.requires.framing)
          (head_reads c.args.need_digest text c.requires.reads) (reads_open (IsOpenBodyWith (drop c.args.parts.start text)) whole.0 reads),
      compared_chunks c.args.need_digest text whole.0 c.args.parts c.in-Ok.body c.compare_digest.result c.requires.parts c.requires.success c.requires.framing
          (subst (λ (body : List ℕ). IsWholeBody (body ++ whole.0) c.in-Ok.body) rest whole.3) c.compare_digest.ensures,
    )

pub returns-in-Err-Fault-clause-received : goal.returns-in-Err-Fault-clause-received
returns-in-Err-Fault-clause-received g c = λ start received.
    let text = c.args.text.now in
    let rest : c.in_ok-body.body ≡ drop c.args.parts.start text =
    rest_of c.in_ok-body.body c.as_slice.result.now text c.args.parts.start c.in_ok-body.ensures c.as_slice.ensures in
    let all = c.in-Err-Fault.ensures.fault in
    let reads = subst (λ (body : List ℕ). ReadsOnly (IsOpenBodyWith body) all.0 all.1 all.2) rest all.4 in (
      text ++ all.0,
      all.1,
      all.2,
      receives_and text all.0 all.1 all.2 _ _ _ received all.3,
      reads_and (IsUndecided c.args.need_digest) (IsOpenBodyWith (drop c.args.parts.start text)) text all.0 all.1 all.2
          (chunks_undecided c.args.need_digest text c.args.parts c.requires.parts c.requires.success c.requires.framing) (head_reads c.args.need_digest text c.requires.reads) reads,
      rw c.in-Err-Fault.field-0-is (chunked_fault c.args.need_digest all.1 all.2 text all.0 c.args.parts c.in-Err-Fault.fault c.requires.parts c.requires.success c.requires.framing
          (subst (λ (body : List ℕ). IsFaultOfChunks (body ++ all.0) all.1 all.2 (Fault c.in-Err-Fault.fault)) rest (rw c.in-Err-Fault.field-0-is at all.5))),
    )

pub returns-in-Err-OutOfMemory-clause-refused : goal.returns-in-Err-OutOfMemory-clause-refused
returns-in-Err-OutOfMemory-clause-refused g c = λ start received.
    let text = c.args.text.now in
    let rest : c.in_ok-body.body ≡ drop c.args.parts.start text =
    rest_of c.in_ok-body.body c.as_slice.result.now text c.args.parts.start c.in_ok-body.ensures c.as_slice.ensures in
    let all = c.in-Err-OutOfMemory.ensures.fault in
    let reads = subst (λ (body : List ℕ). ReadsOnly (IsOpenBodyWith body) all.0 all.1 all.2) rest all.4 in (
      text ++ all.0,
      all.1,
      all.2,
      receives_and text all.0 all.1 all.2 _ _ _ received all.3,
      reads_and (IsUndecided c.args.need_digest) (IsOpenBodyWith (drop c.args.parts.start text)) text all.0 all.1 all.2
          (chunks_undecided c.args.need_digest text c.args.parts c.requires.parts c.requires.success c.requires.framing) (head_reads c.args.need_digest text c.requires.reads) reads,
    )

pub returns-in_err-body-clause-refused : goal.returns-in_err-body-clause-refused
returns-in_err-body-clause-refused g c = err_says c.from_residual.result _ (λ start received.
    (c.args.text.now, false, false, received, reads_open (IsUndecided c.args.need_digest) c.args.text.now (head_reads c.args.need_digest c.args.text.now c.requires.reads)))
