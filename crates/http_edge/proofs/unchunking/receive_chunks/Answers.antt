use Rattle.std.proofs.Common.{ℕ, List, [], ◌++◌, false, true, refl, inl, sym, ap, subst, Err, rules, arith}
use Rattle.std.proofs.lemmas.List.{append-nil}
use Rattle.http_edge.specs.Chunks.{IsWholeBody}
use Rattle.http_edge.specs.ChunkSteps.{IsReadTo, IsOpenAt, IsOpenWith, IsOpenBodyWith}
use Rattle.http_edge.proofs.SessionSteps.{receives_nothing, receives_then, receives_and}
use Rattle.http_edge.proofs.ChunkFacts.{nothing_read, step_read}
use Rattle.http_edge.proofs.ReadFacts.{reads_open, reads_end, reads_failure, chunk_reads, chunk_reads_only}
use Rattle.http_edge.proofs.unchunking.receive_chunks.Goals as goal

pub returns-in_default-clause-fault : goal.returns-in_default-clause-fault
returns-in_default-clause-fault g c = ([], false, false, receives_nothing _, reads_open (IsOpenBodyWith c.args.body) [] (inl refl), tt)

pub chunks-init : goal.chunks-init
chunks-init g c = record {
  buffer = c.requires;
  room = c.in-Ok.ensures;
  so_far = (
    [],
    receives_nothing _,
    subst (λ (body : List ℕ). IsReadTo body c.args.body (record { end = 0; at = 0; count = 0 })) (sym (append-nil c.args.body)) (nothing_read c.args.body),
    inl refl,
  );
  faults = refl;
}

pub chunks-smaller : goal.chunks-smaller
chunks-smaller g c =
    let less = (rw c.in-Ok-Data.field-0-is at c.in-Ok-Data.ensures.decided).2 in
    omega (arith, less, c.take_chunk-taken.ensures.count)

pub chunks-preserved : goal.chunks-preserved
chunks-preserved g c =
    let so_far = c.chunks.invariant.so_far in
    let more = c.in-Ok-Data.ensures.more in record {
      buffer = search rules;
      room = c.chunks.invariant.room;
      so_far = (
        so_far.0 ++ more.given,
        receives_then _ _ _ _ _ so_far.1 more.receives,
        c.take_chunk-taken.ensures.read (c.args.body ++ (so_far.0 ++ more.given)) (step_read c.args.body so_far.0 _ _ more.given _ so_far.2 more.whole),
        chunk_reads c.args.body so_far.0 c.chunks.text c.chunks.place more.given so_far.2 so_far.3 more.reads,
      );
      faults = search rules;
    }

pub returns-in-Ok-Last-clause-whole : goal.returns-in-Ok-Last-clause-whole
returns-in-Ok-Last-clause-whole g c =
    let so_far = c.chunks.invariant.so_far in
    let more = c.in-Ok-Last.ensures.more in
    let bytes : List ℕ = c.args.body ++ (so_far.0 ++ more.given) in
    let decided = rw c.in-Ok-Last.field-0-is at c.in-Ok-Last.ensures.decided in (
      so_far.0 ++ more.given,
      receives_then _ _ _ _ _ so_far.1 more.receives,
      chunk_reads c.args.body so_far.0 c.chunks.text c.chunks.place more.given so_far.2 so_far.3 more.reads,
      subst (IsWholeBody bytes) (sym c.truncate.ensures) (decided bytes (step_read c.args.body so_far.0 _ _ more.given _ so_far.2 more.whole)),
    )

pub returns-in-Ok-Refused-clause-fault : goal.returns-in-Ok-Refused-clause-fault
returns-in-Ok-Refused-clause-fault g c =
    let so_far = c.chunks.invariant.so_far in
    let more = c.in-Ok-Refused.ensures.more in
    let decided = rw c.in-Ok-Refused.field-0-is at c.in-Ok-Refused.ensures.decided in (
      so_far.0 ++ more.given,
      false,
      false,
      receives_then _ _ _ _ _ so_far.1 more.receives,
      reads_open (IsOpenBodyWith c.args.body) (so_far.0 ++ more.given) (chunk_reads c.args.body so_far.0 c.chunks.text c.chunks.place more.given so_far.2 so_far.3 more.reads),
      decided (c.args.body ++ (so_far.0 ++ more.given)) (step_read c.args.body so_far.0 _ _ more.given _ so_far.2 more.whole),
    )

pub returns-in-Ok-Long-clause-fault : goal.returns-in-Ok-Long-clause-fault
returns-in-Ok-Long-clause-fault g c =
    let so_far = c.chunks.invariant.so_far in
    let more = c.in-Ok-Long.ensures.more in
    let decided = rw c.in-Ok-Long.field-0-is at c.in-Ok-Long.ensures.decided in (
      so_far.0 ++ more.given,
      false,
      false,
      receives_then _ _ _ _ _ so_far.1 more.receives,
      reads_open (IsOpenBodyWith c.args.body) (so_far.0 ++ more.given) (chunk_reads c.args.body so_far.0 c.chunks.text c.chunks.place more.given so_far.2 so_far.3 more.reads),
      decided (c.args.body ++ (so_far.0 ++ more.given)) (step_read c.args.body so_far.0 _ _ more.given _ so_far.2 more.whole),
    )

pub returns-in-Err-Ended-clause-fault : goal.returns-in-Err-Ended-clause-fault
returns-in-Err-Ended-clause-fault g c =
    let so_far = c.chunks.invariant.so_far in
    let more = c.in-Err-Ended.ensures.end (ap Err c.in-Err-Ended.field-0-is) in
    let unread = c.in-Err-Ended.ensures.open (ap Err c.in-Err-Ended.field-0-is) in (
      so_far.0 ++ more.given,
      true,
      false,
      receives_and so_far.0 more.given true false _ _ _ so_far.1 more.receives,
      chunk_reads_only c.args.body so_far.0 c.chunks.text c.chunks.place more.given true false so_far.2 so_far.3
          (reads_end (IsOpenWith c.chunks.text c.chunks.place) more.given more.reads (subst (λ (text : List ℕ). IsOpenAt text c.chunks.place) more.whole unread)),
      (refl, unread (c.args.body ++ (so_far.0 ++ more.given)) (step_read c.args.body so_far.0 _ _ more.given _ so_far.2 more.whole)),
    )

pub returns-in-Err-Failed-clause-fault : goal.returns-in-Err-Failed-clause-fault
returns-in-Err-Failed-clause-fault g c =
    let so_far = c.chunks.invariant.so_far in
    let fails = c.in-Err-Failed.ensures.failed_log (ap Err c.in-Err-Failed.field-0-is) in (
      so_far.0 ++ fails.given,
      false,
      true,
      receives_and so_far.0 fails.given false true _ _ _ so_far.1 fails.receives,
      chunk_reads_only c.args.body so_far.0 c.chunks.text c.chunks.place fails.given false true so_far.2 so_far.3
          (reads_failure (IsOpenWith c.chunks.text c.chunks.place) fails.given fails.reads fails.needed),
      refl,
    )

pub returns-in-Err-OutOfMemory-clause-fault : goal.returns-in-Err-OutOfMemory-clause-fault
returns-in-Err-OutOfMemory-clause-fault g c =
    let so_far = c.chunks.invariant.so_far in
    let some = c.in-Err-OutOfMemory.ensures.refused_log (ap Err c.in-Err-OutOfMemory.field-0-is) in (
      so_far.0 ++ some.given,
      false,
      false,
      receives_then _ _ _ _ _ so_far.1 some.receives,
      reads_open (IsOpenBodyWith c.args.body) (so_far.0 ++ some.given) (chunk_reads c.args.body so_far.0 c.chunks.text c.chunks.place some.given so_far.2 so_far.3 some.reads),
      tt,
    )
