use Rattle.std.proofs.Common.{◌≡◌, ◌∙◌, subst, inl, inr, arith}
use Rattle.std.proofs.lemmas.List.{take_all}
use Rattle.httparse.specs.Grammar.{HasNoChunkLine, NeverHasChunkLine, MayBecomeChunkLine}
use Rattle.http_edge.proofs.ChunkFacts.{line_of_front}
use Rattle.http_edge.proofs.chunks.read_line.Goals as goal

pub returns-in-Ok-Complete : goal.returns-in-Ok-Complete
returns-in-Ok-Complete c =
    let found = rw c.in-Ok-Complete.field-0-is at c.in-Ok-Complete.ensures.complete in
    line_of_front c.args.bytes.now c.front_of.result.now c.in-Ok-Complete.start c.in-Ok-Complete.size found.0 c.front_of.ensures found.1.reads found.1.len_is found.1.size_is

pub returns-then-bytes-lt-LINE_LIMIT : goal.returns-then-bytes-lt-LINE_LIMIT
returns-then-bytes-lt-LINE_LIMIT c =
    let bytes = c.args.bytes.now in
    let whole : c.front_of.result.now ≡ bytes = c.front_of.ensures ∙ take_all 1024 bytes (omega arith) in (
      c.if-bytes-lt-LINE_LIMIT.true,
      subst HasNoChunkLine whole (rw c.in-Ok-Partial.field-0-is at c.in-Ok-Partial.ensures.partial),
      subst MayBecomeChunkLine whole (rw c.in-Ok-Partial.field-0-is at c.in-Ok-Partial.ensures.unfinished),
    )

pub returns-else-bytes-lt-LINE_LIMIT : goal.returns-else-bytes-lt-LINE_LIMIT
returns-else-bytes-lt-LINE_LIMIT c =
    inr (c.if-bytes-lt-LINE_LIMIT.false, subst HasNoChunkLine c.front_of.ensures (rw c.in-Ok-Partial.field-0-is at c.in-Ok-Partial.ensures.partial))

pub returns-in-Err : goal.returns-in-Err
returns-in-Err c = inl (subst NeverHasChunkLine c.front_of.ensures c.in-Err.ensures.invalid)
