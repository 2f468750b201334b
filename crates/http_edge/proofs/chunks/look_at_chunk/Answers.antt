use Rattle.std.proofs.Common.{subst, arith}
use Rattle.http_edge.specs.Chunks.{HasBadLine, HasOpenLine}
use Rattle.http_edge.proofs.ChunkFacts.{bad_line, open_line}
use Rattle.http_edge.proofs.ChunkStepFacts.{trailer_decided, trailer_undecided, data_decided, data_undecided}
use Rattle.http_edge.proofs.chunks.look_at_chunk.Goals as goal

pub returns-then-size-eq0-clause-step : goal.returns-then-size-eq0-clause-step
returns-then-size-eq0-clause-step c =
    trailer_decided c.args.text.now c.rest_from-rest.result.now c.rest_from-after.result.now c.args.place c.in-Says.start c.in-Says.size c.read_trailer.result
    c.if-place-ge-CHUNK_LIMIT.false c.rest_from-rest.ensures c.rest_from-after.ensures c.if-size-eq0.true c.in-Says.ensures c.read_trailer.ensures

pub returns-then-size-eq0-clause-open : goal.returns-then-size-eq0-clause-open
returns-then-size-eq0-clause-open c =
    trailer_undecided c.args.text.now c.rest_from-rest.result.now c.rest_from-after.result.now c.args.place c.in-Says.start c.in-Says.size c.read_trailer.result
    c.if-place-ge-CHUNK_LIMIT.false c.rest_from-rest.ensures c.rest_from-after.ensures c.if-size-eq0.true c.in-Says.ensures c.read_trailer.ensures

pub returns-else-size-eq0-clause-step : goal.returns-else-size-eq0-clause-step
returns-else-size-eq0-clause-step c =
    data_decided c.args.text.now c.rest_from-rest.result.now c.rest_from-after.result.now c.args.place c.in-Says.start c.in-Says.size c.look_at_data.result
    c.if-place-ge-CHUNK_LIMIT.false c.rest_from-rest.ensures c.rest_from-after.ensures (omega arith) c.in-Says.ensures c.look_at_data.ensures

pub returns-else-size-eq0-clause-open : goal.returns-else-size-eq0-clause-open
returns-else-size-eq0-clause-open c =
    data_undecided c.args.text.now c.rest_from-rest.result.now c.rest_from-after.result.now c.args.place c.in-Says.start c.in-Says.size c.look_at_data.result
    c.if-place-ge-CHUNK_LIMIT.false c.rest_from-rest.ensures c.rest_from-after.ensures (omega arith) c.in-Says.ensures c.look_at_data.ensures

pub returns-in-Refused-clause-step : goal.returns-in-Refused-clause-step
returns-in-Refused-clause-step c = λ body is. bad_line body c.args.text.now c.args.place (subst HasBadLine c.rest_from-rest.ensures c.in-Refused.ensures) is

pub returns-in-Open-clause-open : goal.returns-in-Open-clause-open
returns-in-Open-clause-open c = λ body is.
    open_line body c.args.text.now c.args.place c.if-place-ge-CHUNK_LIMIT.false (subst HasOpenLine c.rest_from-rest.ensures c.in-Open.ensures) is
