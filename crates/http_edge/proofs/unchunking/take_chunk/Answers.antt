use Rattle.std.proofs.Common.{◌+◌, arith}
use Rattle.http_edge.proofs.ChunkFacts.{chunk_taken, chunk_fits}
use Rattle.http_edge.proofs.unchunking.take_chunk.Goals as goal

pub close_gap-requires-clause-within : goal.close_gap-requires-clause-within
close_gap-requires-clause-within c =
    let fits = chunk_fits c.args.text c.args.place c.args.start c.args.size c.requires.within c.requires.chunk.0 in
    omega (arith, fits, c.move_down-text.ensures.length)

pub returns-clause-read : goal.returns-clause-read
returns-clause-read c = λ body is.
    c.close_gap.ensures.read body
    (chunk_taken body c.args.text c.move_down-text.result c.args.place c.args.start c.args.size c.requires.chunk.0 c.requires.chunk.1 c.requires.chunk.2
    c.move_down-text.ensures.length c.move_down-text.ensures.moved (c.move_down-text.ensures.kept (c.args.place.at + c.args.start + c.args.size + 2) (omega arith))
    (chunk_fits c.args.text c.args.place c.args.start c.args.size c.requires.within c.requires.chunk.0) is)
