use Rattle.std.proofs.Common.{ap, length, Err}
use Rattle.http_edge.proofs.HeadSizes.{request_fits}
use Rattle.http_edge.proofs.PlaceFacts.{open_of, refused_of}
use Rattle.http_edge.proofs.deciding.judge_with.Goals as goal

pub returns-in-Ok-Partial : goal.returns-in-Ok-Partial
returns-in-Ok-Partial c =
    open_of c.args.text.now c.requires.short (rw c.in-Ok-Partial.field-0-is at c.in-Ok-Partial.ensures.partial) (rw c.in-Ok-Partial.field-0-is at c.in-Ok-Partial.ensures.unfinished)

pub returns-in-Err : goal.returns-in-Err
returns-in-Err c =
    refused_of c.args.text.now c.requires.short
    (c.in-Err.ensures.invalid (λ is. request_fits (length c.args.room.now) c.args.text.now c.requires.room (c.in-Err.ensures.too_many (ap Err is))))
