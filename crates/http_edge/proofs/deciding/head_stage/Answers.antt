use Rattle.http_edge.proofs.PlaceFacts.{open_at}
use Rattle.http_edge.proofs.DecidingFacts.{long_decides}
use Rattle.http_edge.proofs.deciding.head_stage.Goals as goal

pub returns-in-Some-2 : goal.returns-in-Some-2
returns-in-Some-2 c = λ before same at.
    long_decides c.args.text.now c.if-text-lt-HEAD_LIMIT.false (open_at c.in-Some-2.field-0 c.args.text.now c.requires.short (c.in-Some-2.ensures before same at))
