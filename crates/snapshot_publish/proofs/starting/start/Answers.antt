use Rattle.std.proofs.Common.{List, ap, sym, subst}
use Rattle.atomic_table.specs.Seated.{TableId}
use Rattle.update_client.specs.Held.{Held}
use Rattle.snapshot_publish.specs.Publications.{Publication}
use Rattle.snapshot_publish.specs.Kept.{IsFirst}
use Rattle.snapshot_publish.proofs.starting.start.Goals as goal

pub returns-clause-seats : goal.returns-clause-seats
returns-clause-seats g c place seat at =
    let lists = ap (λ (p : Publication). p.lists) c.in_ok-first.ensures in let boxes = c.in_ok-publisher.ensures.boxes in
    subst (λ (q : List TableId × List Held). IsFirst q.0 q.1 place seat) (λ i. (sym boxes i, lists i)) (c.in_ok-ends.ensures.firsts place seat at)
