use Rattle.std.proofs.Common.{rules}
use Rattle.std.proofs.Math.Dec.{ltb}
use Rattle.std.proofs.lemmas.Bool.{ltb-true, ltb-false}
use Rattle.std.proofs.lemmas.List.Sorted.{IsPartitionPoint-from_clause, IsPartitionedBy-ltb}
use Rattle.prefix_set.proofs.index.heads_below.Goals as goal

pub returns-clause-front : goal.returns-clause-front
returns-clause-front c k d low lt =
    let point = IsPartitionPoint-from_clause (λ y. ltb y c.args.head) c.args.heads.now c.partition_point.result c.partition_point.ensures.partitioned
    (IsPartitionedBy-ltb (λ x. x) c.args.heads.now c.args.head c.requires) (λ a r q k. search rules) in
    ltb-true _ c.args.head (point.0 k d low lt)

pub returns-clause-back : goal.returns-clause-back
returns-clause-back c k d ge lt =
    let point = IsPartitionPoint-from_clause (λ y. ltb y c.args.head) c.args.heads.now c.partition_point.result c.partition_point.ensures.partitioned
    (IsPartitionedBy-ltb (λ x. x) c.args.heads.now c.args.head c.requires) (λ a r q k. search rules) in
    ltb-false _ c.args.head (point.1 k d ge lt)
