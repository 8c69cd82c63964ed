use Rattle.std.proofs.Common.{ltb, rules}
use Rattle.std.proofs.lemmas.List.Sorted.{IsPartitionedBy-ltb, IsPartitionPoint-from_clause}
use Rattle.tables.specs.declared.points.Point.{Point}
use Rattle.plans.specs.Ahead.{Rises}
use Rattle.plans.proofs.Ahead.{ahead_from}
use Rattle.plans.proofs.spacings.first_not_below.Goals as goal

pub returns-clause-ahead : goal.returns-clause-ahead
unfolding Rises
returns-clause-ahead c =
    let parted = IsPartitionedBy-ltb (λ (p : Point). p.at) _ c.args.at c.requires in
    ahead_from _ _ _ c.partition_point.ensures.bound
    (IsPartitionPoint-from_clause (λ (p : Point). ltb p.at c.args.at) _ _ c.partition_point.ensures.partitioned parted (λ a r f k. search rules))
