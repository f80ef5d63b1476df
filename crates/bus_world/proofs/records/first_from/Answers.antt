use Rattle.std.proofs.Common.{rules, arith}
use Rattle.std.proofs.Math.Dec.{ltb}
use Rattle.std.proofs.lemmas.Bool.{ltb-true, ltb-false}
use Rattle.std.proofs.lemmas.List.Sorted.{IsPartitionPoint-from_clause}
use Rattle.bus_world.proofs.Searching.{parted_from}
use Rattle.bus_world.proofs.records.first_from.Goals as goal

pub returns-clause-below : goal.returns-clause-below
returns-clause-below c =
    let point = IsPartitionPoint-from_clause (λ s. ltb s.number c.args.number) _ _ c.partition_point.ensures.partitioned (parted_from _ c.args.number c.requires) (λ a r q k. search rules) in
    λ k d h. ltb-true _ _ (point.0 k d (omega arith) h)

pub returns-clause-above : goal.returns-clause-above
returns-clause-above c =
    let point = IsPartitionPoint-from_clause (λ s. ltb s.number c.args.number) _ _ c.partition_point.ensures.partitioned (parted_from _ c.args.number c.requires) (λ a r q k. search rules) in
    λ d h. ltb-false _ _ (point.1 c.partition_point.result d (omega arith) h)
