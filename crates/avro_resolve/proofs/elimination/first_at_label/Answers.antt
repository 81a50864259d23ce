use Rattle.std.proofs.Common.{rules, ltb, ltb-false, ltb-true, arith}
use Rattle.std.proofs.lemmas.List.Sorted.{IsPartitionPoint-from_clause, IsPartitionedBy-ltb}
use Rattle.avro_resolve.specs.declared.links.Link.{Link}
use Rattle.avro_resolve.proofs.elimination.first_at_label.Goals as goal

pub returns-clause-below : goal.returns-clause-below
returns-clause-below c k d l =
    let xs = c.args.links.now in
    let parted = IsPartitionedBy-ltb (λ (x : Link). x.label) xs c.args.label c.requires.sorted in
    let point = IsPartitionPoint-from_clause (λ (x : Link). ltb x.label c.args.label) _ _ c.partition_point.ensures.partitioned parted (λ a r q k. search rules) in
    ltb-true _ _ (point.0 k d (omega arith) l)

pub returns-clause-at : goal.returns-clause-at
returns-clause-at c d l =
    let xs = c.args.links.now in
    let parted = IsPartitionedBy-ltb (λ (x : Link). x.label) xs c.args.label c.requires.sorted in
    let point = IsPartitionPoint-from_clause (λ (x : Link). ltb x.label c.args.label) _ _ c.partition_point.ensures.partitioned parted (λ a r q k. search rules) in
    ltb-false _ _ (point.1 c.partition_point.result d (omega arith) l)
