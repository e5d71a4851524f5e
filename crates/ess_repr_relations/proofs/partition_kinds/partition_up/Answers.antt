use Rattle.std.proofs.Common.{◌≡◌, sym, subst, map}
use Rattle.ess_semantics.specs.declared.words.ReprKind.{ReprKind}
use Rattle.ess_core.specs.ValueViews.{pure_val}
use Rattle.ess_eval_domains.specs.ClosedViews.{pure_closed}
use Rattle.ess_repr_tables.specs.SlotViews.{pure_tables}
use Rattle.ess_repr_relations.proofs.PartitionCalls.{UpOfPartition, numbers_meant, parts_meant}
use Rattle.ess_repr_relations.proofs.partition_kinds.partition_up.Goals as goal

pub returns-in_ok-numbered_partition-in-PartitionOccurrence : goal.returns-in_ok-numbered_partition-in-PartitionOccurrence
returns-in_ok-numbered_partition-in-PartitionOccurrence c =
    let is = c.in-PartitionOccurrence.is in
    let e : c.args.kind ≡ ReprKind.PartitionOccurrence = cc in
    subst (λ k. UpOfPartition k (pure_closed c.args.member.now) (pure_tables c.args.tables.now)
    (map pure_val c.args.vals) c.in_ok-numbered_partition-in-PartitionOccurrence.field-0) (sym e)
    (λ ks rs. numbers_meant ks (pure_closed c.args.member.now) (pure_tables c.args.tables.now)
    (map pure_val c.args.vals) c.in_ok-numbered_partition-in-PartitionOccurrence.field-0 rs
    c.in_ok-numbered_partition-in-PartitionOccurrence.ensures)

pub returns-in_ok-partition_value_of-in-PartitionAsSet : goal.returns-in_ok-partition_value_of-in-PartitionAsSet
returns-in_ok-partition_value_of-in-PartitionAsSet c =
    let is = c.in-PartitionAsSet.is in
    let e : c.args.kind ≡ ReprKind.PartitionAsSet = cc in
    subst (λ k. UpOfPartition k (pure_closed c.args.member.now) (pure_tables c.args.tables.now)
    (map pure_val c.args.vals) c.in_ok-partition_value_of-in-PartitionAsSet.field-0) (sym e)
    (λ ks rs. parts_meant ks (pure_closed c.args.member.now) (pure_tables c.args.tables.now)
    (map pure_val c.args.vals) c.in_ok-partition_value_of-in-PartitionAsSet.field-0 rs c.in_ok-partition_value_of-in-PartitionAsSet.ensures)
