use Rattle.std.proofs.Common.{map, option_map}
use Rattle.std.proofs.lemmas.Result.{IfOk-weaker}
use Rattle.ess_core.specs.ValueViews.{pure_val}
use Rattle.ess_repr_tables.specs.SlotViews.{pure_tables}
use Rattle.ess_repr_relations.proofs.KindCalls.{relation_tables_over, partition_tables_over}
use Rattle.ess_repr_relations.proofs.kinds.down.Goals as goal

pub returns-in-Relation : goal.returns-in-Relation
returns-in-Relation c =
    IfOk-weaker c.relation_down.result _ _
    (λ o q. relation_tables_over c.args.kind c.args.domain.now c.as_slice.result.now c.in-Relation.components _
    c.in-Relation.is c.as_slice.ensures
    (pure_val c.args.val.now) (map pure_tables c.args.inner) (option_map pure_tables o) q)
    c.relation_down.ensures

pub returns-in-Partition : goal.returns-in-Partition
returns-in-Partition c =
    IfOk-weaker c.partition_down.result _ _
    (λ o q. partition_tables_over c.args.kind c.args.domain.now c.get.result.now c.in-Partition.member _
    c.in-Partition.is c.get.ensures
    (pure_val c.args.val.now) (map pure_tables c.args.inner) (option_map pure_tables o) q)
    c.partition_down.ensures
