use Rattle.std.proofs.Common.{map, option_map}
use Rattle.std.proofs.lemmas.Result.{IfOk-weaker}
use Rattle.ess_core.specs.ValueViews.{pure_val}
use Rattle.ess_repr_tables.specs.SlotViews.{pure_tables}
use Rattle.ess_repr_relations.proofs.KindCalls.{relation_value_over}
use Rattle.ess_repr_relations.proofs.kinds.up.Goals as goal

pub returns-in-Relation : goal.returns-in-Relation
returns-in-Relation c =
    IfOk-weaker c.relation_up.result _ _
    (λ o q. relation_value_over c.args.kind c.args.domain.now c.as_slice.result.now c.in-Relation.components _
    c.in-Relation.is c.as_slice.ensures
    (pure_tables c.args.tables.now) (map pure_val c.args.vals) (option_map pure_val o) q)
    c.relation_up.ensures
