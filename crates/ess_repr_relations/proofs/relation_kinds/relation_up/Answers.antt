use Rattle.std.proofs.Common.{◌≡◌, sym, subst, map}
use Rattle.ess_semantics.specs.declared.words.ReprKind.{ReprKind}
use Rattle.ess_core.specs.ValueViews.{pure_val}
use Rattle.ess_eval_domains.specs.ClosedViews.{pure_closeds}
use Rattle.ess_repr_tables.specs.SlotViews.{pure_tables}
use Rattle.ess_repr_relations.proofs.RelationCalls.{UpOfRelation, matrix_meant}
use Rattle.ess_repr_relations.proofs.relation_kinds.relation_up.Goals as goal

pub returns-in_ok-matrix_relation-in-RelationAsMatrix : goal.returns-in_ok-matrix_relation-in-RelationAsMatrix
returns-in_ok-matrix_relation-in-RelationAsMatrix c =
    let is = c.in-RelationAsMatrix.is in
    let e : c.args.kind ≡ ReprKind.RelationAsMatrix = cc in
    subst (λ k. UpOfRelation k (pure_closeds c.args.components.now) (pure_tables c.args.tables.now)
    (map pure_val c.args.vals) c.in_ok-matrix_relation-in-RelationAsMatrix.field-0) (sym e)
    (λ ks rs. matrix_meant ks (pure_closeds c.args.components.now) (pure_tables c.args.tables.now)
    (map pure_val c.args.vals) c.in_ok-matrix_relation-in-RelationAsMatrix.field-0 rs c.first_items.result.now c.first_items.ensures
    c.in_ok-matrix_relation-in-RelationAsMatrix.ensures)
