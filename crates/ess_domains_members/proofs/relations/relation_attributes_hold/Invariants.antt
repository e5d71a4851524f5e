use Rattle.std.proofs.Common.{◌≡◌, map, drop}
use Rattle.ess_semantics.specs.Attributes.{relation_attributes_hold}
use Rattle.ess_core.specs.ValueViews.{pure_val}
use Rattle.ess_eval_domains.specs.ClosedViews.{pure_closeds, pure_attributes}
use Rattle.ess_domains_members.proofs.relations.relation_attributes_hold.Given as goal

abbrev pub invariant-loop-attribute : goal.invariant-loop-attribute
invariant-loop-attribute l = relation_attributes_hold (pure_attributes l.attributes) (pure_closeds l.parts) (map pure_val l.tuples)
    ≡ relation_attributes_hold (pure_attributes (drop l.attribute-index l.attributes)) (pure_closeds l.parts) (map pure_val l.tuples)
