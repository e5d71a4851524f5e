use Rattle.std.proofs.Common.{◌≡◌, map, drop}
use Rattle.ess_semantics.specs.Attributes.{partition_attributes_hold}
use Rattle.ess_core.specs.ValueViews.{pure_val}
use Rattle.ess_eval_domains.specs.ClosedViews.{pure_attributes}
use Rattle.ess_domains_members.proofs.partitions.partition_attributes_hold.Given as goal

abbrev pub invariant-loop-attribute : goal.invariant-loop-attribute
invariant-loop-attribute l = partition_attributes_hold (pure_attributes l.attributes) (map pure_val l.parts) ≡ partition_attributes_hold (pure_attributes (drop l.attribute-index l.attributes)) (map pure_val l.parts)
