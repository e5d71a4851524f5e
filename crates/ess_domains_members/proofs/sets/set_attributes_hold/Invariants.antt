use Rattle.std.proofs.Common.{◌≡◌, map, drop}
use Rattle.ess_semantics.specs.Attributes.{set_attributes_hold}
use Rattle.ess_eval_domains.specs.ClosedViews.{pure_attributes}
use Rattle.ess_domains_members.proofs.sets.set_attributes_hold.Given as goal

abbrev pub invariant-loop-attribute : goal.invariant-loop-attribute
invariant-loop-attribute l = set_attributes_hold (pure_attributes l.attributes) l.size ≡ set_attributes_hold (pure_attributes (drop l.attribute-index l.attributes)) l.size
