use Rattle.std.proofs.Common.{◌≡◌, drop}
use Rattle.ess_semantics.specs.Domains.{attribute}
use Rattle.ess_eval_domains.specs.ClosedViews.{pure_attributes}
use Rattle.ess_eval_domains.proofs.attributes.attribute.Given as goal

abbrev pub invariant-loop-attribute : goal.invariant-loop-attribute
invariant-loop-attribute l = attribute l.key (pure_attributes l.attributes) ≡ attribute l.key (pure_attributes (drop l.attribute-index l.attributes))
