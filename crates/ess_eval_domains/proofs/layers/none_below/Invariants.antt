use Rattle.std.proofs.Common.{◌≡◌, drop}
use Rattle.ess_eval_domains.specs.ClosedViews.{pure_attributes}
use Rattle.ess_eval_domains.specs.Negatives.{no_negative_number}
use Rattle.ess_eval_domains.proofs.layers.none_below.Given as goal

abbrev pub invariant-loop-attribute : goal.invariant-loop-attribute
invariant-loop-attribute l = no_negative_number (pure_attributes l.attributes) ≡ no_negative_number (pure_attributes (drop l.attribute-index l.attributes))
