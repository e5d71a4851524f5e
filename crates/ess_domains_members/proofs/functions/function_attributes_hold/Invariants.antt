use Rattle.std.proofs.Common.{◌≡◌, map, drop}
use Rattle.ess_semantics.specs.Attributes.{function_attributes_hold}
use Rattle.ess_core.specs.ValueViews.{pure_val, pure_pair}
use Rattle.ess_eval_domains.specs.ClosedViews.{pure_closed, pure_attributes}
use Rattle.ess_domains_members.proofs.functions.function_attributes_hold.Given as goal

abbrev pub invariant-loop-attribute : goal.invariant-loop-attribute
invariant-loop-attribute l = function_attributes_hold (pure_attributes l.attributes) (pure_closed l.from) (pure_closed l.to) (map pure_pair l.pairs)
    ≡ function_attributes_hold (pure_attributes (drop l.attribute-index l.attributes)) (pure_closed l.from) (pure_closed l.to) (map pure_pair l.pairs)
