use Rattle.ess_rules_laws.proofs.laws.inclusion_rules_keep.Goals as goal
use Rattle.ess_rules_laws.proofs.InclusionRules.{unequal-keeps, turned-keeps, strictly-keeps, included_members-keeps, included_often-keeps, equal_members-keeps, equal_often-keeps}
use Rattle.ess_rules_laws.proofs.FunctionRules.{equal_pairs-keeps}

pub returns : goal.returns
returns c = record {
  not_equal = unequal-keeps;
  turned = turned-keeps;
  strictly = strictly-keeps;
  of_sets = included_members-keeps;
  of_multisets = included_often-keeps;
  equal_sets = equal_members-keeps;
  equal_multisets = equal_often-keeps;
  equal_functions = equal_pairs-keeps;
}
