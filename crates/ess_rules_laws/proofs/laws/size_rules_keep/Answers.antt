use Rattle.ess_rules_laws.proofs.laws.size_rules_keep.Goals as goal
use Rattle.ess_rules_laws.proofs.SizeRules.{size_term-keeps, frequency_term-keeps, together_term-keeps}
use Rattle.ess_rules_laws.proofs.ShortSizeRules.{size_made-keeps, frequency_made-keeps, frequency_listed-keeps}

pub returns : goal.returns
returns c = record {
  size = size_term-keeps;
  frequency = frequency_term-keeps;
  together = together_term-keeps;
  size_of_one_made_of_another = size_made-keeps;
  frequency_in_one_made_of_another = frequency_made-keeps;
  frequency_in_a_literal = frequency_listed-keeps;
}
