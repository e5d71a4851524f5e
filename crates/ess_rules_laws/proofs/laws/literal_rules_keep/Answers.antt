use Rattle.ess_rules_laws.proofs.laws.literal_rules_keep.Goals as goal
use Rattle.ess_rules_laws.proofs.LiteralRules.{component_listed-keeps, different_listed-keeps, extreme_listed-keeps}
use Rattle.ess_rules_laws.proofs.FieldLiterals.{field_listed-keeps}

pub returns : goal.returns
returns c = record { component_of_a_tuple = component_listed-keeps; field_of_a_record = field_listed-keeps; different_items = different_listed-keeps; least_and_greatest = extreme_listed-keeps }
