-- The law of the rule of `=` between partitions. The laws of the other generic rules stand beside their definitions.
use Rattle.ess_rules_laws.specs.Rules.{RuleKeepsTyped}
use Rattle.ess_rules_laws.specs.PartitionRules.{equal_parts}

-- The rule of `=` between partitions.
pub record PartitionRulesKeep : Type 0 where
  pub equal_partitions : RuleKeepsTyped equal_parts
