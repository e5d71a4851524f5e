-- What a view of a partition that is kept by the number of each member's part says of its parts and of its members keeps the meaning.
use Rattle.ess_rules_laws.specs.Rules.{RuleKeeps, RuleKeepsNew}
use Rattle.ess_views_laws.specs.PartitionViews.{number_of_parts, is_participant}

-- The number of parts is the cell that says it, and a term takes part where a member of the inner domain is the term.
pub record PartitionsServe : Type 0 where
  pub numbers_of_parts : RuleKeeps number_of_parts
  pub participants : RuleKeepsNew is_participant
