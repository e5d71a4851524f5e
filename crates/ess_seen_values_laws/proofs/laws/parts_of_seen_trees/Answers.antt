use Rattle.ess_seen_values_laws.proofs.laws.parts_of_seen_trees.Goals as goal
use Rattle.ess_seen_values_laws.proofs.SeenRulesKeep.{parts-of-seen-trees}

pub returns : goal.returns
returns c = parts-of-seen-trees
