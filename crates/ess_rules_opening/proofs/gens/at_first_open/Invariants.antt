use Rattle.std.proofs.Common.{◌≡◌, take, None}
use Rattle.ess_core_nodes.specs.NodeViews.{pure_gens}
use Rattle.ess_open_rules_laws.specs.OpenGenerators.{at_first_open}
use Rattle.ess_rules_opening.proofs.gens.at_first_open.Given as goal

abbrev pub invariant-loop-at : goal.invariant-loop-at
invariant-loop-at l = at_first_open (pure_gens (take l.at l.gens)) ≡ None
