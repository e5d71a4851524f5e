use Rattle.std.proofs.Common.{map, drop}
use Rattle.ess_core.specs.TreeViews.{pure_repr}
use Rattle.conjure_options.proofs.DifferLaws.{FromHere}
use Rattle.conjure_options.proofs.trees.are_different.Given as goal

abbrev pub invariant-loop-i : goal.invariant-loop-i
invariant-loop-i l = FromHere (map pure_repr l.trees) (map pure_repr (drop l.i l.trees))
