use Rattle.std.proofs.Common.{◌≡◌, ◌-◌, ◌≤◌, suc, ◌++◌}
use Rattle.ess_declared_trees.specs.Endings.{numbered_from, numbered}
use Rattle.ess_declared_trees.proofs.names.numbered_names.Given as goal

abbrev pub invariant-loop-i : goal.invariant-loop-i
invariant-loop-i l = (l.i ≤ l.count) × (l.names ++ numbered_from (suc l.i) (l.count - l.i) ≡ numbered l.count)

abbrev pub decreases-loop-i : goal.decreases-loop-i
decreases-loop-i l = l.count - l.i
