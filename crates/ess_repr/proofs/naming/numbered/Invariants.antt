use Rattle.std.proofs.Common.{◌≡◌, ◌-◌, map, take, length}
use Rattle.ess_semantics.specs.Names.{keys}
use Rattle.ess_semantics.specs.TableNames.{numbered_names}
use Rattle.ess_core.specs.TreeViews.{pure_dom}
use Rattle.ess_repr.proofs.naming.numbered.Given as goal

abbrev pub invariant-loop-i : goal.invariant-loop-i
invariant-loop-i l = l.names ≡ keys (numbered_names 1 (take l.i (map pure_dom l.parts)))

abbrev pub decreases-loop-i : goal.decreases-loop-i
decreases-loop-i l = length l.parts - l.i
