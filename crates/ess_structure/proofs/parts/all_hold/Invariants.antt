use Rattle.std.proofs.Common.{◌≡◌, map, true, length}
use Rattle.ess_semantics.specs.Trees.{truth_ex}
use Rattle.ess_core_nodes.specs.NodeViews.{pure_node}
use Rattle.ess_structure.specs.Together.{together}
use Rattle.ess_structure.proofs.parts.all_hold.Given as goal

abbrev pub invariant-loop-part : goal.invariant-loop-part
invariant-loop-part l = together (map pure_node l.parts) (pure_node l.total) ≡ together (map pure_node l.fn.parts) (truth_ex true)

abbrev pub decreases-loop-part : goal.decreases-loop-part
decreases-loop-part l = length l.parts
