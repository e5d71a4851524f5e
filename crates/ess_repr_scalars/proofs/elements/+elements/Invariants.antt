use Rattle.std.proofs.Common.{◌≡◌, ◌+◌, ◌*◌, map}
use Rattle.ess_core.specs.ValueViews.{pure_val}
use Rattle.ess_repr_scalars.proofs.ElementLoops.{after_first}
use Rattle.ess_repr_scalars.proofs.elements.+elements.Given as goal

abbrev pub invariant-add_each-loop-val : goal.invariant-add_each-loop-val
invariant-add_each-loop-val l = map pure_val l.all ≡ after_first l.depth l.vals l.val-index l.initial.all

abbrev pub decreases-add_elements : goal.decreases-add_elements
decreases-add_elements l = 2 * l.depth

abbrev pub decreases-add_each : goal.decreases-add_each
decreases-add_each l = 2 * l.depth + 1
