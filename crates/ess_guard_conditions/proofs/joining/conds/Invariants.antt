use Rattle.std.proofs.Common.{◌≡◌, map}
use Rattle.ess_core.specs.TreeViews.{cond_item}
use Rattle.ess_core_nodes.specs.NodeViews.{pure_node, pure_gen}
use Rattle.ess_guard_conditions.proofs.joining.conds.Given as goal

abbrev pub invariant-loop-condition : goal.invariant-loop-condition
invariant-loop-condition l = map pure_gen l.gens ≡ map (λ c. cond_item c) (map pure_node l.yielded)
