use Rattle.std.proofs.Common.{◌≡◌, true, map, take}
use Rattle.ess_semantics.specs.declared.words.Op2.{Op2}
use Rattle.ess_semantics.specs.Trees.{ex2}
use Rattle.ess_core_nodes.specs.NodeViews.{pure_node}
use Rattle.ess_rules_membership.proofs.membership.equations.Given as goal

abbrev pub invariant-loop-item : goal.invariant-loop-item
invariant-loop-item l = map pure_node l.equal ≡ map (λ a. ex2 true Op2.Eq (pure_node l.x) (pure_node a)) (take l.item-index l.items)
