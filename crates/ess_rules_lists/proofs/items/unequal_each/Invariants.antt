use Rattle.std.proofs.Common.{◌≡◌, true, map, take}
use Rattle.ess_semantics.specs.declared.words.Op2.{Op2}
use Rattle.ess_semantics.specs.Trees.{ex2}
use Rattle.ess_core_nodes.specs.NodeViews.{pure_node}
use Rattle.ess_rules_lists.proofs.items.unequal_each.Given as goal

abbrev pub invariant-loop-other : goal.invariant-loop-other
invariant-loop-other l = map pure_node l.pairs ≡ map (λ b. ex2 true Op2.Ne (pure_node b) (pure_node l.first)) (take l.other-index l.others)
