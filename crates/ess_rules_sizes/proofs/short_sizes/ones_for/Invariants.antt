use Rattle.std.proofs.Common.{◌≡◌, true, false, map, take}
use Rattle.ess_semantics.specs.declared.words.Op2.{Op2}
use Rattle.ess_semantics.specs.declared.words.Fun.{Fun}
use Rattle.ess_semantics.specs.Trees.{ex2, fun1}
use Rattle.ess_core_nodes.specs.NodeViews.{pure_node}
use Rattle.ess_rules_sizes.proofs.short_sizes.ones_for.Given as goal

abbrev pub invariant-loop-item : goal.invariant-loop-item
invariant-loop-item l = map pure_node l.ones
    ≡ map (λ b. fun1 false Fun.ToInt (ex2 true Op2.Eq (pure_node b) (pure_node l.member))) (take l.item-index l.items)
