use Rattle.std.proofs.Common.{◌≡◌, ◌++◌, true, map, take}
use Rattle.ess_semantics.specs.declared.words.Op2.{Op2}
use Rattle.ess_semantics.specs.Trees.{ex2}
use Rattle.ess_core_nodes.specs.NodeViews.{pure_node}
use Rattle.ess_model_finds.proofs.views.add_equal.Given as goal

abbrev pub invariant-loop-other : goal.invariant-loop-other
invariant-loop-other l =
    map pure_node l.trees ≡ map pure_node l.fn.trees ++ map (ex2 true Op2.Eq (pure_node l.first)) (map pure_node (take l.other-index l.others))
