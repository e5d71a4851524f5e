use Rattle.std.proofs.Common.{◌≡◌, ◌++◌, map, drop}
use Rattle.ess_core.specs.TreeViews.{exs_of}
use Rattle.ess_core_nodes.specs.NodeViews.{pure_node, pure_gen}
use Rattle.conjure_model_laws.specs.Printed.{printed_all}
use Rattle.ess_model_names.specs.Renames.{pure_scope, Extends}
use Rattle.ess_model_names.specs.Before.{exs_before}
use Rattle.ess_model_printed.specs.PrintedItems.{printed_items, items_behind}
use Rattle.ess_model_printed.proofs.+printed.Given as goal

abbrev pub invariant-printing::printed_all-loop-node : goal.invariant-printing::printed_all-loop-node
invariant-printing::printed_all-loop-node l = record {
  tree : exs_before (map pure_node l.all) (printed_all l.taken (exs_of (map pure_node (drop l.node-index l.nodes))) (pure_scope l.scope))
      ≡ printed_all l.taken (exs_of (map pure_node l.nodes)) (pure_scope l.initial.scope);
  kept : l.scope ≡ l.initial.scope;
}

abbrev pub invariant-printed_generators::each_gen-loop-item : goal.invariant-printed_generators::each_gen-loop-item
invariant-printed_generators::each_gen-loop-item l = record {
  tree : map pure_gen l.all ++ printed_items l.taken (map pure_gen (drop l.item-index l.gens)) (pure_scope l.scope)
      ≡ printed_items l.taken (map pure_gen l.gens) (pure_scope l.initial.scope);
  names : items_behind l.taken (map pure_gen (drop l.item-index l.gens)) (pure_scope l.scope)
      ≡ items_behind l.taken (map pure_gen l.gens) (pure_scope l.initial.scope);
  kept : Extends l.initial.scope l.scope;
}
