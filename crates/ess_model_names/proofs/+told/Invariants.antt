use Rattle.std.proofs.Common.{◌≡◌, map, drop}
use Rattle.ess_semantics.specs.Kinds.{doms_of}
use Rattle.ess_core.specs.TreeViews.{exs_of}
use Rattle.ess_core_nodes.specs.NodeViews.{pure_node, pure_gen, pure_dom}
use Rattle.conjure_model_laws.specs.ToldApart.{told_all, told_doms}
use Rattle.ess_model_names.specs.Renames.{pure_scope, Extends}
use Rattle.ess_model_names.specs.Before.{exs_before, doms_before}
use Rattle.ess_model_names.specs.ToldItems.{told_items}
use Rattle.std.proofs.Common.{◌++◌}
use Rattle.ess_model_names.proofs.+told.Given as goal

abbrev pub invariant-telling::told_all-loop-node : goal.invariant-telling::told_all-loop-node
invariant-telling::told_all-loop-node l = record {
  tree : exs_before (map pure_node l.all) (told_all (exs_of (map pure_node (drop l.node-index l.nodes))) (pure_scope l.scope) l.next).0
      ≡ (told_all (exs_of (map pure_node l.nodes)) (pure_scope l.initial.scope) l.initial.next).0;
  next : (told_all (exs_of (map pure_node (drop l.node-index l.nodes))) (pure_scope l.scope) l.next).1
      ≡ (told_all (exs_of (map pure_node l.nodes)) (pure_scope l.initial.scope) l.initial.next).1;
  kept : l.scope ≡ l.initial.scope;
}

abbrev pub invariant-told_domains::told_doms-loop-dom : goal.invariant-told_domains::told_doms-loop-dom
invariant-told_domains::told_doms-loop-dom l = record {
  tree : doms_before (map pure_dom l.all) (told_doms (doms_of (map pure_dom (drop l.dom-index l.doms))) (pure_scope l.scope) l.next).0
      ≡ (told_doms (doms_of (map pure_dom l.doms)) (pure_scope l.initial.scope) l.initial.next).0;
  next : (told_doms (doms_of (map pure_dom (drop l.dom-index l.doms))) (pure_scope l.scope) l.next).1
      ≡ (told_doms (doms_of (map pure_dom l.doms)) (pure_scope l.initial.scope) l.initial.next).1;
  kept : l.scope ≡ l.initial.scope;
}

abbrev pub invariant-told_generators::each_gen-loop-item : goal.invariant-told_generators::each_gen-loop-item
invariant-told_generators::each_gen-loop-item l = record {
  tree : map pure_gen l.all ++ (told_items (map pure_gen (drop l.item-index l.gens)) (pure_scope l.scope) l.next).0
      ≡ (told_items (map pure_gen l.gens) (pure_scope l.initial.scope) l.initial.next).0;
  names : (told_items (map pure_gen (drop l.item-index l.gens)) (pure_scope l.scope) l.next).1
      ≡ (told_items (map pure_gen l.gens) (pure_scope l.initial.scope) l.initial.next).1;
  next : (told_items (map pure_gen (drop l.item-index l.gens)) (pure_scope l.scope) l.next).2
      ≡ (told_items (map pure_gen l.gens) (pure_scope l.initial.scope) l.initial.next).2;
  kept : Extends l.initial.scope l.scope;
}
