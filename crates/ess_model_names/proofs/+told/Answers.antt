use Rattle.std.proofs.Common.{rules, ◌≡◌, refl, sym, ap, ◌∙◌, ◌<◌, [], ◌∷◌, ◌++◌, length, map, drop, get_or}
use Rattle.ess_semantics.specs.Trees.{more_exs, more_doms}
use Rattle.ess_semantics.specs.Kinds.{doms_of}
use Rattle.ess_core.specs.TreeViews.{exs_of, gens_of}
use Rattle.ess_core_nodes.specs.NodeViews.{pure_node, pure_gen, pure_dom}
use Rattle.conjure_model_laws.specs.ToldApart.{told_all, told_doms}
use Rattle.ess_model_names.specs.Renames.{pure_scope}
use Rattle.ess_model_names.proofs.Loops.{nodes_all, doms_done}
use Rattle.ess_model_names.proofs.ToldLoops.{told_node_more, told_node_next, told_dom_more, told_dom_next}
use Rattle.ess_model_names.proofs.ToldItems.{gens_tree, gens_names, gens_next}
use Rattle.ess_model_names.proofs.+told.Goals as goal

pub telling::told_all-loop-node-preserved : goal.telling::told_all-loop-node-preserved
telling::told_all-loop-node-preserved t c =
    let i = c.loop-node.node-index in
    let x = c.node-item.result in
    let y = c.in_ok-item.item in
    let lt : i < length c.args.nodes.now = search rules in
    let is : x ≡ get_or c.args.nodes.now i x = search rules in
    let p : c.push.new.self ≡ c.loop-node.all ++ y ∷ [] = search rules in
    record {
      tree = told_node_more c.args.nodes.now i x y c.loop-node.all c.push.new.self _ _ _ _ lt is p
          c.in_ok-item.ensures.tree c.in_ok-item.ensures.next (ap pure_scope c.in_ok-item.ensures.kept) ∙ c.loop-node.invariant.tree;
      next = told_node_next c.args.nodes.now i x _ _ _ _ lt is c.in_ok-item.ensures.next (ap pure_scope c.in_ok-item.ensures.kept)
          ∙ c.loop-node.invariant.next;
      kept = c.in_ok-item.ensures.kept ∙ c.loop-node.invariant.kept;
    }

pub telling::told_all-returns-clause-tree : goal.telling::told_all-returns-clause-tree
telling::told_all-returns-clause-tree t c =
    nodes_all (λ es. (told_all es (pure_scope c.loop-node.scope) c.loop-node.next).0)
    c.args.nodes.now c.loop-node.node-index c.loop-node.all _ (search rules) refl c.loop-node.invariant.tree

pub told_domains::told_doms-loop-dom-preserved : goal.told_domains::told_doms-loop-dom-preserved
told_domains::told_doms-loop-dom-preserved t c =
    let i = c.loop-dom.dom-index in
    let x = c.dom-item.result in
    let y = c.in_ok-item.item in
    let lt : i < length c.args.doms.now = search rules in
    let is : x ≡ get_or c.args.doms.now i x = search rules in
    let p : c.push.new.self ≡ c.loop-dom.all ++ y ∷ [] = search rules in
    record {
      tree = told_dom_more c.args.doms.now i x y c.loop-dom.all c.push.new.self _ _ _ _ lt is p
          c.in_ok-item.ensures.tree c.in_ok-item.ensures.next (ap pure_scope c.in_ok-item.ensures.kept) ∙ c.loop-dom.invariant.tree;
      next = told_dom_next c.args.doms.now i x _ _ _ _ lt is c.in_ok-item.ensures.next (ap pure_scope c.in_ok-item.ensures.kept)
          ∙ c.loop-dom.invariant.next;
      kept = c.in_ok-item.ensures.kept ∙ c.loop-dom.invariant.kept;
    }

pub told_domains::told_doms-returns-clause-tree : goal.told_domains::told_doms-returns-clause-tree
told_domains::told_doms-returns-clause-tree t c =
    doms_done (λ ds. (told_doms ds (pure_scope c.loop-dom.scope) c.loop-dom.next).0)
    c.args.doms.now c.loop-dom.dom-index c.loop-dom.all _ (search rules) refl c.loop-dom.invariant.tree

pub told_generators::told_gens-returns-clause-tree : goal.told_generators::told_gens-returns-clause-tree
told_generators::told_gens-returns-clause-tree t c =
    ap gens_of c.in_ok-each_gen.ensures.tree ∙ sym (gens_tree (map pure_gen c.args.gens.now) (pure_scope c.args.scope.now) c.args.next.now)

pub told_generators::told_gens-returns-clause-names : goal.told_generators::told_gens-returns-clause-names
told_generators::told_gens-returns-clause-names t c =
    c.in_ok-each_gen.ensures.names ∙ sym (gens_names (map pure_gen c.args.gens.now) (pure_scope c.args.scope.now) c.args.next.now)

pub told_generators::told_gens-returns-clause-next : goal.told_generators::told_gens-returns-clause-next
told_generators::told_gens-returns-clause-next t c =
    c.in_ok-each_gen.ensures.next ∙ sym (gens_next (map pure_gen c.args.gens.now) (pure_scope c.args.scope.now) c.args.next.now)
