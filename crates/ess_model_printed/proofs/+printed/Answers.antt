use Rattle.std.proofs.Common.{rules, ◌≡◌, refl, sym, ap, ◌∙◌, ◌+◌, ◌<◌, [], ◌∷◌, ◌++◌, length, map, get_or}
use Rattle.ess_core.specs.TreeViews.{gens_of}
use Rattle.ess_core_nodes.specs.NodeViews.{pure_gen}
use Rattle.conjure_model_laws.specs.Printed.{printed_all}
use Rattle.ess_model_names.specs.Renames.{pure_scope}
use Rattle.ess_model_names.proofs.Loops.{nodes_all}
use Rattle.ess_model_printed.proofs.PrintedItems.{printed_node_more, gens_printed, behind_printed}
use Rattle.ess_model_printed.proofs.+printed.Goals as goal

pub printing::printed_all-loop-node-preserved : goal.printing::printed_all-loop-node-preserved
printing::printed_all-loop-node-preserved t c =
    let i = c.loop-node.node-index in
    let x = c.node-item.result in
    let y = c.in_ok-item.item in
    let lt : i < length c.args.nodes.now = search rules in
    let is : x ≡ get_or c.args.nodes.now i x = search rules in
    let p : c.push.new.self ≡ c.loop-node.all ++ y ∷ [] = search rules in
    record {
      tree = printed_node_more c.args.taken.now c.args.nodes.now i x y c.loop-node.all c.push.new.self _ _ lt is p
          c.in_ok-item.ensures.tree (ap pure_scope c.in_ok-item.ensures.kept) ∙ c.loop-node.invariant.tree;
      kept = search rules;
    }

pub printing::printed_all-returns-clause-tree : goal.printing::printed_all-returns-clause-tree
printing::printed_all-returns-clause-tree t c =
    nodes_all (λ es. printed_all c.args.taken.now es (pure_scope c.loop-node.scope))
    c.args.nodes.now c.loop-node.node-index c.loop-node.all _
    (search rules) refl c.loop-node.invariant.tree

pub printed_generators::printed_gens-returns-clause-tree : goal.printed_generators::printed_gens-returns-clause-tree
printed_generators::printed_gens-returns-clause-tree t c =
    ap gens_of c.in_ok-each_gen.ensures.tree
    ∙ sym (gens_printed c.args.taken.now (map pure_gen c.args.gens.now) (pure_scope c.args.scope.now))

pub printed_generators::printed_gens-returns-clause-names : goal.printed_generators::printed_gens-returns-clause-names
printed_generators::printed_gens-returns-clause-names t c =
    c.in_ok-each_gen.ensures.names ∙ sym (behind_printed c.args.taken.now (map pure_gen c.args.gens.now) (pure_scope c.args.scope.now))
