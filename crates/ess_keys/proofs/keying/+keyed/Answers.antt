use Rattle.std.proofs.Common.{sym, ap, ◌∙◌, map}
use Rattle.ess_semantics.specs.Trees.{comp_ex}
use Rattle.ess_core.specs.TreeViews.{gens_of}
use Rattle.ess_core_nodes.specs.NodeViews.{pure_node, pure_gen}
use Rattle.ess_keys.specs.Views.{pure_around}
use Rattle.ess_keys.specs.Steps.{items_of, behind_items}
use Rattle.ess_keys.proofs.EachItem.{comp_answer, node_comp}
use Rattle.ess_keys.proofs.Rows.{all_keyed, all_indices}
use Rattle.ess_keys.proofs.keying.+keyed.Goals as goal

pub keyed-returns-in_ok-body-in-Comp : goal.keyed-returns-in_ok-body-in-Comp
keyed-returns-in_ok-body-in-Comp t c =
    comp_answer c.laid.result pure_node (pure_around c.args.around.now) (pure_around c.keyed_gens.new.around) (pure_node c.get.result.now)
    (pure_node c.in_ok-body-in-Comp.body) (pure_node c.args.node.now) (map pure_gen c.as_slice-in-Comp.result.now)
    (map pure_gen c.in_ok-gens-in-Comp.gens)
    (c.in_ok-gens-in-Comp.ensures.gens
    ∙ ap (λ u. items_of (pure_around u) (map pure_gen c.as_slice-in-Comp.result.now)) c.in_ok-inner-in-Comp.ensures)
    (c.in_ok-gens-in-Comp.ensures.around
    ∙ ap (λ u. behind_items (pure_around u) (map pure_gen c.as_slice-in-Comp.result.now)) c.in_ok-inner-in-Comp.ensures)
    c.in_ok-body-in-Comp.ensures
    (ap (λ u. comp_ex (pure_node u) (gens_of (map pure_gen c.as_slice-in-Comp.result.now))) c.get.ensures
    ∙ ap (λ u. comp_ex (pure_node c.in-Comp.body) (gens_of (map pure_gen u))) c.as_slice-in-Comp.ensures
    ∙ sym (node_comp c.in-Comp.body c.in-Comp.gens) ∙ ap pure_node (sym c.in-Comp.is))
    c.laid.ensures

pub keyed_nodes-returns : goal.keyed_nodes-returns
keyed_nodes-returns t c =
    all_keyed (pure_around c.args.around.now) c.args.nodes.now c.loop-node.all c.loop-node.node-index c.loop-node.invariant c.loop-node-test.false

pub keyed_indices-returns : goal.keyed_indices-returns
keyed_indices-returns t c =
    all_indices (pure_around c.args.around.now) c.args.nodes.now c.loop-node.all c.loop-node.node-index c.loop-node.invariant c.loop-node-test.false
