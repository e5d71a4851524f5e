use Rattle.std.proofs.Common.{sym, ap, ◌∙◌, map}
use Rattle.std.proofs.lemmas.Result.{IfOk-weaker}
use Rattle.ess_semantics.specs.Trees.{comp_ex}
use Rattle.ess_core.specs.TreeViews.{gens_of}
use Rattle.ess_core_nodes.specs.NodeViews.{pure_node, pure_gen}
use Rattle.ess_guard_laws.specs.Guard.{guarded, conditions}
use Rattle.ess_guard_forms.specs.KnownNames.{pure_known}
use Rattle.ess_guard.specs.Steps.{known_after, steps_of, items_of}
use Rattle.ess_guard.proofs.Comprehensions.{pure_node_comp}
use Rattle.ess_guard.proofs.StepParts.{comp_gens, comp_conditions}
use Rattle.ess_guard.proofs.Rows.{all_guarded, doms_guarded}
use Rattle.ess_guard.proofs.+guard.Goals as goal

pub guarding::guard_node-returns-in_ok-body-in-Comp-clause-node : goal.guarding::guard_node-returns-in_ok-body-in-Comp-clause-node
guarding::guard_node-returns-in_ok-body-in-Comp-clause-node t c =
    IfOk-weaker c.guarded_comp.result _ _
    (λ r h. h
    ∙ comp_gens c.args.rules.now.natural c.args.rules.now.first c.args.rules.now.second (pure_known c.args.known.now)
    (pure_known c.as_slice-in-Comp-2.result.now) (pure_node c.get-in-Comp.result.now) _ (map pure_gen c.as_slice-in-Comp.result.now) _
    c.in_ok-body-in-Comp.ensures.node
    (ap pure_known c.as_slice-in-Comp-2.ensures ∙ c.in_ok-gens-in-Comp.ensures.known
    ∙ ap (λ u. known_after (map pure_gen c.as_slice-in-Comp.result.now) (pure_known u)) c.in_ok-inner-in-Comp.ensures)
    (c.in_ok-gens-in-Comp.ensures.gens
    ∙ ap (λ u. items_of (steps_of c.args.rules.now.natural c.args.rules.now.first c.args.rules.now.second (pure_known u)
    (map pure_gen c.as_slice-in-Comp.result.now))) c.in_ok-inner-in-Comp.ensures)
    ∙ ap (guarded c.args.rules.now.natural c.args.rules.now.first c.args.rules.now.second (pure_known c.args.known.now))
    (ap (λ u. comp_ex (pure_node u) (gens_of (map pure_gen c.as_slice-in-Comp.result.now))) c.get-in-Comp.ensures
    ∙ ap (λ u. comp_ex (pure_node c.in-Comp.body) (gens_of (map pure_gen u))) c.as_slice-in-Comp.ensures
    ∙ sym (pure_node_comp c.in-Comp.body c.in-Comp.gens) ∙ ap pure_node (sym c.in-Comp.is)))
    c.guarded_comp.ensures.node

pub guarding::guard_node-returns-in_ok-body-in-Comp-clause-asked : goal.guarding::guard_node-returns-in_ok-body-in-Comp-clause-asked
guarding::guard_node-returns-in_ok-body-in-Comp-clause-asked t c =
    IfOk-weaker c.guarded_comp.result _ _
    (λ r h.
    comp_conditions c.args.rules.now.natural c.args.rules.now.first c.args.rules.now.second (pure_known c.args.known.now)
    (pure_known c.as_slice-in-Comp-2.result.now) (pure_node c.get-in-Comp.result.now) (map pure_gen c.as_slice-in-Comp.result.now) _ _ _
    h
    (c.in_ok-gens-in-Comp.ensures.steps
    ∙ ap (λ u. steps_of c.args.rules.now.natural c.args.rules.now.first c.args.rules.now.second (pure_known u)
    (map pure_gen c.as_slice-in-Comp.result.now)) c.in_ok-inner-in-Comp.ensures)
    c.in_ok-body-in-Comp.ensures.asked
    (ap pure_known c.as_slice-in-Comp-2.ensures ∙ c.in_ok-gens-in-Comp.ensures.known
    ∙ ap (λ u. known_after (map pure_gen c.as_slice-in-Comp.result.now) (pure_known u)) c.in_ok-inner-in-Comp.ensures)
    ∙ ap (conditions c.args.rules.now.natural c.args.rules.now.first c.args.rules.now.second (pure_known c.args.known.now) c.args.there)
    (ap (λ u. comp_ex (pure_node u) (gens_of (map pure_gen c.as_slice-in-Comp.result.now))) c.get-in-Comp.ensures
    ∙ ap (λ u. comp_ex (pure_node c.in-Comp.body) (gens_of (map pure_gen u))) c.as_slice-in-Comp.ensures
    ∙ sym (pure_node_comp c.in-Comp.body c.in-Comp.gens) ∙ ap pure_node (sym c.in-Comp.is)))
    c.guarded_comp.ensures.asked

pub guarding::guard_nodes-returns-clause-nodes : goal.guarding::guard_nodes-returns-clause-nodes
guarding::guard_nodes-returns-clause-nodes t c =
    all_guarded c.args.rules.now.natural c.args.rules.now.first c.args.rules.now.second (pure_known c.args.known.now) c.args.nodes.now
    c.loop-node.parts c.loop-node.node-index c.loop-node.invariant.nodes c.loop-node-test.false

pub guarding_domains::guard_doms-returns-clause-doms : goal.guarding_domains::guard_doms-returns-clause-doms
guarding_domains::guard_doms-returns-clause-doms t c =
    doms_guarded c.args.rules.now.natural c.args.rules.now.first c.args.rules.now.second (pure_known c.args.known.now) c.args.doms.now
    c.loop-dom.parts c.loop-dom.dom-index c.loop-dom.invariant.doms c.loop-dom-test.false
