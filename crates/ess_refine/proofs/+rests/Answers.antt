use Rattle.std.proofs.Common.{ap, ◌∙◌}
use Rattle.ess_core_nodes.specs.NodeViews.{pure_node, pure_dom}
use Rattle.ess_node_types.specs.TypedNames.{pure_names}
use Rattle.ess_refine.proofs.NodeForms.{pure_number, pure_truth, pure_name, pure_bool, pure_named}
use Rattle.ess_refine.proofs.SettledNodes.{rests_where, node_settled, dom_settled, op_settled, cell_settled, matrix_settled, comp_settled, view_settled, int_settled, tuple_settled, record_settled, axes_settled, set_settled, mset_settled, partition_settled, relation_settled, function_settled}
use Rattle.ess_refine.proofs.SettledRows.{nodes_rest_more, nodes_rest_all, doms_rest_more, doms_rest_all, gens_rest_more, gens_rest_all}
use Rattle.ess_refine.proofs.+rests.Goals as goal

pub resting::all_rest-loop-node-preserved : goal.resting::all_rest-loop-node-preserved
resting::all_rest-loop-node-preserved t c =
    nodes_rest_more c.args.next (pure_names c.args.names.now) c.args.nodes.now c.loop-node.node-index c.node-item.result
    c.loop-node-test.true c.node-item.is (c.in_ok-rests.ensures c.if-not-branch.false) c.loop-node.invariant

pub resting::all_rest-returns : goal.resting::all_rest-returns
resting::all_rest-returns t c =
    λ e. nodes_rest_all c.args.next (pure_names c.args.names.now) c.args.nodes.now c.loop-node.node-index c.loop-node-test.false
    c.loop-node.invariant

pub resting::rests-returns-in-Op : goal.resting::rests-returns-in-Op
resting::rests-returns-in-Op t c =
    rests_where c.all_rest.result (λ h. op_settled c.args.next (pure_names c.args.names.now) c.args.node.now c.in-Op.field-0 c.in-Op.field-1
    c.in-Op.operands c.as_slice.result.now c.in-Op.is c.as_slice.ensures (c.in_ok-root_rests.ensures c.if-not-branch.false) h)
    c.all_rest.ensures

pub resting::rests-returns-in-Cell : goal.resting::rests-returns-in-Cell
resting::rests-returns-in-Cell t c =
    rests_where c.all_rest-in-Cell.result (λ h. cell_settled c.args.next (pure_names c.args.names.now) c.args.node.now c.in-Cell.field-0
    c.in-Cell.field-1 c.in-Cell.at c.as_slice-in-Cell.result.now c.in-Cell.is c.as_slice-in-Cell.ensures (c.in_ok-root_rests.ensures
    c.if-not-branch.false) h) c.all_rest-in-Cell.ensures

pub resting::rests-returns-else-not-branch-2 : goal.resting::rests-returns-else-not-branch-2
resting::rests-returns-else-not-branch-2 t c =
    rests_where c.dom_rests.result (λ h. matrix_settled c.args.next (pure_names c.args.names.now) c.args.node.now c.in-MatrixOn.items
    c.as_slice-in-MatrixOn.result.now c.in-MatrixOn.axis c.get.result.now c.in-MatrixOn.is c.as_slice-in-MatrixOn.ensures c.get.ensures
    (c.in_ok-root_rests.ensures c.if-not-branch.false) (c.in_ok-all_rest-in-MatrixOn.ensures c.if-not-branch-2.false) h) c.dom_rests.ensures

pub resting::rests-returns-in_ok-behind-in-Comp : goal.resting::rests-returns-in_ok-behind-in-Comp
resting::rests-returns-in_ok-behind-in-Comp t c =
    rests_where c.rests.result (λ h. comp_settled c.args.next (pure_names c.args.names.now) (pure_names c.in_ok-behind-in-Comp.behind)
    c.args.node.now c.in-Comp.body c.get-in-Comp.result.now c.in-Comp.gens c.as_slice-in-Comp.result.now c.as_slice-in-Comp-2.result.now
    c.in-Comp.is c.as_slice-in-Comp.ensures c.as_slice-in-Comp-2.ensures c.in_ok-behind-in-Comp.ensures c.get-in-Comp.ensures
    (c.in_ok-root_rests.ensures c.if-not-branch.false) (c.in_ok-gens_rest-in-Comp.ensures c.if-not-branch-3.false) h) c.rests.ensures

pub resting::rests-returns-else-not-branch-4 : goal.resting::rests-returns-else-not-branch-4
resting::rests-returns-else-not-branch-4 t c =
    rests_where c.all_rest-in-Seen.result (λ h. view_settled c.args.next (pure_names c.args.names.now) c.args.node.now c.in-Seen.seen
    c.get-seen.result.now c.get-in-Seen.result.now c.as_slice-in-Seen.result.now c.in-Seen.is c.get-seen.ensures c.get-in-Seen.ensures
    c.as_slice-in-Seen.ensures (c.in_ok-root_rests.ensures c.if-not-branch.false) (c.in_ok-dom_rests-in-Seen.ensures
    c.if-not-branch-4.false) h) c.all_rest-in-Seen.ensures

pub resting::rests-returns-in-Number : goal.resting::rests-returns-in-Number
resting::rests-returns-in-Number t c =
    λ e. node_settled c.args.next (pure_names c.args.names.now) c.args.node.now _ (ap pure_node c.in-Number.is ∙ pure_number
    c.in-Number.field-0) (c.in_ok-root_rests.ensures c.if-not-branch.false) tt

pub resting::rests-returns-in-Truth : goal.resting::rests-returns-in-Truth
resting::rests-returns-in-Truth t c =
    λ e. node_settled c.args.next (pure_names c.args.names.now) c.args.node.now _ (ap pure_node c.in-Truth.is ∙ pure_truth
    c.in-Truth.field-0) (c.in_ok-root_rests.ensures c.if-not-branch.false) tt

pub resting::rests-returns-in-Name : goal.resting::rests-returns-in-Name
resting::rests-returns-in-Name t c =
    λ e. node_settled c.args.next (pure_names c.args.names.now) c.args.node.now _ (ap pure_node c.in-Name.is ∙ pure_name c.in-Name.field-0)
    (c.in_ok-root_rests.ensures c.if-not-branch.false) tt

pub resting_domains::dom_rests-returns-in-Bool : goal.resting_domains::dom_rests-returns-in-Bool
resting_domains::dom_rests-returns-in-Bool t c =
    λ e. dom_settled c.args.next (pure_names c.args.names.now) c.args.dom.now _ (ap pure_dom c.in-Bool.is ∙ pure_bool) tt

pub resting_domains::dom_rests-returns-in-Name : goal.resting_domains::dom_rests-returns-in-Name
resting_domains::dom_rests-returns-in-Name t c =
    λ e. dom_settled c.args.next (pure_names c.args.names.now) c.args.dom.now _ (ap pure_dom c.in-Name.is ∙ pure_named c.in-Name.field-0) tt

pub resting_domains::dom_rests-returns-in-Int : goal.resting_domains::dom_rests-returns-in-Int
resting_domains::dom_rests-returns-in-Int t c =
    rests_where c.all_rest.result (λ h. int_settled c.args.next (pure_names c.args.names.now) c.args.dom.now c.in-Int.field-0
    c.in-Int.bounds c.as_slice.result.now c.in-Int.is c.as_slice.ensures h) c.all_rest.ensures

pub resting_domains::dom_rests-returns-in-Tuple : goal.resting_domains::dom_rests-returns-in-Tuple
resting_domains::dom_rests-returns-in-Tuple t c =
    rests_where c.doms_rest.result (λ h. tuple_settled c.args.next (pure_names c.args.names.now) c.args.dom.now c.in-Tuple.doms
    c.as_slice-in-Tuple.result.now c.in-Tuple.is c.as_slice-in-Tuple.ensures h) c.doms_rest.ensures

pub resting_domains::dom_rests-returns-in-Record : goal.resting_domains::dom_rests-returns-in-Record
resting_domains::dom_rests-returns-in-Record t c =
    rests_where c.doms_rest-in-Record.result (λ h. record_settled c.args.next (pure_names c.args.names.now) c.args.dom.now
    c.in-Record.field-0 c.in-Record.doms c.as_slice-in-Record.result.now c.in-Record.is c.as_slice-in-Record.ensures h)
    c.doms_rest-in-Record.ensures

pub resting_domains::dom_rests-returns-else-not-branch : goal.resting_domains::dom_rests-returns-else-not-branch
resting_domains::dom_rests-returns-else-not-branch t c =
    rests_where c.dom_rests.result (λ h. axes_settled c.args.next (pure_names c.args.names.now) c.args.dom.now c.in-Matrix.axes
    c.as_slice-in-Matrix.result.now c.in-Matrix.item c.get.result.now c.in-Matrix.is c.as_slice-in-Matrix.ensures c.get.ensures
    (c.in_ok-doms_rest-in-Matrix.ensures c.if-not-branch.false) h) c.dom_rests.ensures

pub resting_domains::dom_rests-returns-else-not-branch-2 : goal.resting_domains::dom_rests-returns-else-not-branch-2
resting_domains::dom_rests-returns-else-not-branch-2 t c =
    rests_where c.dom_rests-in-Set.result (λ h. set_settled c.args.next (pure_names c.args.names.now) c.args.dom.now c.in-Set.field-0
    c.in-Set.numbers c.as_slice-in-Set.result.now c.in-Set.member c.get-in-Set.result.now c.in-Set.is c.as_slice-in-Set.ensures
    c.get-in-Set.ensures (c.in_ok-all_rest-in-Set.ensures c.if-not-branch-2.false) h) c.dom_rests-in-Set.ensures

pub resting_domains::dom_rests-returns-else-not-branch-3 : goal.resting_domains::dom_rests-returns-else-not-branch-3
resting_domains::dom_rests-returns-else-not-branch-3 t c =
    rests_where c.dom_rests-in-MSet.result (λ h. mset_settled c.args.next (pure_names c.args.names.now) c.args.dom.now c.in-MSet.field-0
    c.in-MSet.numbers c.as_slice-in-MSet.result.now c.in-MSet.member c.get-in-MSet.result.now c.in-MSet.is c.as_slice-in-MSet.ensures
    c.get-in-MSet.ensures (c.in_ok-all_rest-in-MSet.ensures c.if-not-branch-3.false) h) c.dom_rests-in-MSet.ensures

pub resting_domains::dom_rests-returns-else-not-branch-7 : goal.resting_domains::dom_rests-returns-else-not-branch-7
resting_domains::dom_rests-returns-else-not-branch-7 t c =
    rests_where c.dom_rests-in-Partition.result (λ h. partition_settled c.args.next (pure_names c.args.names.now) c.args.dom.now
    c.in-Partition.field-0 c.in-Partition.numbers c.as_slice-in-Partition.result.now c.in-Partition.member c.get-in-Partition.result.now
    c.in-Partition.is c.as_slice-in-Partition.ensures c.get-in-Partition.ensures (c.in_ok-all_rest-in-Partition.ensures
    c.if-not-branch-7.false) h) c.dom_rests-in-Partition.ensures

pub resting_domains::dom_rests-returns-else-not-branch-6 : goal.resting_domains::dom_rests-returns-else-not-branch-6
resting_domains::dom_rests-returns-else-not-branch-6 t c =
    rests_where c.doms_rest-in-Relation.result (λ h. relation_settled c.args.next (pure_names c.args.names.now) c.args.dom.now
    c.in-Relation.field-0 c.in-Relation.numbers c.as_slice-in-Relation.result.now c.in-Relation.parts c.as_slice-in-Relation-2.result.now
    c.in-Relation.is c.as_slice-in-Relation.ensures c.as_slice-in-Relation-2.ensures (c.in_ok-all_rest-in-Relation.ensures
    c.if-not-branch-6.false) h) c.doms_rest-in-Relation.ensures

pub resting_domains::dom_rests-returns-else-not-branch-5 : goal.resting_domains::dom_rests-returns-else-not-branch-5
resting_domains::dom_rests-returns-else-not-branch-5 t c =
    rests_where c.dom_rests-in-Function-2.result (λ h. function_settled c.args.next (pure_names c.args.names.now) c.args.dom.now
    c.in-Function.field-0 c.in-Function.numbers c.as_slice-in-Function.result.now c.in-Function.from c.get-in-Function.result.now
    c.in-Function.to c.get-in-Function-2.result.now c.in-Function.is c.as_slice-in-Function.ensures c.get-in-Function.ensures
    c.get-in-Function-2.ensures (c.in_ok-all_rest-in-Function.ensures c.if-not-branch-4.false) (c.in_ok-dom_rests-in-Function.ensures
    c.if-not-branch-5.false) h) c.dom_rests-in-Function-2.ensures

pub resting_domains::doms_rest-loop-dom-preserved : goal.resting_domains::doms_rest-loop-dom-preserved
resting_domains::doms_rest-loop-dom-preserved t c =
    doms_rest_more c.args.next (pure_names c.args.names.now) c.args.doms.now c.loop-dom.dom-index c.dom-item.result c.loop-dom-test.true
    c.dom-item.is (c.in_ok-dom_rests.ensures c.if-not-branch.false) c.loop-dom.invariant

pub resting_domains::doms_rest-returns : goal.resting_domains::doms_rest-returns
resting_domains::doms_rest-returns t c =
    λ e. doms_rest_all c.args.next (pure_names c.args.names.now) c.args.doms.now c.loop-dom.dom-index c.loop-dom-test.false
    c.loop-dom.invariant

pub resting_generators::gens_rest-loop-item-preserved : goal.resting_generators::gens_rest-loop-item-preserved
resting_generators::gens_rest-loop-item-preserved t c =
    gens_rest_more c.args.next (pure_names c.args.names.now) (pure_names c.loop-item.under) (pure_names c.pass.new.names) c.args.gens.now
    c.loop-item.item-index c.item-item.result c.loop-item-test.true c.item-item.is (c.in_ok-gen_rests.ensures c.if-not-branch.false)
    c.in_ok-pass.ensures c.loop-item.invariant

pub resting_generators::gens_rest-returns : goal.resting_generators::gens_rest-returns
resting_generators::gens_rest-returns t c =
    λ e. gens_rest_all c.args.next (pure_names c.args.names.now) (pure_names c.loop-item.under) c.args.gens.now c.loop-item.item-index
    c.loop-item-test.false c.loop-item.invariant
