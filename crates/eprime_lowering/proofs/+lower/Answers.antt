use Rattle.std.proofs.Common.{sym, ap, ◌∙◌, map}
use Rattle.std.proofs.lemmas.Result.{IfOk-weaker}
use Rattle.std.specs.Option.{option_map}
use Rattle.ess_semantics.specs.Trees.{binary, word}
use Rattle.ess_core_nodes.specs.NodeViews.{pure_node, pure_dom, pure_op, pure_ends}
use Rattle.eprime_tree.specs.Views.{pure_op1, pure_op2, pure_fun, pure_ex}
use Rattle.eprime_read_convert.specs.Lines.{scope_of}
use Rattle.eprime_lowering.specs.Lowered.{lowered_node, lowered_two, lowered_lex}
use Rattle.eprime_lowering.proofs.Forms.{cell_lowered, cell_none, node_lowered, node_none, one_lowered, fold_node, fold_lowered, fold_none, two_lowered, lex_lowered, lex_none}
use Rattle.eprime_lowering.proofs.Parts.{literal_lowered, literal_none, comp_lowered, over_lowered, cond_lowered, int_lowered, int_none, int_open, only-item, two-items, two_node, others_none, map-length}
use Rattle.eprime_lowering.proofs.+lower.Goals as goal

pub lowering::lower_cell-returns-then-not-are_same : goal.lowering::lower_cell-returns-then-not-are_same
lowering::lower_cell-returns-then-not-are_same t c =
    cell_none (scope_of c.args.lines.now) c.args.is_bool c.is_truth.result c.are_same.result c.args.name.now (map pure_node c.args.at.now)
    c.is_truth.ensures c.are_same.ensures c.if-not-are_same.true

pub lowering::lower_cell-returns : goal.lowering::lower_cell-returns
lowering::lower_cell-returns t c =
    IfOk-weaker c.cell.result _ _
    (λ o h. cell_lowered (scope_of c.args.lines.now) c.args.is_bool c.is_truth.result c.are_same.result c.args.name.now
    (map pure_node c.args.at.now) _ _ c.is_truth.ensures c.are_same.ensures c.if-not-are_same.false c.in_ok-indices.ensures
    (h (scope_of c.args.lines.now))) c.cell.ensures

pub lowering::lower_op-returns-then-not-are_same : goal.lowering::lower_op-returns-then-not-are_same
lowering::lower_op-returns-then-not-are_same t c =
    node_none (scope_of c.args.lines.now) c.args.mark c.is_truth_op.result c.are_same.result (pure_op c.args.op.now)
    (map pure_node c.args.operands.now) c.is_truth_op.ensures c.are_same.ensures c.if-not-are_same.true

pub lowering::lower_op-returns : goal.lowering::lower_op-returns
lowering::lower_op-returns t c =
    IfOk-weaker c.lower_operands.result _ _
    (λ o h. node_lowered (scope_of c.args.lines.now) c.args.mark c.is_truth_op.result c.are_same.result (pure_op c.args.op.now)
    (map pure_node c.args.operands.now) _ c.is_truth_op.ensures c.are_same.ensures c.if-not-are_same.false h) c.lower_operands.ensures

pub lowering::lower_operands-returns-then-operands-ne1 : goal.lowering::lower_operands-returns-then-operands-ne1
lowering::lower_operands-returns-then-operands-ne1 t c =
    IfOk-weaker c.lower_two.result _ _
    (λ o h. two_node (scope_of c.args.lines.now) (pure_op c.args.op.now) (map pure_node c.args.operands.now) _
    (λ e. c.if-operands-ne1.true (sym (map-length pure_node c.args.operands.now) ∙ e)) h) c.lower_two.ensures

pub lowering::lower_operands-returns : goal.lowering::lower_operands-returns
lowering::lower_operands-returns t c =
    IfOk-weaker c.lower_one.result _ _
    (λ o h. h ∙ ap (lowered_node (scope_of c.args.lines.now) (pure_op c.args.op.now))
    (sym (only-item pure_node c.args.operands.now c.index-operands-0.result c.if-operands-ne1.false c.index-operands-0.is)))
    c.lower_one.ensures

pub lowering::lower_one-returns-in_ok-lower-in-Some : goal.lowering::lower_one-returns-in_ok-lower-in-Some
lowering::lower_one-returns-in_ok-lower-in-Some t c =
    IfOk-weaker c.one.result _ _
    (λ o h. one_lowered (scope_of c.args.lines.now) (pure_op c.args.op.now) (pure_op1 c.in-Some.sign) (pure_node c.args.operand.now) _ _
    (sym (ap (option_map pure_op1) c.in-Some.is) ∙ c.prefix.ensures) c.in_ok-lower-in-Some.ensures (h (scope_of c.args.lines.now)))
    c.one.ensures

pub lowering::lower_one-returns-in-None : goal.lowering::lower_one-returns-in-None
lowering::lower_one-returns-in-None t c =
    IfOk-weaker c.lower_fold.result _ _
    (λ o h. fold_node (scope_of c.args.lines.now) (pure_op c.args.op.now) (pure_node c.args.operand.now) _
    (sym (ap (option_map pure_op1) c.in-None.is) ∙ c.prefix.ensures) h) c.lower_fold.ensures

pub lowering::lower_fold-returns-in_ok-lower_list-in-Some : goal.lowering::lower_fold-returns-in_ok-lower_list-in-Some
lowering::lower_fold-returns-in_ok-lower_list-in-Some t c =
    IfOk-weaker c.fold.result _ _
    (λ o h. fold_lowered (scope_of c.args.lines.now) (pure_op c.args.op.now) (word (pure_fun c.in-Some.word)) (pure_node c.args.operand.now)
    _ _ (sym (ap (option_map (λ f. word (pure_fun f))) c.in-Some.is) ∙ c.over_list.ensures) c.in_ok-lower_list-in-Some.ensures
    (h (scope_of c.args.lines.now))) c.fold.ensures

pub lowering::lower_fold-returns-in-None : goal.lowering::lower_fold-returns-in-None
lowering::lower_fold-returns-in-None t c =
    fold_none (scope_of c.args.lines.now) (pure_op c.args.op.now) (pure_node c.args.operand.now)
    (sym (ap (option_map (λ f. word (pure_fun f))) c.in-None.is) ∙ c.over_list.ensures)

pub lowering::lower_two-returns-then-operands-ne2 : goal.lowering::lower_two-returns-then-operands-ne2
lowering::lower_two-returns-then-operands-ne2 t c =
    others_none (scope_of c.args.lines.now) (pure_op c.args.op.now) (map pure_node c.args.operands.now)
    (λ e. c.if-operands-ne2.true (sym (map-length pure_node c.args.operands.now) ∙ e))

pub lowering::lower_two-returns-in_ok-right-in-Some : goal.lowering::lower_two-returns-in_ok-right-in-Some
lowering::lower_two-returns-in_ok-right-in-Some t c =
    IfOk-weaker c.two.result _ _
    (λ o h. two_lowered (scope_of c.args.lines.now) (pure_op c.args.op.now) (binary (pure_op2 c.in-Some.sign))
    (pure_node c.index-operands-0.result) (pure_node c.index-operands-1.result) _ _ _
    (sym (ap (option_map (λ o. binary (pure_op2 o))) c.in-Some.is) ∙ c.infix.ensures) c.in_ok-left-in-Some.ensures
    c.in_ok-right-in-Some.ensures
    (h (scope_of c.args.lines.now))
    ∙ ap (lowered_two (scope_of c.args.lines.now) (pure_op c.args.op.now))
    (sym (two-items pure_node c.args.operands.now c.index-operands-0.result c.index-operands-1.result c.if-operands-ne2.false
    c.index-operands-0.is c.index-operands-1.is))) c.two.ensures

pub lowering::lower_lex-returns-in_ok-right-in-Some : goal.lowering::lower_lex-returns-in_ok-right-in-Some
lowering::lower_lex-returns-in_ok-right-in-Some t c =
    IfOk-weaker c.lex-in-Some.result _ _
    (λ o h. lex_lowered (scope_of c.args.lines.now) (pure_op c.args.op.now) (binary (pure_op2 c.in-Some.sign))
    (pure_node c.index-operands-0.result) (pure_node c.index-operands-1.result) _ _ _
    (sym (ap (option_map (λ o. binary (pure_op2 o))) c.in-Some.is) ∙ c.lex.ensures) c.in_ok-left-in-Some.ensures
    c.in_ok-right-in-Some.ensures
    (h (scope_of c.args.lines.now))
    ∙ ap (lowered_lex (scope_of c.args.lines.now) (pure_op c.args.op.now))
    (sym (two-items pure_node c.args.operands.now c.index-operands-0.result c.index-operands-1.result c.requires
    c.index-operands-0.is c.index-operands-1.is))) c.lex-in-Some.ensures

pub lowering::lower_lex-returns-in-None : goal.lowering::lower_lex-returns-in-None
lowering::lower_lex-returns-in-None t c =
    lex_none (scope_of c.args.lines.now) (pure_op c.args.op.now) (map pure_node c.args.operands.now)
    (sym (ap (option_map (λ o. binary (pure_op2 o))) c.in-None.is) ∙ c.lex.ensures)

pub lists::lower_items-returns-then-not-is_list_literal : goal.lists::lower_items-returns-then-not-is_list_literal
lists::lower_items-returns-then-not-is_list_literal t c =
    literal_none (scope_of c.args.lines.now) c.args.mark c.is_list_literal.result (pure_op c.args.op.now) (map pure_node c.args.items.now)
    c.is_list_literal.ensures c.if-not-is_list_literal.true

pub lists::lower_items-returns : goal.lists::lower_items-returns
lists::lower_items-returns t c =
    literal_lowered (scope_of c.args.lines.now) c.args.mark c.is_list_literal.result (pure_op c.args.op.now)
    (map pure_node c.args.items.now) _ _
    c.is_list_literal.ensures c.if-not-is_list_literal.false c.in_ok-lower_all.ensures (c.items_of.ensures (scope_of c.args.lines.now))

pub lists::lower_gen-returns-in_ok-lower-in-If : goal.lists::lower_gen-returns-in_ok-lower-in-If
lists::lower_gen-returns-in_ok-lower-in-If t c =
    cond_lowered (scope_of c.args.lines.now) c.args.part.now _ _ _ _ c.in-If.is c.get-in-If.ensures c.in_ok-lower-in-If.ensures
    (c.test.ensures (scope_of c.args.lines.now))

pub lists::lower_over-returns-in_ok-lower_dom-in-Name : goal.lists::lower_over-returns-in_ok-lower_dom-in-Name
lists::lower_over-returns-in_ok-lower_dom-in-Name t c =
    IfOk-weaker c.over.result _ _
    (λ o h. over_lowered (scope_of c.args.lines.now) c.args.pat.now _ (pure_dom c.args.dom.now) _ _ c.in-Name.is
    c.in_ok-lower_dom-in-Name.ensures (h (scope_of c.args.lines.now))) c.over.ensures

pub lists::lower_list-returns-in_ok-item-in-Comp : goal.lists::lower_list-returns-in_ok-item-in-Comp
lists::lower_list-returns-in_ok-item-in-Comp t c =
    comp_lowered (scope_of c.args.lines.now) c.args.node.now _ _ _ _ _ _ _ c.in-Comp.is c.get.ensures c.as_slice-in-Comp.ensures
    c.in_ok-item-in-Comp.ensures c.in_ok-items-in-Comp.ensures (c.comp.ensures (scope_of c.args.lines.now))

pub domains::lower_int-returns-then-not-are_allowed : goal.domains::lower_int-returns-then-not-are_allowed
domains::lower_int-returns-then-not-are_allowed t c =
    int_open (scope_of c.args.lines.now) c.args.half_open c.are_allowed.result (map pure_ends c.args.ends.now)
    (map pure_node c.args.bounds.now)
    c.are_allowed.ensures c.if-not-are_allowed.true

pub domains::lower_int-returns-in-Some : goal.domains::lower_int-returns-in-Some
domains::lower_int-returns-in-Some t c =
    IfOk-weaker c.int_of.result _ _
    (λ o h. int_lowered (scope_of c.args.lines.now) c.args.half_open c.are_allowed.result (map pure_ends c.args.ends.now)
    (map pure_node c.args.bounds.now) (map (pure_ex (scope_of c.args.lines.now)) c.in-Some.row) _ c.are_allowed.ensures
    c.if-not-are_allowed.false
    (sym (ap (option_map (map (pure_ex (scope_of c.args.lines.now)))) c.in-Some.is) ∙ c.in_ok-row.ensures)
    (h (scope_of c.args.lines.now))) c.int_of.ensures

pub domains::lower_int-returns-in-None : goal.domains::lower_int-returns-in-None
domains::lower_int-returns-in-None t c =
    int_none (scope_of c.args.lines.now) c.args.half_open (map pure_ends c.args.ends.now) (map pure_node c.args.bounds.now)
    (sym (ap (option_map (map (pure_ex (scope_of c.args.lines.now)))) c.in-None.is) ∙ c.in_ok-row.ensures)
