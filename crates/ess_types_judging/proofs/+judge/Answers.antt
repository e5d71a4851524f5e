use Rattle.std.proofs.Common.{rules, ◌≡◌, ◌<◌, ◌≤◌, sym, ap, ◌∙◌, ◌∷◌, false, if◌then◌else◌, map, get_or, length}
use Rattle.ess_semantics.specs.Names.{look}
use Rattle.ess_semantics.specs.Types.{bool_ty}
use Rattle.ess_semantics.specs.Typing.{number_cell_ty}
use Rattle.ess_semantics.specs.Trees.{is_truth_op1, is_truth_op2}
use Rattle.ess_core.specs.TreeViews.{pure_ex, pure_exs, pure_dom, pure_view, pure_gens, pure_step, pure_repr, pure_field_ex, pure_pair_ex, field_values, exs_of}
use Rattle.ess_core.specs.declared.domains.Dom.TheViews.{out-FieldDom, out-PairEx, out-View}
use Rattle.ess_core.proofs.PartEquations.{pure_pair_ex_is, pure_step_value, pure_view_is}
use Rattle.ess_types_judging_laws.specs.Found.{both}
use Rattle.ess_types_judging_laws.specs.Judged.{judged, judged_all, judged_dom}
use Rattle.ess_types_judging_laws.specs.Accumulated.{added, several_on}
use Rattle.ess_types_judging_laws.specs.Combined.{comp_judged}
use Rattle.ess_types_judging_laws.specs.Reached.{behind_value}
use Rattle.ess_types_judging.specs.declared.nodes.Node.TheVariants.{Unary, Binary, Application, Tuple, Record, Function}
use Rattle.ess_types_judging.specs.Findings.{pure_found, pure_judged, pure_operands}
use Rattle.ess_types_judging.specs.Indexing.{pure_reached, index_on}
use Rattle.ess_types_judging.specs.Forms.{matrix_over}
use Rattle.ess_types_judging.specs.Judging.{pure_gathered, pure_numbers}
use Rattle.ess_types_judging.specs.ScopeViews.{pure_scope}
use Rattle.ess_types_judging.proofs.FormLemmas.{cell_by, view_by, matrix_by, comp_judged_over}
use Rattle.ess_types_judging.proofs.IndexLemmas.{index_by, index_value}
use Rattle.ess_types_judging.proofs.NodeLemmas.{node_done, one_done, more_done, two_done}
use Rattle.ess_types_judging.proofs.NumberLemmas.{doms_more, doms_all, field_doms_more, field_doms_all}
use Rattle.ess_types_judging.proofs.PartLemmas.{dom_by}
use Rattle.ess_types_judging.proofs.ResultLemmas.{on_ok, is_same}
use Rattle.ess_types_judging.proofs.RowLemmas.{several_by}
use Rattle.ess_types_judging.proofs.ViewLemmas.{viewed_two, viewed_at, viewed_apply, viewed_matrix, viewed_comp}
use Rattle.ess_types_judging.proofs.+judge.Goals as goal

pub domains::judge_dom-returns-clause-ok : goal.domains::judge_dom-returns-clause-ok
domains::judge_dom-returns-clause-ok t c =
    c.both.ensures
    ∙ dom_by (pure_dom c.args.dom.now) c.args.scope.now c.judge_numbers.new.scope (pure_numbers c.in_ok-numbers.numbers)
    (pure_found c.in_ok-layer.layer) (pure_found c.in_ok-parts.parts) c.in_ok-numbers.ensures.kept c.in_ok-numbers.ensures.ok
    c.in_ok-layer.ensures c.in_ok-parts.ensures.ok

pub domains::judge_doms-loop-i-preserved : goal.domains::judge_doms-loop-i-preserved
domains::judge_doms-loop-i-preserved t c =
    let d = c.index-doms-i.result in
    let l : c.loop-i.i < length c.args.doms.now = search rules in
    let g : d ≡ get_or c.args.doms.now c.loop-i.i d = search rules in (
      c.loop-i.invariant.0
          ∙ doms_more c.args.doms.now (pure_scope c.args.scope.now) (pure_found c.loop-i.found) (pure_found c.both-found.result) c.loop-i.i
          d l g
          (c.both-found.ensures
          ∙ ap (both (pure_found c.loop-i.found)) (c.in_ok-own.ensures.ok
          ∙ ap (λ z. judged_dom (pure_dom d) (pure_scope z)) c.loop-i.invariant.1)),
      c.in_ok-own.ensures.kept ∙ c.loop-i.invariant.1,
    )

pub domains::judge_doms-returns-clause-ok : goal.domains::judge_doms-returns-clause-ok
domains::judge_doms-returns-clause-ok t c =
    let l : length c.args.doms.now ≤ c.loop-i.i = search rules in
    sym (c.loop-i.invariant.0 ∙ doms_all c.args.doms.now (pure_scope c.args.scope.now) (pure_found c.loop-i.found) c.loop-i.i l)

pub domains::judge_fields-loop-i-preserved : goal.domains::judge_fields-loop-i-preserved
domains::judge_fields-loop-i-preserved t c =
    let f = c.index-fields-i.result in
    let l : c.loop-i.i < length c.args.fields.now = search rules in
    let g : f ≡ get_or c.args.fields.now c.loop-i.i f = search rules in (
      c.loop-i.invariant.0
          ∙ field_doms_more c.args.fields.now (pure_scope c.args.scope.now) (pure_found c.loop-i.found) (pure_found c.both-found.result)
          c.loop-i.i f l g
          (c.both-found.ensures
          ∙ ap (both (pure_found c.loop-i.found))
          (c.in_ok-own.ensures.ok ∙ ap (λ z. judged_dom (pure_dom (out-FieldDom f).dom) (pure_scope z)) c.loop-i.invariant.1)),
      c.in_ok-own.ensures.kept ∙ c.loop-i.invariant.1,
    )

pub domains::judge_fields-returns-clause-ok : goal.domains::judge_fields-returns-clause-ok
domains::judge_fields-returns-clause-ok t c =
    let l : length c.args.fields.now ≤ c.loop-i.i = search rules in
    sym (c.loop-i.invariant.0 ∙ field_doms_all c.args.fields.now (pure_scope c.args.scope.now) (pure_found c.loop-i.found) c.loop-i.i l)

pub expressions::judge_one-returns-clause-ok : goal.expressions::judge_one-returns-clause-ok
expressions::judge_one-returns-clause-ok t c =
    is_same pure_judged _ _ c.finish.result
    (one_done (is_truth_op1 c.args.op) (Unary c.args.op) (pure_ex c.args.operand.now) c.args.scope.now c.judge_operand.new.scope
    (pure_operands c.judge_operand.new.operands) (pure_operands c.no_operands-operands.result) c.in_ok-judge_operand.ensures.kept
    c.no_operands-operands.ensures c.in_ok-judge_operand.ensures.ok)
    c.finish.ensures

pub expressions::judge_node-returns-clause-ok : goal.expressions::judge_node-returns-clause-ok
expressions::judge_node-returns-clause-ok t c =
    is_same pure_judged _ _ c.finish.result
    (node_done false c.args.node.now (pure_exs c.args.exs.now) c.args.scope.now c.judge_operands.new.scope
    (pure_operands c.judge_operands.new.operands) (pure_operands c.no_operands-operands.result) c.in_ok-judge_operands.ensures.kept
    c.no_operands-operands.ensures c.in_ok-judge_operands.ensures.ok)
    c.finish.ensures

pub expressions::judge_record-returns-clause-ok : goal.expressions::judge_record-returns-clause-ok
expressions::judge_record-returns-clause-ok t c =
    is_same pure_judged _ _ c.finish.result
    (node_done false (Record c.args.fields) (exs_of (field_values (map pure_field_ex c.args.fields.now))) c.args.scope.now
    c.judge_values.new.scope
    (pure_operands c.judge_values.new.operands) (pure_operands c.no_operands-operands.result) c.in_ok-judge_values.ensures.kept
    c.no_operands-operands.ensures c.in_ok-judge_values.ensures.ok)
    c.finish.ensures

pub expressions::judge_function-returns-clause-ok : goal.expressions::judge_function-returns-clause-ok
expressions::judge_function-returns-clause-ok t c =
    is_same pure_judged _ _ c.finish.result
    (node_done false Function (exs_of (map pure_pair_ex c.args.pairs.now)) c.args.scope.now c.judge_pairs.new.scope
    (pure_operands c.judge_pairs.new.operands) (pure_operands c.no_operands-operands.result) c.in_ok-judge_pairs.ensures.kept
    c.no_operands-operands.ensures c.in_ok-judge_pairs.ensures.ok)
    c.finish.ensures

pub expressions::judge_pair-returns-clause-ok : goal.expressions::judge_pair-returns-clause-ok
expressions::judge_pair-returns-clause-ok t c =
    let p = c.args.pair.now in
    on_ok c.add.result c.add.ensures
    (λ k. k
    ∙ ap (added (pure_operands c.args.operands.now))
    (c.in_ok-judged.ensures
    ∙ two_done false Tuple (pure_ex (out-PairEx p).from) (pure_ex (out-PairEx p).to) c.args.scope.now c.judge_operand.new.scope
    c.judge_operand-2.new.scope (pure_operands c.judge_operand-2.new.operands) (pure_operands c.no_operands-parts.result)
    (pure_operands c.judge_operand.new.operands) c.in_ok-judge_operand.ensures.kept c.in_ok-judge_operand-2.ensures.kept
    c.no_operands-parts.ensures c.in_ok-judge_operand.ensures.ok c.in_ok-judge_operand-2.ensures.ok
    ∙ ap (λ e. judged e (pure_scope c.args.scope.now)) (sym (pure_pair_ex_is p))))

pub matrices::judge_cell-returns-clause-ok : goal.matrices::judge_cell-returns-clause-ok
matrices::judge_cell-returns-clause-ok t c =
    c.typed_part.ensures
    ∙ cell_by c.args.is_bool c.args.name.now (pure_exs c.args.at.now) (pure_scope c.args.scope.now) _ _ _
    (c.in_ok-ty.ensures
    ∙ ap (λ z. if c.args.is_bool then bool_ty else number_cell_ty (look (pure_scope z).tys c.args.name.now))
    c.in_ok-judge_operands.ensures.kept)
    (several_by (pure_operands c.judge_operands.new.operands) (pure_operands c.no_operands-operands.result)
    (judged_all (pure_exs c.args.at.now) (pure_scope c.args.scope.now)) c.no_operands-operands.ensures c.in_ok-judge_operands.ensures.ok)
    c.at_place.ensures

pub matrices::judge_view-returns-clause-ok : goal.matrices::judge_view-returns-clause-ok
matrices::judge_view-returns-clause-ok t c =
    let v = out-View c.args.view.now in
    c.typed_part.ensures
    ∙ view_by (pure_view c.args.view.now) (pure_repr v.repr) (pure_dom v.dom) v.cells (pure_exs v.at) (pure_scope c.args.scope.now) _ _ _ _
    _
    (pure_view_is c.args.view.now) c.in_ok-ty.ensures
    (several_by (pure_operands c.judge_operands.new.operands) (pure_operands c.no_operands-operands.result)
    (judged_all (pure_exs v.at) (pure_scope c.args.scope.now)) c.no_operands-operands.ensures
    (c.in_ok-judge_operands.ensures.ok
    ∙ ap (λ l. several_on (judged_all (pure_exs l) (pure_scope c.args.scope.now)) (pure_operands c.no_operands-operands.result))
    c.as_slice.ensures))
    (c.in_ok-found.ensures.ok ∙ ap (λ z. judged_dom (pure_dom v.dom) (pure_scope z)) c.in_ok-judge_operands.ensures.kept)
    c.at_place.ensures c.both.ensures

pub expressions::judge-returns-in_ok-judge_operand-in-Two-2-clause-ok
    : goal.expressions::judge-returns-in_ok-judge_operand-in-Two-2-clause-ok
expressions::judge-returns-in_ok-judge_operand-in-Two-2-clause-ok t c =
    let o = c.in-Two.op in
    let a = pure_ex c.get-in-Two.result.now in
    let b = pure_ex c.get-in-Two-2.result.now in
    let e = viewed_two c.args.ex.now c.in-Two.a c.in-Two.b c.get-in-Two.result.now c.get-in-Two-2.result.now o c.in-Two.is
    c.get-in-Two.ensures
    c.get-in-Two-2.ensures in
    is_same pure_judged _ _ c.finish.result
    (two_done (is_truth_op2 o) (Binary o) a b c.args.scope.now c.judge_operand.new.scope c.judge_operand-in-Two.new.scope
    (pure_operands c.judge_operand-in-Two.new.operands) (pure_operands c.no_operands-operands.result)
    (pure_operands c.judge_operand.new.operands)
    c.in_ok-judge_operand-in-Two.ensures.kept c.in_ok-judge_operand-in-Two-2.ensures.kept c.no_operands-operands.ensures
    c.in_ok-judge_operand-in-Two.ensures.ok c.in_ok-judge_operand-in-Two-2.ensures.ok
    ∙ ap (λ x. judged x (pure_scope c.args.scope.now)) (sym e))
    c.finish.ensures

pub expressions::judge-returns-in_ok-judge_steps-in-At-clause-ok : goal.expressions::judge-returns-in_ok-judge_steps-in-At-clause-ok
expressions::judge-returns-in_ok-judge_steps-in-At-clause-ok t c =
    let p = pure_ex c.get-in-At.result.now in
    let ws = map pure_step c.as_slice-in-At.result.now in
    let e = viewed_at c.args.ex.now c.in-At.place c.get-in-At.result.now c.in-At.field-0 c.in-At.steps c.as_slice-in-At.result.now
    c.in-At.is
    c.get-in-At.ensures c.as_slice-in-At.ensures in
    c.index_judged.ensures
    ∙ index_by c.in-At.field-0 p ws c.args.scope.now c.judge.new.scope (pure_judged c.in_ok-judged-in-At.judged)
    (pure_reached c.reached_first-reached.result) (pure_reached c.judge_steps.new.reached) c.in_ok-judged-in-At.ensures.kept
    c.in_ok-judged-in-At.ensures.ok c.reached_first-reached.ensures c.in_ok-judge_steps-in-At.ensures.ok
    ∙ ap (λ x. judged x (pure_scope c.args.scope.now)) (sym e)

pub expressions::judge-returns-in_ok-judge_operands-in-Apply-clause-ok
    : goal.expressions::judge-returns-in_ok-judge_operands-in-Apply-clause-ok
expressions::judge-returns-in_ok-judge_operands-in-Apply-clause-ok t c =
    let a = pure_ex c.get-in-Apply.result.now in
    let es = pure_exs c.as_slice-in-Apply.result.now in
    let e = viewed_apply c.args.ex.now c.in-Apply.applied c.get-in-Apply.result.now c.in-Apply.field-0 c.in-Apply.arguments
    c.as_slice-in-Apply.result.now c.in-Apply.is c.get-in-Apply.ensures c.as_slice-in-Apply.ensures in
    is_same pure_judged _ _ c.finish-in-Apply.result
    (more_done c.in-Apply.field-0 Application a es c.args.scope.now c.judge_operand-in-Apply.new.scope c.judge_operands.new.scope
    (pure_operands c.judge_operands.new.operands) (pure_operands c.no_operands-operands-in-Apply.result)
    (pure_operands c.judge_operand-in-Apply.new.operands) c.in_ok-judge_operand-in-Apply.ensures.kept
    c.in_ok-judge_operands-in-Apply.ensures.kept c.no_operands-operands-in-Apply.ensures c.in_ok-judge_operand-in-Apply.ensures.ok
    c.in_ok-judge_operands-in-Apply.ensures.ok
    ∙ ap (λ x. judged x (pure_scope c.args.scope.now)) (sym e))
    c.finish-in-Apply.ensures

pub expressions::judge-returns-in_ok-found-in-Some-clause-ok : goal.expressions::judge-returns-in_ok-found-in-Some-clause-ok
expressions::judge-returns-in_ok-found-in-Some-clause-ok t c =
    let es = pure_exs c.as_slice-in-Some.result.now in
    let d = pure_dom c.get-in-Some.result.now in
    let s = pure_scope c.args.scope.now in
    let same = ap pure_dom (c.get-in-Some-2.ensures ∙ sym c.get-in-Some.ensures) in
    let e = viewed_matrix c.args.ex.now c.in-Matrix.items c.as_slice-in-Some.result.now c.in-Matrix.axis c.in-Some.axis
    c.get-in-Some.result.now
    c.in-Matrix.is c.in-Some.is c.as_slice-in-Some.ensures c.get-in-Some.ensures in
    let v = pure_operands c.judge_operands-in-Some.new.operands in
    let f = pure_found c.in_ok-found-in-Some.found in
    is_same pure_judged _ _ c.matrix_over.result
    (ap (λ x. matrix_over x v f) same
    ∙ matrix_by es d s v f
    (several_by v (pure_operands c.no_operands-operands-in-Some.result) (judged_all es s)
    c.no_operands-operands-in-Some.ensures c.in_ok-judge_operands-in-Some.ensures.ok)
    (c.in_ok-found-in-Some.ensures.ok
    ∙ ap (λ z. judged_dom d (pure_scope z)) c.in_ok-judge_operands-in-Some.ensures.kept)
    ∙ ap (λ x. judged x s) (sym e))
    c.matrix_over.ensures

pub expressions::judge-returns-in_ok-body-in-Comp-clause-ok : goal.expressions::judge-returns-in_ok-body-in-Comp-clause-ok
expressions::judge-returns-in_ok-body-in-Comp-clause-ok t c =
    let b = pure_ex c.get-in-Comp.result.now in
    let gs = pure_gens c.as_slice-in-Comp.result.now in
    let e = viewed_comp c.args.ex.now c.in-Comp.body c.get-in-Comp.result.now c.in-Comp.gens c.as_slice-in-Comp.result.now c.in-Comp.is
    c.get-in-Comp.ensures c.as_slice-in-Comp.ensures in
    is_same pure_judged _ _ c.comp_judged.result
    (ap (λ z. comp_judged (pure_gathered c.in_ok-gathered-in-Comp.gathered (pure_scope z)) (pure_judged c.in_ok-body-in-Comp.body))
    c.in_ok-body-in-Comp.ensures.kept
    ∙ comp_judged_over b gs (pure_scope c.args.scope.now)
    (pure_gathered c.in_ok-gathered-in-Comp.gathered (pure_scope c.judge_gens.new.scope)) (pure_judged c.in_ok-body-in-Comp.body)
    c.in_ok-gathered-in-Comp.ensures.ok c.in_ok-body-in-Comp.ensures.ok
    ∙ ap (λ x. judged x (pure_scope c.args.scope.now)) (sym e))
    c.comp_judged.ensures.ok

pub indices::judge_step-returns-in_ok-judged-in-Value-clause-ok : goal.indices::judge_step-returns-in_ok-judged-in-Value-clause-ok
indices::judge_step-returns-in_ok-judged-in-Value-clause-ok t c =
    let p = pure_reached c.args.reached.now in
    let x = pure_ex c.in-Value.ex in
    let s = pure_scope c.args.scope.now in
    on_ok c.behind_value.result c.behind_value.ensures
    (λ k ws. ap (λ y. index_on p (y ∷ ws) s) (ap pure_step c.in-Value.is ∙ pure_step_value c.in-Value.ex)
    ∙ index_value p x ws s
    ∙ ap (λ q. index_on q ws s) (ap (λ j. behind_value x j p) (sym c.in_ok-judged-in-Value.ensures.ok) ∙ sym k))
