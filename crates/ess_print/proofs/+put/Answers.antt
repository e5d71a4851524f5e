use Rattle.std.proofs.Common.{◌≡◌, ◌+◌, ◌<◌, ◌≤◌, length, false, refl, arith}
use Rattle.std.specs.Prelude.{IsTrue}
use Rattle.std.proofs.lemmas.Result.{on_ok_weaker}
use Rattle.ess_print_laws.specs.Parts.{bracketed}
use Rattle.ess_print_laws.specs.Expressions.{ex_pieces}
use Rattle.ess_core.specs.TreeViews.{pure_ex, pure_gen}
use Rattle.ess_print.specs.Written.{item_pieces}
use Rattle.ess_print.proofs.Writing.{comma-item, comma-passed, writing-as, times-item, items-end, not-empty, between-puts, puts-at}
use Rattle.ess_print.proofs.Items.{exs-by-item, doms-by-item, pairs-by-item, fields-by-item, field-doms-by-item, ranges-by-item, attrs-by-item, pair-put, field-put, field-dom-put, next-arg, args-end, next-gen, gens-end, step-value, step-component, step-field, steps-end}
use Rattle.ess_print.proofs.ExpressionParts.{two-put, bar-put, bracketed-put, call-put, at-put, steps-put, apply-put, tuple-put, set-put, mset-put, relation-put, partition-put, record-put, function-put, matrix-put, axis-put, comp-put, cell-put}
use Rattle.ess_print.proofs.DomainParts as dom
use Rattle.ess_print.proofs.+put.Goals as goal
use Rattle.ess_print.proofs.+put.Goals.{expressions::put_steps-in-Value+in_ok-put_comma-in-Value+in_ok-put_ex-in-Value, expressions::put_steps-in-Component, expressions::put_steps-in-Field}

pub collections::put_function-loop-index-preserved : goal.collections::put_function-loop-index-preserved
collections::put_function-loop-index-preserved t c =
    comma-item pairs-by-item c.args.pairs.now c.loop-index.index c.index-pairs-index.result c.loop-index-test.true c.index-pairs-index.is c.loop-index.invariant
    c.in_ok-put_comma.ensures (pair-put c.index-pairs-index.result c.in_ok-put_ex.ensures c.in_ok-push_str-2.ensures.ok c.in_ok-put_ex-2.ensures)

pub collections::put_function-returns : goal.collections::put_function-returns
collections::put_function-returns t c =
    on_ok_weaker c.push_str-2.result (λ g. function-put c.args.pairs.now c.in_ok-push_str.ensures.ok (items-end pairs-by-item c.args.pairs.now c.loop-index.index c.loop-index-test.false c.loop-index.invariant) g) c.push_str-2.ensures.ok

pub collections::put_record-loop-index-preserved : goal.collections::put_record-loop-index-preserved
collections::put_record-loop-index-preserved t c =
    comma-item fields-by-item c.args.fields.now c.loop-index.index c.index-fields-index.result c.loop-index-test.true c.index-fields-index.is c.loop-index.invariant
    c.in_ok-put_comma.ensures (field-put c.index-fields-index.result c.in_ok-push_str-2.ensures.ok c.as_str.ensures c.in_ok-push_str-3.ensures.ok c.in_ok-put_ex.ensures)

pub collections::put_record-returns : goal.collections::put_record-returns
collections::put_record-returns t c =
    on_ok_weaker c.push_str-2.result (λ g. record-put c.args.fields.now c.in_ok-push_str.ensures.ok (items-end fields-by-item c.args.fields.now c.loop-index.index c.loop-index-test.false c.loop-index.invariant) g) c.push_str-2.ensures.ok

pub collections::put_tuple-returns : goal.collections::put_tuple-returns
collections::put_tuple-returns t c =
    on_ok_weaker c.put_between.result (λ h. tuple-put c.args.items.now c.opening_of_tuple.ensures h) c.put_between.ensures

pub domains::put_attrs-loop-index-preserved : goal.domains::put_attrs-loop-index-preserved
domains::put_attrs-loop-index-preserved t c =
    comma-item attrs-by-item c.args.attrs.now c.loop-index.index c.index-attrs-index.result c.loop-index-test.true c.index-attrs-index.is c.loop-index.invariant
    c.in_ok-put_comma.ensures c.in_ok-put_attr.ensures

pub domains::put_attrs-returns : goal.domains::put_attrs-returns
domains::put_attrs-returns t c =
    on_ok_weaker c.push_str-2.result (λ g. dom.attrs-put (not-empty c.args.attrs.now c.if-is_empty.ensures) c.in_ok-push_str.ensures.ok (items-end attrs-by-item c.args.attrs.now c.loop-index.index c.loop-index-test.false c.loop-index.invariant) g) c.push_str-2.ensures.ok

pub domains::put_doms-loop-index-preserved : goal.domains::put_doms-loop-index-preserved
domains::put_doms-loop-index-preserved t c =
    comma-item doms-by-item c.args.doms.now c.loop-index.index c.index-doms-index.result c.loop-index-test.true c.index-doms-index.is c.loop-index.invariant
    c.in_ok-put_comma.ensures c.in_ok-put_dom.ensures

pub domains::put_doms-returns : goal.domains::put_doms-returns
domains::put_doms-returns t c =
    (items-end doms-by-item c.args.doms.now c.loop-index.index c.loop-index-test.false c.loop-index.invariant)

pub domains::put_factors-loop-index-preserved : goal.domains::put_factors-loop-index-preserved
domains::put_factors-loop-index-preserved t c =
    times-item doms-by-item c.args.doms.now c.loop-index.index c.index-doms-index.result c.loop-index-test.true c.index-doms-index.is c.loop-index.invariant
    c.in_ok-put_times.ensures c.in_ok-put_dom.ensures

pub domains::put_factors-returns : goal.domains::put_factors-returns
domains::put_factors-returns t c =
    (items-end doms-by-item c.args.doms.now c.loop-index.index c.loop-index-test.false c.loop-index.invariant)

pub domains::put_int-loop-index-preserved : goal.domains::put_int-loop-index-preserved
domains::put_int-loop-index-preserved t c =
    comma-item ranges-by-item c.args.ranges.now c.loop-index.index c.index-ranges-index.result c.loop-index-test.true c.index-ranges-index.is c.loop-index.invariant
    c.in_ok-put_comma.ensures c.in_ok-put_range.ensures

pub domains::put_int-returns : goal.domains::put_int-returns
domains::put_int-returns t c =
    on_ok_weaker c.push_str-3.result
    (λ g. dom.int-put (not-empty c.args.ranges.now c.if-is_empty.ensures) c.in_ok-push_str.ensures.ok c.in_ok-push_str-2.ensures.ok (items-end ranges-by-item c.args.ranges.now c.loop-index.index c.loop-index-test.false c.loop-index.invariant) g) c.push_str-3.ensures.ok

pub domains::put_record-loop-index-preserved : goal.domains::put_record-loop-index-preserved
domains::put_record-loop-index-preserved t c =
    comma-item field-doms-by-item c.args.fields.now c.loop-index.index c.index-fields-index.result c.loop-index-test.true c.index-fields-index.is c.loop-index.invariant
    c.in_ok-put_comma.ensures (field-dom-put c.index-fields-index.result c.in_ok-push_str-2.ensures.ok c.as_str.ensures c.in_ok-push_str-3.ensures.ok c.in_ok-put_dom.ensures)

pub domains::put_record-returns : goal.domains::put_record-returns
domains::put_record-returns t c =
    on_ok_weaker c.push_str-2.result (λ g. dom.record-put c.args.fields.now c.in_ok-push_str.ensures.ok (items-end field-doms-by-item c.args.fields.now c.loop-index.index c.loop-index-test.false c.loop-index.invariant) g) c.push_str-2.ensures.ok

pub domains::put_tuple-returns : goal.domains::put_tuple-returns
domains::put_tuple-returns t c =
    on_ok_weaker c.push_str-2.result
    (λ g. dom.tuple-put c.args.doms.now c.opening_of_tuple.ensures c.in_ok-push_str.ensures.ok c.in_ok-put_doms.ensures g) c.push_str-2.ensures.ok

pub domains::put_dom-returns-in_ok-push_str-in-Matrix-2 : goal.domains::put_dom-returns-in_ok-push_str-in-Matrix-2
domains::put_dom-returns-in_ok-push_str-in-Matrix-2 t c =
    on_ok_weaker c.put_dom.result
    (λ h. dom.matrix-put c.in-Matrix.is c.in_ok-push_str-in-Matrix.ensures.ok c.as_slice-in-Matrix.ensures c.in_ok-put_doms-in-Matrix.ensures c.in_ok-push_str-in-Matrix-2.ensures.ok c.get.ensures h)
    c.put_dom.ensures

pub domains::put_dom-returns-in_ok-push_str-in-Set-2 : goal.domains::put_dom-returns-in_ok-push_str-in-Set-2
domains::put_dom-returns-in_ok-push_str-in-Set-2 t c =
    on_ok_weaker c.put_dom-in-Set.result
    (λ h. dom.set-put c.in-Set.is c.in_ok-push_str-in-Set.ensures.ok c.as_slice-in-Set.ensures c.in_ok-put_attrs-in-Set.ensures c.in_ok-push_str-in-Set-2.ensures.ok c.get-in-Set.ensures h)
    c.put_dom-in-Set.ensures

pub domains::put_dom-returns-in_ok-push_str-in-MSet-2 : goal.domains::put_dom-returns-in_ok-push_str-in-MSet-2
domains::put_dom-returns-in_ok-push_str-in-MSet-2 t c =
    on_ok_weaker c.put_dom-in-MSet.result
    (λ h. dom.mset-put c.in-MSet.is c.in_ok-push_str-in-MSet.ensures.ok c.as_slice-in-MSet.ensures c.in_ok-put_attrs-in-MSet.ensures c.in_ok-push_str-in-MSet-2.ensures.ok c.get-in-MSet.ensures h)
    c.put_dom-in-MSet.ensures

pub domains::put_dom-returns-in_ok-push_str-in-Partition-2 : goal.domains::put_dom-returns-in_ok-push_str-in-Partition-2
domains::put_dom-returns-in_ok-push_str-in-Partition-2 t c =
    on_ok_weaker c.put_dom-in-Partition.result
    (λ h. dom.partition-put c.in-Partition.is c.in_ok-push_str-in-Partition.ensures.ok c.as_slice-in-Partition.ensures c.in_ok-put_attrs-in-Partition.ensures c.in_ok-push_str-in-Partition-2.ensures.ok c.get-in-Partition.ensures h)
    c.put_dom-in-Partition.ensures

pub domains::put_dom-returns-in_ok-push_str-in-Function-3 : goal.domains::put_dom-returns-in_ok-push_str-in-Function-3
domains::put_dom-returns-in_ok-push_str-in-Function-3 t c =
    on_ok_weaker c.put_dom-in-Function-2.result
    (λ h. dom.function-put c.in-Function.is c.in_ok-push_str-in-Function.ensures.ok c.as_slice-in-Function.ensures c.in_ok-put_attrs-in-Function.ensures
    c.as_slice-in-Function-2.ensures c.get-in-Function.ensures c.before_argument.ensures c.in_ok-push_str-in-Function-2.ensures.ok
    c.get-in-Function-2.ensures c.in_ok-put_dom-in-Function.ensures c.in_ok-push_str-in-Function-3.ensures.ok c.get-in-Function-3.ensures h)
    c.put_dom-in-Function-2.ensures

pub domains::put_dom-returns-in_ok-put_factors-in-Relation : goal.domains::put_dom-returns-in_ok-put_factors-in-Relation
domains::put_dom-returns-in_ok-put_factors-in-Relation t c =
    on_ok_weaker c.push_str-in-Relation-3.result
    (λ g. dom.relation-put c.in-Relation.is c.in_ok-push_str-in-Relation.ensures.ok c.as_slice-in-Relation.ensures c.in_ok-put_attrs-in-Relation.ensures
    c.in_ok-push_str-in-Relation-2.ensures.ok c.as_slice-in-Relation-2.ensures c.in_ok-put_factors-in-Relation.ensures g)
    c.push_str-in-Relation-3.ensures.ok

pub expressions::put_axis-returns-in_ok-put_dom-in-Some : goal.expressions::put_axis-returns-in_ok-put_dom-in-Some
expressions::put_axis-returns-in_ok-put_dom-in-Some t c =
    on_ok_weaker c.push_str-in-Some-2.result
    (λ g. axis-put c.in-Some.is c.in_ok-push_str-in-Some.ensures.ok c.get.ensures c.in_ok-put_dom-in-Some.ensures g) c.push_str-in-Some-2.ensures.ok

pub expressions::put_bracketed-returns : goal.expressions::put_bracketed-returns
expressions::put_bracketed-returns t c =
    on_ok_weaker c.push_str-2.result (λ g. bracketed-put c.if-not-brackets.false c.in_ok-push_str.ensures.ok c.in_ok-put_ex.ensures g) c.push_str-2.ensures.ok

pub expressions::put_call-loop-index-preserved : goal.expressions::put_call-loop-index-preserved
expressions::put_call-loop-index-preserved t c =
    comma-passed c.loop-index.index
    (next-arg c.would_begin_quantifier-brackets.result c.args.args.now c.loop-index.index c.index-args-index.result c.loop-index-test.true c.index-args-index.is)
    c.loop-index.invariant c.in_ok-put_comma.ensures
    (puts-at (λ b. bracketed b (ex_pieces (pure_ex c.index-args-index.result))) c.is_first_in_brackets.ensures c.in_ok-put_bracketed.ensures)

pub expressions::put_call-returns : goal.expressions::put_call-returns
expressions::put_call-returns t c =
    on_ok_weaker c.push_str-3.result
    (λ g. call-put c.args.args.now c.would_begin_quantifier-brackets.ensures c.word_text.ensures c.in_ok-push_str.ensures.ok c.in_ok-push_str-2.ensures.ok
    (args-end c.would_begin_quantifier-brackets.result c.args.args.now c.loop-index.index c.loop-index-test.false c.loop-index.invariant) g)
    c.push_str-3.ensures.ok

pub expressions::put_ex-returns-in_ok-push_str-in-Two : goal.expressions::put_ex-returns-in_ok-push_str-in-Two
expressions::put_ex-returns-in_ok-push_str-in-Two t c =
    on_ok_weaker c.put_operand-in-Two.result
    (λ h. two-put c.in-Two.is c.get-in-Two.ensures c.in_ok-put_operand-in-Two.ensures c.operator_between.ensures c.in_ok-push_str-in-Two.ensures.ok c.get-in-Two-2.ensures h)
    c.put_operand-in-Two.ensures

pub expressions::put_ex-returns-in_ok-put_operand-in-At : goal.expressions::put_ex-returns-in_ok-put_operand-in-At
expressions::put_ex-returns-in_ok-put_operand-in-At t c =
    on_ok_weaker c.put_steps.result (λ h. at-put c.in-At.is c.get-in-At.ensures c.in_ok-put_operand-in-At.ensures c.as_slice-in-At.ensures h) c.put_steps.ensures

pub expressions::put_ex-returns-in_ok-put_operand-in-Apply : goal.expressions::put_ex-returns-in_ok-put_operand-in-Apply
expressions::put_ex-returns-in_ok-put_operand-in-Apply t c =
    on_ok_weaker c.put_between.result (λ h. apply-put c.in-Apply.is c.get-in-Apply.ensures c.in_ok-put_operand-in-Apply.ensures c.as_slice-in-Apply.ensures h) c.put_between.ensures

pub expressions::put_ex-returns-in-Set : goal.expressions::put_ex-returns-in-Set
expressions::put_ex-returns-in-Set t c =
    on_ok_weaker c.put_between-in-Set.result (λ h. set-put c.in-Set.is c.as_slice-in-Set.ensures h) c.put_between-in-Set.ensures

pub expressions::put_ex-returns-in-MSet : goal.expressions::put_ex-returns-in-MSet
expressions::put_ex-returns-in-MSet t c =
    on_ok_weaker c.put_between-in-MSet.result (λ h. mset-put c.in-MSet.is c.as_slice-in-MSet.ensures h) c.put_between-in-MSet.ensures

pub expressions::put_ex-returns-in-Relation : goal.expressions::put_ex-returns-in-Relation
expressions::put_ex-returns-in-Relation t c =
    on_ok_weaker c.put_between-in-Relation.result (λ h. relation-put c.in-Relation.is c.as_slice-in-Relation.ensures h) c.put_between-in-Relation.ensures

pub expressions::put_ex-returns-in-Partition : goal.expressions::put_ex-returns-in-Partition
expressions::put_ex-returns-in-Partition t c =
    on_ok_weaker c.put_between-in-Partition.result (λ h. partition-put c.in-Partition.is c.as_slice-in-Partition.ensures h) c.put_between-in-Partition.ensures

pub expressions::put_ex-returns-in_ok-put_exs-in-Matrix : goal.expressions::put_ex-returns-in_ok-put_exs-in-Matrix
expressions::put_ex-returns-in_ok-put_exs-in-Matrix t c =
    on_ok_weaker c.put_axis.result
    (λ h. matrix-put c.in-Matrix.axis c.in-Matrix.is c.in_ok-push_str-in-Matrix.ensures.ok c.as_slice-in-Matrix.ensures c.in_ok-put_exs-in-Matrix.ensures h) c.put_axis.ensures

pub expressions::put_ex-returns-in_ok-put_gens-in-Comp : goal.expressions::put_ex-returns-in_ok-put_gens-in-Comp
expressions::put_ex-returns-in_ok-put_gens-in-Comp t c =
    on_ok_weaker c.push_str-in-Comp-3.result
    (λ g. comp-put c.in-Comp.is c.in_ok-push_str-in-Comp.ensures.ok c.get-in-Comp.ensures c.in_ok-put_ex-in-Comp.ensures c.in_ok-push_str-in-Comp-2.ensures.ok
    c.as_slice-in-Comp.ensures c.in_ok-put_gens-in-Comp.ensures g)
    c.push_str-in-Comp-3.ensures.ok

pub expressions::put_ex-returns-else-is_empty : goal.expressions::put_ex-returns-else-is_empty
expressions::put_ex-returns-else-is_empty t c =
    on_ok_weaker c.put_between-in-Cell.result
    (λ h. cell-put c.in-Cell.is c.in_ok-push_str-in-Cell.ensures.ok c.as_str-in-Cell.ensures (λ e. let no : IsTrue false = c.if-is_empty.ensures.1 e in cc) c.as_slice-in-Cell.ensures h)
    c.put_between-in-Cell.ensures

pub expressions::put_exs-loop-index-preserved : goal.expressions::put_exs-loop-index-preserved
expressions::put_exs-loop-index-preserved t c =
    comma-item exs-by-item c.args.exs.now c.loop-index.index c.index-exs-index.result c.loop-index-test.true c.index-exs-index.is c.loop-index.invariant
    c.in_ok-put_comma.ensures c.in_ok-put_ex.ensures

pub expressions::put_exs-returns : goal.expressions::put_exs-returns
expressions::put_exs-returns t c =
    (items-end exs-by-item c.args.exs.now c.loop-index.index c.loop-index-test.false c.loop-index.invariant)

pub expressions::put_one-returns-in_ok-put_ex-in-Bar : goal.expressions::put_one-returns-in_ok-put_ex-in-Bar
expressions::put_one-returns-in_ok-put_ex-in-Bar t c =
    on_ok_weaker c.push_str-in-Bar-2.result (λ g. bar-put (pure_ex c.args.a.now) c.in-Bar.is c.in_ok-push_str-in-Bar.ensures.ok c.in_ok-put_ex-in-Bar.ensures g) c.push_str-in-Bar-2.ensures.ok

pub expressions::put_between-returns : goal.expressions::put_between-returns
expressions::put_between-returns t c =
    on_ok_weaker c.push_str-2.result (λ g. between-puts c.in_ok-push_str.ensures.ok c.in_ok-put_exs.ensures g) c.push_str-2.ensures.ok

pub expressions::put_steps-loop-step-preserved : goal.expressions::put_steps-loop-step-preserved
expressions::put_steps-loop-step-preserved t c =
    elim c.match-step.branch [
      | expressions::put_steps-in-Value+in_ok-put_comma-in-Value+in_ok-put_ex-in-Value w ↦ (
        writing-as w.out-is w.count-is refl
            (comma-passed c.loop-step.count (step-value c.args.steps.now c.loop-step.step-index c.step-item.result w.in-Value.ex c.loop-step-test.true c.step-item.is w.in-Value.is)
            c.loop-step.invariant.0 w.in_ok-put_comma-in-Value.ensures w.in_ok-put_ex-in-Value.ensures),
        omega (arith, w.count-is, c.loop-step.invariant.1),
      )
      | expressions::put_steps-in-Component w ↦ (
        writing-as w.out-is w.count-is (step-component c.args.steps.now c.loop-step.step-index c.step-item.result w.in-Component.field-0 c.loop-step-test.true c.step-item.is w.in-Component.is)
            c.loop-step.invariant.0,
        omega (arith, w.count-is, c.loop-step.invariant.1),
      )
      | expressions::put_steps-in-Field w ↦ (
        writing-as w.out-is w.count-is (step-field c.args.steps.now c.loop-step.step-index c.step-item.result w.in-Field.field-0 c.loop-step-test.true c.step-item.is w.in-Field.is)
            c.loop-step.invariant.0,
        omega (arith, w.count-is, c.loop-step.invariant.1),
      )
    ]

pub expressions::put_steps-returns : goal.expressions::put_steps-returns
expressions::put_steps-returns t c =
    on_ok_weaker c.push_str-2.result
    (λ g. steps-put c.args.steps.now c.in_ok-push_str.ensures.ok (steps-end c.args.steps.now c.loop-step.step-index c.loop-step-test.false c.loop-step.invariant.0) g) c.push_str-2.ensures.ok

pub expressions::put_steps-overflow_add-count : goal.expressions::put_steps-overflow_add-count
expressions::put_steps-overflow_add-count t c = omega (arith, c.loop-step.invariant.1)

pub generators::put_gens-loop-index-preserved : goal.generators::put_gens-loop-index-preserved
generators::put_gens-loop-index-preserved t c =
    comma-passed c.loop-index.index
    (next-gen c.args.gens.now c.loop-index.index c.index-gens-index.result c.loop-index-test.true c.index-gens-index.is)
    c.loop-index.invariant c.in_ok-put_comma.ensures
    (puts-at (λ b. item_pieces b (pure_gen c.index-gens-index.result)) c.is_generator_at.ensures c.in_ok-put_gen.ensures)

pub generators::put_gens-returns : goal.generators::put_gens-returns
generators::put_gens-returns t c =
    gens-end c.args.gens.now c.loop-index.index c.loop-index-test.false c.loop-index.invariant
