use Rattle.std.proofs.Common.{sym, ap, ◌∙◌, ◌++◌, map, reverse}
use Rattle.std.specs.Option.{option_map, option_copied}
use Rattle.ess_core.specs.TreeViews.{pure_step, pure_ex}
use Rattle.ess_core.specs.TreeViews as R
use Rattle.eprime_tree.specs.Views.{pure_op2, pure_fun, pure_gen, pure_range}
use Rattle.eprime_read_convert.specs.Converted.{model_range, ReadableItem}
use Rattle.eprime_read_convert.proofs.ModelNodes.{list_none}
use Rattle.eprime_read_convert.proofs.ListForms.{not_list}
use Rattle.eprime_read_convert.proofs.Sweeps.{sweep-start, items-start, each-step, items-step}
use Rattle.eprime_read_convert.proofs.Readables.{each_item, ranges_readable}
use Rattle.eprime_read_convert.specs.Lines.{scope_of}
use Rattle.eprime_read_convert.proofs.Conversions.{if_ok, one_converted, lex_converted, plain_converted, to_int_converted, fold_converted, call_converted, call_none, access_converted, access_none, at_none, items_converted, comp_converted, over_converted, test_converted, int_converted, value_converted, span_converted, low_converted, high_converted}
use Rattle.eprime_read_convert.proofs.+convert.Goals as goal

pub domains::convert_dom-returns-in_ok-convert_ranges-in-Int : goal.domains::convert_dom-returns-in_ok-convert_ranges-in-Int
domains::convert_dom-returns-in_ok-convert_ranges-in-Int t c =
    int_converted _ _ _ _ _ _ _ _ _ _ c.in-Int.is c.as_slice.ensures c.as_slice-then-has_ranges.ensures c.has_ranges.ensures c.if-has_ranges.true c.in_ok-convert_ranges-in-Int.ensures (c.int_of.ensures (scope_of c.args.lines.now))

pub domains::convert_range-returns-in_ok-convert_ex-in-One : goal.domains::convert_range-returns-in_ok-convert_ex-in-One
domains::convert_range-returns-in_ok-convert_ex-in-One t c = value_converted _ _ _ _ _ _ _ c.in-One.is c.in_ok-convert_ex-in-One.ensures (c.value.ensures (scope_of c.args.lines.now))

pub lists::convert_gen-returns-in_ok-convert_ex-in-If : goal.lists::convert_gen-returns-in_ok-convert_ex-in-If
lists::convert_gen-returns-in_ok-convert_ex-in-If t c = test_converted (scope_of c.args.lines.now) c.args.bound.now c.args.part.now _ _ _ c.in-If.is c.in_ok-convert_ex-in-If.ensures (c.test.ensures (scope_of c.args.lines.now))

pub expressions::convert_ex-returns-in_ok-convert_ex-in-One : goal.expressions::convert_ex-returns-in_ok-convert_ex-in-One
expressions::convert_ex-returns-in_ok-convert_ex-in-One t c =
    if_ok c.one.result c.one.ensures (λ o h. one_converted (scope_of c.args.lines.now) c.args.finds c.args.bound.now c.args.ex.now _ _ _ _ _ _ c.in-One.is c.get.ensures c.prefix.ensures c.in_ok-convert_ex-in-One.ensures (h (scope_of c.args.lines.now)))

pub expressions::convert_ex-returns-in_ok-right-in-Some : goal.expressions::convert_ex-returns-in_ok-right-in-Some
expressions::convert_ex-returns-in_ok-right-in-Some t c =
    if_ok c.lex.result c.lex.ensures (λ o h. lex_converted (scope_of c.args.lines.now) c.args.finds c.args.bound.now c.args.ex.now _ _ _ _ c.in-Two.op c.in-Some.sign _ _ _ c.in-Two.is c.get-in-Some.ensures c.get-in-Some-2.ensures (sym (ap (option_map pure_op2) c.in-Some.is) ∙ c.infix.ensures) (sym c.is_lex.ensures ∙ c.if-is_lex.true) c.in_ok-left-in-Some.ensures c.in_ok-right-in-Some.ensures (h (scope_of c.args.lines.now)))

pub expressions::convert_ex-returns-in_ok-right-in-Some-2 : goal.expressions::convert_ex-returns-in_ok-right-in-Some-2
expressions::convert_ex-returns-in_ok-right-in-Some-2 t c =
    if_ok c.two.result c.two.ensures (λ o h. plain_converted (scope_of c.args.lines.now) c.args.finds c.args.bound.now c.args.ex.now _ _ _ _ c.in-Two.op c.in-Some.sign _ _ _ c.in-Two.is c.get-in-Some-2-2.ensures c.get-in-Some-2-3.ensures (sym (ap (option_map pure_op2) c.in-Some.is) ∙ c.infix.ensures) (sym c.is_lex.ensures ∙ c.if-is_lex.false) c.in_ok-left-in-Some-2.ensures c.in_ok-right-in-Some-2.ensures (h (scope_of c.args.lines.now)))

pub expressions::convert_word-returns-in_ok-convert_list-in-Some : goal.expressions::convert_word-returns-in_ok-convert_list-in-Some
expressions::convert_word-returns-in_ok-convert_list-in-Some t c =
    if_ok c.fold.result c.fold.ensures (λ o h. fold_converted (scope_of c.args.lines.now) c.args.finds c.args.bound.now c.args.fun c.in-Some.word c.args.only.now _ _ (sym (ap (option_map pure_fun) c.in-Some.is) ∙ c.fold_word.ensures) c.in_ok-convert_list-in-Some.ensures (h (scope_of c.args.lines.now)))

pub lists::convert_list-returns-in_ok-item-in-Comp : goal.lists::convert_list-returns-in_ok-item-in-Comp
lists::convert_list-returns-in_ok-item-in-Comp t c =
    comp_converted (scope_of c.args.lines.now) c.args.finds c.args.bound.now c.args.ex.now _ _ _ _ _ _ _ _ _ c.in-Comp.is c.get.ensures c.as_slice-in-Comp-2.ensures c.as_slice-in-Comp.ensures c.requires (c.in_ok-inner-in-Comp.ensures ∙ ap (λ ns. ns ++ c.args.bound.now) c.in_ok-names-in-Comp.ensures) c.in_ok-item-in-Comp.ensures c.in_ok-items-in-Comp.ensures (c.comp.ensures (scope_of c.args.lines.now))

pub domains::convert_range-returns-in_ok-last-in-Some-high : goal.domains::convert_range-returns-in_ok-last-in-Some-high
domains::convert_range-returns-in_ok-last-in-Some-high t c =
    span_converted (scope_of c.args.lines.now) c.args.half_open c.args.bound.now c.args.range.now _ _ _ _ _ _ _ c.in-Span.is c.in-Some.is c.in-Some-high.is c.in_ok-first-in-Some-high.ensures c.in_ok-last-in-Some-high.ensures (c.span.ensures (scope_of c.args.lines.now))

pub domains::convert_range-returns-in_ok-convert_ex-in-None-high : goal.domains::convert_range-returns-in_ok-convert_ex-in-None-high
domains::convert_range-returns-in_ok-convert_ex-in-None-high t c =
    low_converted (scope_of c.args.lines.now) c.args.half_open c.args.bound.now c.args.range.now _ _ _ _ _ c.in-Span.is c.in-Some.is c.in-None-high.is c.if-half_open.true c.in_ok-convert_ex-in-None-high.ensures (c.from.ensures (scope_of c.args.lines.now))

pub domains::convert_range-returns-in_ok-convert_ex-in-Some-high-2 : goal.domains::convert_range-returns-in_ok-convert_ex-in-Some-high-2
domains::convert_range-returns-in_ok-convert_ex-in-Some-high-2 t c =
    high_converted (scope_of c.args.lines.now) c.args.half_open c.args.bound.now c.args.range.now _ _ _ _ _ c.in-Span.is c.in-None.is c.in-Some-high-2.is c.if-half_open-2.true c.in_ok-convert_ex-in-Some-high-2.ensures (c.up_to.ensures (scope_of c.args.lines.now))

pub expressions::convert_access-returns-in-None : goal.expressions::convert_access-returns-in-None
expressions::convert_access-returns-in-None t c =
    at_none (scope_of c.args.lines.now) c.args.finds c.args.bound.now (pure_ex c.args.table.now) (map pure_step c.args.steps.now) (sym (ap option_copied c.in-None.is) ∙ c.name_of.ensures) c.requires

pub expressions::convert_access-returns-then-not-may_stand : goal.expressions::convert_access-returns-then-not-may_stand
expressions::convert_access-returns-then-not-may_stand t c =
    access_none (scope_of c.args.lines.now) c.args.finds c.args.bound.now (pure_ex c.args.table.now) c.in-Some.name.now (map pure_step c.args.steps.now) _ (sym (ap option_copied c.in-Some.is) ∙ c.name_of.ensures) c.requires c.may_stand.ensures c.if-not-may_stand.true

pub expressions::convert_access-returns-in_ok-indices-in-Some : goal.expressions::convert_access-returns-in_ok-indices-in-Some
expressions::convert_access-returns-in_ok-indices-in-Some t c =
    if_ok c.cell.result c.cell.ensures (λ o h. access_converted (scope_of c.args.lines.now) c.args.finds c.args.bound.now (pure_ex c.args.table.now) c.in-Some.name.now (map pure_step c.args.steps.now) _ _ _
    (sym (ap option_copied c.in-Some.is) ∙ c.name_of.ensures) c.requires c.may_stand.ensures c.if-not-may_stand.false c.in_ok-indices-in-Some.ensures (h (scope_of c.args.lines.now)))

pub expressions::convert_call-returns-then-args-ne1 : goal.expressions::convert_call-returns-then-args-ne1
expressions::convert_call-returns-then-args-ne1 t c =
    call_none (scope_of c.args.lines.now) c.args.finds c.args.bound.now c.args.fun c.args.args.now c.if-args-ne1.true

pub expressions::convert_call-returns : goal.expressions::convert_call-returns
expressions::convert_call-returns t c =
    if_ok c.convert_word.result c.convert_word.ensures (λ o h. call_converted (scope_of c.args.lines.now) c.args.finds c.args.bound.now c.args.fun c.args.args.now c.index-args-0.result _ c.if-args-ne1.false c.index-args-0.is h)

pub expressions::convert_word-returns-in_ok-convert_ex-in-ToInt : goal.expressions::convert_word-returns-in_ok-convert_ex-in-ToInt
expressions::convert_word-returns-in_ok-convert_ex-in-ToInt t c =
    if_ok c.one.result c.one.ensures (λ o h. to_int_converted (scope_of c.args.lines.now) c.args.finds c.args.bound.now c.args.fun c.args.only.now _ _ c.in-ToInt.is c.in_ok-convert_ex-in-ToInt.ensures (h (scope_of c.args.lines.now)))

pub lists::convert_gen-returns-in_ok-convert_dom-in-Name : goal.lists::convert_gen-returns-in_ok-convert_dom-in-Name
lists::convert_gen-returns-in_ok-convert_dom-in-Name t c =
    if_ok c.over.result c.over.ensures (λ o h. over_converted (scope_of c.args.lines.now) c.args.bound.now c.args.part.now _ _ _ _ _ _ c.in-Over.is c.in-Name.is c.requires c.is_found.ensures c.if-not-is_found.true c.in_ok-convert_dom-in-Name.ensures (h (scope_of c.args.lines.now)))

pub lists::convert_list-returns-in_ok-convert_exs-in-None : goal.lists::convert_list-returns-in_ok-convert_exs-in-None
lists::convert_list-returns-in_ok-convert_exs-in-None t c =
    items_converted (scope_of c.args.lines.now) c.args.finds c.args.bound.now c.args.ex.now _ _ _ _ _ c.in-Matrix.is c.in-None.is c.as_slice.ensures c.in_ok-convert_exs-in-None.ensures (c.items_of.ensures (scope_of c.args.lines.now))

pub lists::convert_gens-loop-part-init : goal.lists::convert_gens-loop-part-init
lists::convert_gens-loop-part-init t c = record {
  readable = each_item (map R.pure_gen c.args.gens.now) c.requires;
  left = items-start (scope_of c.args.lines.now) (reverse c.new-names.result ++ c.args.bound.now) c.args.bound.now (pure_gen (scope_of c.args.lines.now)) c.new-items.result (map R.pure_gen c.args.gens.now) c.new-items.ensures (ap (λ ns. reverse ns ++ c.args.bound.now) c.new-names.ensures);
}

pub lists::convert_gens-loop-part-preserved : goal.lists::convert_gens-loop-part-preserved
lists::convert_gens-loop-part-preserved t c = record {
  readable = each-step ReadableItem R.pure_gen c.args.gens.now c.loop-part.part-index c.part-item.result c.loop-part-test.true c.part-item.is c.loop-part.invariant.readable;
  left = items-step (scope_of c.args.lines.now) c.args.bound.now c.loop-part.names c.in_ok-names.names (pure_gen (scope_of c.args.lines.now)) R.pure_gen c.loop-part.items c.push.new.self c.in-Some.item c.in_ok-item.field-0
      c.args.gens.now c.loop-part.part-index c.part-item.result c.in_ok-names.ensures c.in_ok-item.ensures c.in-Some.is c.in_ok-push-in-Some.ensures.ok c.loop-part-test.true c.part-item.is c.loop-part.invariant.left;
}

pub domains::convert_ranges-loop-range-init : goal.domains::convert_ranges-loop-range-init
domains::convert_ranges-loop-range-init t c = record {
  readable = ranges_readable c.args.ranges.now c.requires;
  left = sweep-start (model_range (scope_of c.args.lines.now) c.args.half_open c.args.bound.now) (pure_range (scope_of c.args.lines.now)) c.new-items.result (map R.pure_range c.args.ranges.now) c.new-items.ensures;
}

pub lists::convert_list-returns-in_default : goal.lists::convert_list-returns-in_default
lists::convert_list-returns-in_default t c =
    sym (list_none (scope_of c.args.lines.now) c.args.finds c.args.bound.now (pure_ex c.args.ex.now) (not_list c.args.ex.now c.in_default.not-Matrix c.in_default.not-Comp))
