use Rattle.std.proofs.Common.{◌≡◌, ap, sym, ◌∙◌, subst, rules, drop, ◌+◌, ◌++◌}
use Rattle.ess_print_laws.specs.Brackets.{starts_generator}
use Rattle.std.proofs.lemmas.Int.{to_z-of_z}
use Rattle.std.specs.Fmt.{signed_decimal}
use Rattle.ess_semantics.specs.Values.{Text}
use mir.Syntax.{w64}
use Rattle.eprime_tree.specs.declared.words.POp1.TheVariants as op
use Rattle.eprime_tree.specs.declared.expressions.PEx.TheVariants as ex
use Rattle.eprime_tree.specs.declared.expressions.PList.TheVariants as list
use Rattle.eprime_tree.specs.declared.expressions.PGen.TheVariants as gen
use Rattle.eprime_tree.specs.declared.expressions.PDom.TheVariants as dom
use Rattle.eprime_tree.specs.declared.expressions.PRange.TheVariants as range
use Rattle.eprime_tree.specs.Printed.{PrintsEx, PrintsExs, PrintsGens, PrintsRanges}
use Rattle.eprime_tree.proofs.Loops.{read_gens, gens_listed-none, gens_listed-more}
use Rattle.eprime_tree.proofs.PrintedExpressions.{same_ex, same_list, same_one, prints-Num, prints-Truth, prints-Name, prints-cell, prints-indexed, prints-One, prints-two, prints-minus, prints-not, prints-bar, prints-to_int, prints-bracketed, prints-bare, prints-Lex, prints-Fold, prints-Items, prints-Comp}
use Rattle.eprime_tree.proofs.PrintedLists.{exs_listed-none, exs_listed-more, prints-exs, prints-gens, ranges_listed-none, ranges_listed-more, prints-ranges, prints-Over, prints-If, same_item, same_dom, prints-Bool, prints-int, prints-Int, same_range, prints-one, prints-none, prints-some, prints-Span}
use Rattle.eprime_tree.proofs.printing.+printing.Goals as goal

-- what is appended is known by another name
said : (t0 t1 x y : Text) → t1 ≡ t0 ++ x → x ≡ y → t1 ≡ t0 ++ y
said t0 t1 x y h k = h ∙ ap (λ z. t0 ++ z) k

pub expressions::print_bracketed-returns-then-brackets : goal.expressions::print_bracketed-returns-then-brackets
expressions::print_bracketed-returns-then-brackets t c =
    prints-bracketed c.args.out.now c.push_str.new.self c.print_ex.new.out c.push_str-then-brackets.new.self c.args.brackets c.args.ex.now
    c.if-brackets.true c.in_ok-push_str.ensures.ok c.in_ok-print_ex.ensures c.in_ok-push_str-2.ensures.ok

pub expressions::print_bracketed-returns : goal.expressions::print_bracketed-returns
expressions::print_bracketed-returns t c =
    prints-bare c.args.out.now c.print_ex-2.new.out c.args.brackets c.args.ex.now c.if-brackets.false c.in_ok-print_ex-2.ensures

pub expressions::print_ex-returns-then-is_empty : goal.expressions::print_ex-returns-then-is_empty
expressions::print_ex-returns-then-is_empty t c =
    same_ex c.args.out.now c.push_str-in-Cell.new.self c.args.ex.now (ex.Cell c.in-Cell.name c.in-Cell.at) c.in-Cell.is
    (prints-cell c.args.out.now c.push_str-in-Cell.new.self c.in-Cell.name c.in-Cell.at (c.is_empty.ensures.0 c.if-is_empty.true)
    (said c.args.out.now c.push_str-in-Cell.new.self c.as_str-in-Cell.result.now c.in-Cell.name c.in_ok-push_str-in-Cell.ensures.ok c.as_str-in-Cell.ensures))

pub expressions::print_ex-returns-in_ok-push_i64-in-Num : goal.expressions::print_ex-returns-in_ok-push_i64-in-Num
expressions::print_ex-returns-in_ok-push_i64-in-Num t c =
    same_ex c.args.out.now c.push_i64.new.self c.args.ex.now (ex.Num c.in-Num.number) c.in-Num.is
    (prints-Num c.args.out.now c.push_i64.new.self c.in-Num.number (c.in_ok-push_i64-in-Num.ensures.ok ∙ ap (λ z. c.args.out.now ++ signed_decimal z) (to_z-of_z w64 c.in-Num.number (search rules))))

pub expressions::print_ex-returns-in_ok-push_str-in-Truth : goal.expressions::print_ex-returns-in_ok-push_str-in-Truth
expressions::print_ex-returns-in_ok-push_str-in-Truth t c =
    same_ex c.args.out.now c.push_str.new.self c.args.ex.now (ex.Truth c.in-Truth.truth) c.in-Truth.is
    (prints-Truth c.args.out.now c.push_str.new.self c.in-Truth.truth (said c.args.out.now c.push_str.new.self c.truth_text.result.now _ c.in_ok-push_str-in-Truth.ensures.ok c.truth_text.ensures))

pub expressions::print_ex-returns-in_ok-push_str-in-Name : goal.expressions::print_ex-returns-in_ok-push_str-in-Name
expressions::print_ex-returns-in_ok-push_str-in-Name t c =
    same_ex c.args.out.now c.push_str-in-Name.new.self c.args.ex.now (ex.Name c.in-Name.name) c.in-Name.is
    (prints-Name c.args.out.now c.push_str-in-Name.new.self c.in-Name.name (said c.args.out.now c.push_str-in-Name.new.self c.as_str.result.now c.in-Name.name c.in_ok-push_str-in-Name.ensures.ok c.as_str.ensures))

pub expressions::print_ex-returns-in_ok-push_str-in-Cell-3 : goal.expressions::print_ex-returns-in_ok-push_str-in-Cell-3
expressions::print_ex-returns-in_ok-push_str-in-Cell-3 t c =
    same_ex c.args.out.now c.push_str-in-Cell-3.new.self c.args.ex.now (ex.Cell c.in-Cell.name c.in-Cell.at) c.in-Cell.is
    (prints-indexed c.args.out.now c.push_str-in-Cell.new.self c.push_str-in-Cell-2.new.self c.print_exs.new.out c.push_str-in-Cell-3.new.self c.in-Cell.name c.in-Cell.at (λ e. let h = c.is_empty.ensures.1 e in let k = c.if-is_empty.false in cc)
    (said c.args.out.now c.push_str-in-Cell.new.self c.as_str-in-Cell.result.now c.in-Cell.name c.in_ok-push_str-in-Cell.ensures.ok c.as_str-in-Cell.ensures)
    c.in_ok-push_str-in-Cell-2.ensures.ok c.in_ok-print_exs-in-Cell.ensures c.in_ok-push_str-in-Cell-3.ensures.ok)

pub expressions::print_ex-returns-in_ok-print_one-in-One : goal.expressions::print_ex-returns-in_ok-print_one-in-One
expressions::print_ex-returns-in_ok-print_one-in-One t c =
    prints-One c.args.out.now c.print_one.new.out c.args.ex.now c.in-One.op c.in-One.a c.get.result.now c.in-One.is c.get.ensures c.in_ok-print_one-in-One.ensures

pub expressions::print_ex-returns-in_ok-print_bracketed-in-Two-2 : goal.expressions::print_ex-returns-in_ok-print_bracketed-in-Two-2
expressions::print_ex-returns-in_ok-print_bracketed-in-Two-2 t c =
    prints-two c.args.out.now c.print_bracketed.new.out c.push_str-in-Two.new.self c.print_bracketed-in-Two.new.out c.args.ex.now c.in-Two.op c.in-Two.a c.in-Two.b c.get-left.result.now c.get-right.result.now
    c.is_operation.result c.is_operation-in-Two.result c.in-Two.is c.get-left.ensures c.get-right.ensures c.in_ok-print_bracketed-in-Two.ensures c.is_operation.ensures
    (said c.print_bracketed.new.out c.push_str-in-Two.new.self c.operator_text.result.now _ c.in_ok-push_str-in-Two.ensures.ok c.operator_text.ensures)
    c.in_ok-print_bracketed-in-Two-2.ensures c.is_operation-in-Two.ensures

pub expressions::print_ex-returns-in_ok-push_str-in-Fold-2 : goal.expressions::print_ex-returns-in_ok-push_str-in-Fold-2
expressions::print_ex-returns-in_ok-push_str-in-Fold-2 t c =
    same_ex c.args.out.now c.push_str-in-Fold-2.new.self c.args.ex.now (ex.Fold c.in-Fold.word c.in-Fold.list) c.in-Fold.is
    (prints-Fold c.args.out.now c.push_str-in-Fold.new.self c.print_list.new.out c.push_str-in-Fold-2.new.self c.in-Fold.word c.in-Fold.list
    (said c.args.out.now c.push_str-in-Fold.new.self c.call_text.result.now _ c.in_ok-push_str-in-Fold.ensures.ok c.call_text.ensures)
    c.in_ok-print_list-in-Fold.ensures c.in_ok-push_str-in-Fold-2.ensures.ok)

pub expressions::print_ex-returns-in_ok-print_list-in-Lex-2 : goal.expressions::print_ex-returns-in_ok-print_list-in-Lex-2
expressions::print_ex-returns-in_ok-print_list-in-Lex-2 t c =
    same_ex c.args.out.now c.print_list-in-Lex-2.new.out c.args.ex.now (ex.Lex c.in-Lex.op c.in-Lex.a c.in-Lex.b) c.in-Lex.is
    (prints-Lex c.args.out.now c.print_list-in-Lex.new.out c.push_str-in-Lex.new.self c.print_list-in-Lex-2.new.out c.in-Lex.op c.in-Lex.a c.in-Lex.b c.in_ok-print_list-in-Lex.ensures
    (said c.print_list-in-Lex.new.out c.push_str-in-Lex.new.self c.operator_text-in-Lex.result.now _ c.in_ok-push_str-in-Lex.ensures.ok c.operator_text-in-Lex.ensures)
    c.in_ok-print_list-in-Lex-2.ensures)

pub expressions::print_list-returns-in_ok-push_str-in-Items-2 : goal.expressions::print_list-returns-in_ok-push_str-in-Items-2
expressions::print_list-returns-in_ok-push_str-in-Items-2 t c =
    same_list c.args.out.now c.push_str-in-Items.new.self c.args.list.now (list.Items c.in-Items.items) c.in-Items.is
    (prints-Items c.args.out.now c.push_str.new.self c.print_exs.new.out c.push_str-in-Items.new.self c.in-Items.items c.in_ok-push_str-in-Items.ensures.ok c.in_ok-print_exs-in-Items.ensures c.in_ok-push_str-in-Items-2.ensures.ok)

pub expressions::print_list-returns-in_ok-push_str-in-Comp-3 : goal.expressions::print_list-returns-in_ok-push_str-in-Comp-3
expressions::print_list-returns-in_ok-push_str-in-Comp-3 t c =
    same_list c.args.out.now c.push_str-in-Comp-3.new.self c.args.list.now (list.Comp c.in-Comp.body c.in-Comp.gens) c.in-Comp.is
    (prints-Comp c.args.out.now c.push_str-in-Comp.new.self c.print_ex.new.out c.push_str-in-Comp-2.new.self c.print_gens.new.out c.push_str-in-Comp-3.new.self c.in-Comp.body c.in-Comp.gens
    c.in_ok-push_str-in-Comp.ensures.ok (subst (λ e. PrintsEx c.push_str-in-Comp.new.self c.print_ex.new.out e) c.get.ensures c.in_ok-print_ex-in-Comp.ensures) c.in_ok-push_str-in-Comp-2.ensures.ok c.in_ok-print_gens-in-Comp.ensures c.in_ok-push_str-in-Comp-3.ensures.ok)

pub expressions::print_one-returns-in_ok-print_bracketed-in-Minus : goal.expressions::print_one-returns-in_ok-print_bracketed-in-Minus
expressions::print_one-returns-in_ok-print_bracketed-in-Minus t c =
    same_one c.args.out.now c.print_bracketed.new.out c.args.op op.Minus c.args.a.now c.in-Minus.is
    (prints-minus c.args.out.now c.push_str.new.self c.print_bracketed.new.out c.args.a.now c.is_operation.result c.in_ok-push_str-in-Minus.ensures.ok c.in_ok-print_bracketed-in-Minus.ensures c.is_operation.ensures)

pub expressions::print_one-returns-in_ok-print_bracketed-in-Not : goal.expressions::print_one-returns-in_ok-print_bracketed-in-Not
expressions::print_one-returns-in_ok-print_bracketed-in-Not t c =
    same_one c.args.out.now c.print_bracketed-in-Not.new.out c.args.op op.Not c.args.a.now c.in-Not.is
    (prints-not c.args.out.now c.push_str-in-Not.new.self c.print_bracketed-in-Not.new.out c.args.a.now c.is_operation-in-Not.result c.in_ok-push_str-in-Not.ensures.ok c.in_ok-print_bracketed-in-Not.ensures c.is_operation-in-Not.ensures)

pub expressions::print_one-returns-in_ok-push_str-in-Bar-2 : goal.expressions::print_one-returns-in_ok-push_str-in-Bar-2
expressions::print_one-returns-in_ok-push_str-in-Bar-2 t c =
    same_one c.args.out.now c.push_str-in-Bar-2.new.self c.args.op op.Bar c.args.a.now c.in-Bar.is
    (prints-bar c.args.out.now c.push_str-in-Bar.new.self c.print_ex.new.out c.push_str-in-Bar-2.new.self c.args.a.now c.in_ok-push_str-in-Bar.ensures.ok c.in_ok-print_ex-in-Bar.ensures c.in_ok-push_str-in-Bar-2.ensures.ok)

pub expressions::print_one-returns-in_ok-push_str-in-ToInt-2 : goal.expressions::print_one-returns-in_ok-push_str-in-ToInt-2
expressions::print_one-returns-in_ok-push_str-in-ToInt-2 t c =
    same_one c.args.out.now c.push_str-in-ToInt-2.new.self c.args.op op.ToInt c.args.a.now c.in-ToInt.is
    (prints-to_int c.args.out.now c.push_str-in-ToInt.new.self c.print_ex-in-ToInt.new.out c.push_str-in-ToInt-2.new.self c.args.a.now c.in_ok-push_str-in-ToInt.ensures.ok c.in_ok-print_ex-in-ToInt.ensures c.in_ok-push_str-in-ToInt-2.ensures.ok)

pub lists::print_bound-returns-in-None : goal.lists::print_bound-returns-in-None
lists::print_bound-returns-in-None t c =
    prints-none c.args.out.now c.args.bound.now c.in-None.is

pub lists::print_bound-returns-in_ok-print_ex-in-Some : goal.lists::print_bound-returns-in_ok-print_ex-in-Some
lists::print_bound-returns-in_ok-print_ex-in-Some t c =
    prints-some c.args.out.now c.print_ex.new.out c.args.bound.now c.in-Some.ex c.in-Some.is c.in_ok-print_ex-in-Some.ensures

pub lists::print_dom-returns-then-is_empty : goal.lists::print_dom-returns-then-is_empty
lists::print_dom-returns-then-is_empty t c =
    same_dom c.args.out.now c.push_str-in-Int.new.self c.args.dom.now (dom.Int c.in-Int.ranges) c.in-Int.is
    (prints-int c.args.out.now c.push_str-in-Int.new.self c.in-Int.ranges (c.is_empty.ensures.0 c.if-is_empty.true) c.in_ok-push_str-in-Int.ensures.ok)

pub lists::print_dom-returns-in_ok-push_str-in-Bool : goal.lists::print_dom-returns-in_ok-push_str-in-Bool
lists::print_dom-returns-in_ok-push_str-in-Bool t c =
    same_dom c.args.out.now c.push_str.new.self c.args.dom.now (dom.Bool) c.in-Bool.is
    (prints-Bool c.args.out.now c.push_str.new.self c.in_ok-push_str-in-Bool.ensures.ok)

pub lists::print_dom-returns-in_ok-push_str-in-Int-3 : goal.lists::print_dom-returns-in_ok-push_str-in-Int-3
lists::print_dom-returns-in_ok-push_str-in-Int-3 t c =
    same_dom c.args.out.now c.push_str-in-Int-3.new.self c.args.dom.now (dom.Int c.in-Int.ranges) c.in-Int.is
    (prints-Int c.args.out.now c.push_str-in-Int.new.self c.push_str-in-Int-2.new.self c.print_ranges.new.out c.push_str-in-Int-3.new.self c.in-Int.ranges (λ e. let h = c.is_empty.ensures.1 e in let k = c.if-is_empty.false in cc)
    c.in_ok-push_str-in-Int.ensures.ok c.in_ok-push_str-in-Int-2.ensures.ok c.in_ok-print_ranges-in-Int.ensures c.in_ok-push_str-in-Int-3.ensures.ok)

pub lists::print_exs-loop-index-init : goal.lists::print_exs-loop-index-init
lists::print_exs-loop-index-init t c =
    exs_listed-none c.args.out.now c.as_slice-ex-items.result.now

pub lists::print_exs-loop-index-preserved : goal.lists::print_exs-loop-index-preserved
lists::print_exs-loop-index-preserved t c =
    exs_listed-more c.args.out.now c.loop-index.out c.print_comma.new.out c.print_ex.new.out c.loop-index.index c.as_slice-ex-items.result.now c.ex-item.result
    c.loop-index.invariant c.loop-index-test.true c.ex-item.is c.in_ok-print_comma.ensures c.in_ok-print_ex.ensures

pub lists::print_exs-returns : goal.lists::print_exs-returns
lists::print_exs-returns t c =
    subst (λ xs. PrintsExs c.args.out.now c.loop-index.out xs) c.as_slice-ex-items.ensures (prints-exs c.args.out.now c.loop-index.out c.loop-index.index c.as_slice-ex-items.result.now c.loop-index.invariant c.loop-index-test.false)

pub lists::print_ranges-loop-index-init : goal.lists::print_ranges-loop-index-init
lists::print_ranges-loop-index-init t c =
    ranges_listed-none c.args.out.now c.as_slice-range-items.result.now

pub lists::print_ranges-loop-index-preserved : goal.lists::print_ranges-loop-index-preserved
lists::print_ranges-loop-index-preserved t c =
    ranges_listed-more c.args.out.now c.loop-index.out c.print_comma.new.out c.print_range.new.out c.loop-index.index c.as_slice-range-items.result.now c.range-item.result
    c.loop-index.invariant c.loop-index-test.true c.range-item.is c.in_ok-print_comma.ensures c.in_ok-print_range.ensures

pub lists::print_ranges-returns : goal.lists::print_ranges-returns
lists::print_ranges-returns t c =
    subst (λ xs. PrintsRanges c.args.out.now c.loop-index.out xs) c.as_slice-range-items.ensures (prints-ranges c.args.out.now c.loop-index.out c.loop-index.index c.as_slice-range-items.result.now c.loop-index.invariant c.loop-index-test.false)

pub lists::print_gens-loop-index-init : goal.lists::print_gens-loop-index-init
lists::print_gens-loop-index-init t c =
    gens_listed-none c.args.out.now c.as_slice-item-items.result.now

pub lists::print_gens-loop-index-preserved : goal.lists::print_gens-loop-index-preserved
lists::print_gens-loop-index-preserved t c =
    gens_listed-more c.args.out.now c.loop-index.out c.print_comma.new.out c.print_item.new.out c.loop-index.index c.as_slice-item-items.result.now c.item-item.result c.is_generator_at.result
    c.loop-index.invariant c.loop-index-test.true c.item-item.is c.in_ok-print_comma.ensures
    (λ s. c.is_generator_at.ensures s ∙ ap (λ xs. starts_generator (read_gens s (drop (c.loop-index.index + 1) xs))) (sym c.as_slice-item-items.ensures)) c.in_ok-print_item.ensures

pub lists::print_gens-returns : goal.lists::print_gens-returns
lists::print_gens-returns t c =
    subst (λ xs. PrintsGens c.args.out.now c.loop-index.out xs) c.as_slice-item-items.ensures (prints-gens c.args.out.now c.loop-index.out c.loop-index.index c.as_slice-item-items.result.now c.loop-index.invariant c.loop-index-test.false)

pub lists::print_item-returns-in_ok-print_dom-in-Over : goal.lists::print_item-returns-in_ok-print_dom-in-Over
lists::print_item-returns-in_ok-print_dom-in-Over t c =
    same_item c.args.out.now c.print_dom.new.out c.args.before_generator c.args.item.now (gen.Over c.in-Over.name c.in-Over.dom) c.in-Over.is
    (prints-Over c.args.out.now c.push_str.new.self c.push_str-in-Over.new.self c.print_dom.new.out c.args.before_generator c.in-Over.name c.in-Over.dom
    (said c.args.out.now c.push_str.new.self c.as_str.result.now c.in-Over.name c.in_ok-push_str-in-Over.ensures.ok c.as_str.ensures) c.in_ok-push_str-in-Over-2.ensures.ok c.in_ok-print_dom-in-Over.ensures)

pub lists::print_item-returns-in_ok-print_bracketed-in-If : goal.lists::print_item-returns-in_ok-print_bracketed-in-If
lists::print_item-returns-in_ok-print_bracketed-in-If t c =
    same_item c.args.out.now c.print_bracketed.new.out c.args.before_generator c.args.item.now (gen.If c.in-If.ex) c.in-If.is
    (prints-If c.args.out.now c.print_bracketed.new.out c.args.before_generator c.needs_brackets.result c.in-If.ex c.in_ok-print_bracketed-in-If.ensures c.needs_brackets.ensures)

pub lists::print_range-returns-in_ok-print_ex-in-One : goal.lists::print_range-returns-in_ok-print_ex-in-One
lists::print_range-returns-in_ok-print_ex-in-One t c =
    same_range c.args.out.now c.print_ex.new.out c.args.range.now (range.One c.in-One.ex) c.in-One.is
    (prints-one c.args.out.now c.print_ex.new.out c.in-One.ex c.in_ok-print_ex-in-One.ensures)

pub lists::print_range-returns-in_ok-print_bound-in-Span-2 : goal.lists::print_range-returns-in_ok-print_bound-in-Span-2
lists::print_range-returns-in_ok-print_bound-in-Span-2 t c =
    same_range c.args.out.now c.print_bound-in-Span.new.out c.args.range.now (range.Span c.in-Span.low c.in-Span.high) c.in-Span.is
    (prints-Span c.args.out.now c.print_bound.new.out c.push_str.new.self c.print_bound-in-Span.new.out c.in-Span.low c.in-Span.high c.in_ok-print_bound-in-Span.ensures c.in_ok-push_str-in-Span.ensures.ok c.in_ok-print_bound-in-Span-2.ensures)
