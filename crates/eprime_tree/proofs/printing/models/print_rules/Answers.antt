use Rattle.std.proofs.Common.{◌∙◌, sym, subst}
use Rattle.eprime_tree.specs.Printed.{PrintsRules}
use Rattle.eprime_tree.proofs.PrintedModels.{rules_listed-none, rules_listed-more, prints-no_rules, prints-rules}
use Rattle.eprime_tree.proofs.printing.models.print_rules.Goals as goal

pub returns-then-is_empty : goal.returns-then-is_empty
returns-then-is_empty c = prints-no_rules c.args.out.now c.args.rules.now (c.is_empty.ensures.0 c.if-is_empty.true)

pub loop-index-init : goal.loop-index-init
loop-index-init c = rules_listed-none c.push_str.new.self c.as_slice-rule-items.result.now

pub loop-index-preserved : goal.loop-index-preserved
loop-index-preserved c =
    rules_listed-more c.push_str.new.self c.loop-index.out c.print_line.new.out c.print_ex.new.out c.loop-index.index c.as_slice-rule-items.result.now c.rule-item.result
    c.loop-index.invariant c.loop-index-test.true c.rule-item.is c.in_ok-print_line.ensures c.in_ok-print_ex.ensures

pub returns : goal.returns
returns c =
    subst (λ es. PrintsRules c.args.out.now c.push_str-2.new.self es) c.as_slice-rule-items.ensures
    (prints-rules c.args.out.now c.push_str.new.self c.loop-index.out c.push_str-2.new.self c.loop-index.index c.as_slice-rule-items.result.now
    (λ e. let h = c.is_empty.ensures.1 (sym c.as_slice-rule-items.ensures ∙ e) in let k = c.if-is_empty.false in cc)
    c.in_ok-push_str.ensures.ok c.loop-index.invariant c.loop-index-test.false c.in_ok-push_str-2.ensures.ok)
