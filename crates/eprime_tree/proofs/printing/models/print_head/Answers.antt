use Rattle.std.proofs.Common.{ap, ◌∙◌, subst, ◌++◌, refl}
use Rattle.eprime_tree.specs.Printed.{PrintsHead}
use Rattle.eprime_tree.proofs.PrintedModels.{head_listed-more, prints-head}
use Rattle.eprime_tree.proofs.printing.models.print_head.Goals as goal

pub loop-line-init : goal.loop-line-init
loop-line-init c = λ us. refl

pub loop-line-preserved : goal.loop-line-preserved
loop-line-preserved c =
    head_listed-more c.args.out.now c.loop-line.out c.push_str.new.self c.push_str-in-loop-line.new.self c.push_str-in-loop-line-2.new.self c.loop-line.line-index c.as_slice-line-items.result.now c.line-item.result
    c.loop-line.invariant c.loop-line-test.true c.line-item.is c.in_ok-push_str.ensures.ok (c.in_ok-push_str-2.ensures.ok ∙ ap (λ x. c.push_str.new.self ++ x) c.as_str.ensures) c.in_ok-push_str-3.ensures.ok

pub returns : goal.returns
returns c =
    subst (λ ls. PrintsHead c.args.out.now c.loop-line.out ls) c.as_slice-line-items.ensures
    (prints-head c.args.out.now c.loop-line.out c.loop-line.line-index c.as_slice-line-items.result.now c.loop-line.invariant c.loop-line-test.false)
