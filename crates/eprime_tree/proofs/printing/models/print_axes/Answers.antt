use Rattle.eprime_tree.proofs.PrintedModels.{prints-no_axes, prints-axes}
use Rattle.eprime_tree.proofs.printing.models.print_axes.Goals as goal

pub returns-then-is_empty : goal.returns-then-is_empty
returns-then-is_empty c = prints-no_axes c.args.out.now c.args.axes.now (c.is_empty.ensures.0 c.if-is_empty.true)

pub returns : goal.returns
returns c =
    prints-axes c.args.out.now c.push_str.new.self c.print_doms.new.out c.push_str-2.new.self c.args.axes.now (λ e. let h = c.is_empty.ensures.1 e in let k = c.if-is_empty.false in cc)
    c.in_ok-push_str.ensures.ok c.in_ok-print_doms.ensures c.in_ok-push_str-2.ensures.ok
