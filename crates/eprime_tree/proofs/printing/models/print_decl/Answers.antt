use Rattle.std.proofs.Common.{ap, ◌∙◌, ◌++◌}
use Rattle.eprime_tree.proofs.PrintedModels.{prints-decl}
use Rattle.eprime_tree.proofs.printing.models.print_decl.Goals as goal

pub returns : goal.returns
returns c =
    prints-decl c.args.out.now c.push_str.new.self c.push_str-2.new.self c.push_str-3.new.self c.push_str-4.new.self c.print_axes.new.out c.print_dom.new.out c.push_str-5.new.self c.args.word.now c.args.decl.now
    c.in_ok-push_str.ensures.ok c.in_ok-push_str-2.ensures.ok (c.in_ok-push_str-3.ensures.ok ∙ ap (λ x. c.push_str-2.new.self ++ x) c.as_str.ensures) c.in_ok-push_str-4.ensures.ok
    c.in_ok-print_axes.ensures c.in_ok-print_dom.ensures c.in_ok-push_str-5.ensures.ok
