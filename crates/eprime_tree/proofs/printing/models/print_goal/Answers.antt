use Rattle.eprime_tree.specs.declared.models.PGoal.TheVariants.{Free, Minimise, Maximise}
use Rattle.eprime_tree.proofs.PrintedModels.{same_goal, prints-Free, prints-Minimise, prints-Maximise}
use Rattle.eprime_tree.proofs.printing.models.print_goal.Goals as goal

pub returns-in-Free : goal.returns-in-Free
returns-in-Free c = same_goal c.args.out.now c.args.out.now c.args.goal.now Free c.in-Free.is (prints-Free c.args.out.now)

pub returns-in_ok-push_str-in-Minimise-2 : goal.returns-in_ok-push_str-in-Minimise-2
returns-in_ok-push_str-in-Minimise-2 c =
    same_goal c.args.out.now c.push_str-in-Minimise.new.self c.args.goal.now (Minimise c.in-Minimise.ex) c.in-Minimise.is
    (prints-Minimise c.args.out.now c.push_str.new.self c.print_ex.new.out c.push_str-in-Minimise.new.self c.in-Minimise.ex
    c.in_ok-push_str-in-Minimise.ensures.ok c.in_ok-print_ex-in-Minimise.ensures c.in_ok-push_str-in-Minimise-2.ensures.ok)

pub returns-in_ok-push_str-in-Maximise-2 : goal.returns-in_ok-push_str-in-Maximise-2
returns-in_ok-push_str-in-Maximise-2 c =
    same_goal c.args.out.now c.push_str-in-Maximise-2.new.self c.args.goal.now (Maximise c.in-Maximise.ex) c.in-Maximise.is
    (prints-Maximise c.args.out.now c.push_str-in-Maximise.new.self c.print_ex-in-Maximise.new.out c.push_str-in-Maximise-2.new.self c.in-Maximise.ex
    c.in_ok-push_str-in-Maximise.ensures.ok c.in_ok-print_ex-in-Maximise.ensures c.in_ok-push_str-in-Maximise-2.ensures.ok)
