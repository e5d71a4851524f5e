use Rattle.ess_core.specs.StatementViews.{pure_stm}
use Rattle.ess_print.proofs.ReadBack.{statement-behind-nothing}
use Rattle.ess_print.proofs.statements.print_stm.Goals as goal

pub returns-clause-statement : goal.returns-clause-statement
returns-clause-statement c =
    λ h. let r = statement-behind-nothing (pure_stm c.args.stm.now) c.new-out.ensures c.in_ok-put_stm.ensures h in (r.0.0, r.0.1, r.0.2.0)

pub returns-clause-specification : goal.returns-clause-specification
returns-clause-specification c =
    λ h. let r = statement-behind-nothing (pure_stm c.args.stm.now) c.new-out.ensures c.in_ok-put_stm.ensures h in (r.0.0, r.0.1, r.0.2.1)

pub returns-clause-subset : goal.returns-clause-subset
returns-clause-subset c = λ h. (statement-behind-nothing (pure_stm c.args.stm.now) c.new-out.ensures c.in_ok-put_stm.ensures h).1
