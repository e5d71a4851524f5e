use Rattle.std.proofs.Common.{map}
use Rattle.ess_declared_trees.specs.TableViews.{pure_declared}
use Rattle.ess_model_declared.proofs.NameSteps.{named_tables, no_table_left}
use Rattle.ess_model_declared.proofs.plans.named.Goals as goal

pub returns-then-i-tables : goal.returns-then-i-tables
returns-then-i-tables c =
    no_table_left c.args.names.now c.args.tables.now c.loop-i.i (map pure_declared c.loop-i.all)
    (named_tables c.args.names.now c.args.tables.now) c.if-i-tables.true c.loop-i.invariant
