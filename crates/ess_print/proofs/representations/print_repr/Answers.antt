use Rattle.ess_core.specs.TreeViews.{pure_repr}
use Rattle.ess_print.proofs.ReadBack.{representation-behind-nothing}
use Rattle.ess_print.proofs.representations.print_repr.Goals as goal

pub returns-clause-representation : goal.returns-clause-representation
returns-clause-representation c = (representation-behind-nothing (pure_repr c.args.repr.now) c.new-out.ensures c.in_ok-put_repr.ensures).0

pub returns-clause-subset : goal.returns-clause-subset
returns-clause-subset c = (representation-behind-nothing (pure_repr c.args.repr.now) c.new-out.ensures c.in_ok-put_repr.ensures).1
