use Rattle.std.proofs.Common.{subst, option_map}
use Rattle.ess_core_nodes.specs.NodeViews.{pure_node}
use Rattle.eprime_read_convert.specs.Lines.{scope_of}
use Rattle.ess_model_trees.specs.Written.{Prints}
use Rattle.ess_model_trees.proofs.Coming.{comes_nothing}
use Rattle.ess_model_trees.proofs.writing.written.Goals as goal

pub returns-in-None : goal.returns-in-None
returns-in-None c =
    comes_nothing (scope_of c.args.lines.now) c.args.taken.now c.args.next.now c.printing.new.next (pure_node c.args.node)
    (subst (λ o. Prints c.args.taken.now c.args.next.now (pure_node c.args.node) (option_map pure_node o) c.printing.new.next)
    c.in-None.is c.in_ok-printing.ensures)
