use Rattle.eprime_tree.proofs.NextItem.{cell-name}
use Rattle.eprime_tree.proofs.printing.expressions.is_name.Goals as goal

pub returns-in-Cell : goal.returns-in-Cell
returns-in-Cell c = λ s. cell-name s c.is_empty.result c.args.ex.now c.in-Cell.field-0 c.in-Cell.at c.in-Cell.is c.is_empty.ensures
