use Rattle.ess_translate_cells.proofs.TablesInOrder.{tables_all}
use Rattle.ess_translate_cells.proofs.tables.behind_all.Goals as goal

pub returns : goal.returns
returns c =
    tables_all c.args.axes.now c.args.cells.now c.loop-place.place c.args.rest.now c.loop-place.left.now c.loop-place-test.false
    c.loop-place.invariant
