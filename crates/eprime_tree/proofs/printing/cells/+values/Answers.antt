use Rattle.eprime_tree.proofs.PrintedCells.{rows_step}
use Rattle.eprime_tree.proofs.printing.cells.+values.Goals as goal

pub print_list-loop-at-preserved : goal.print_list-loop-at-preserved
print_list-loop-at-preserved t c =
    rows_step c.args.truths c.args.inner.now c.args.axis.now c.args.items.now c.loop-at.rest.now c.in_ok-rest.rest.now c.loop-at.at
    c.push_str.new.self c.loop-at.out
    c.print_comma.new.out c.print_value.new.out c.loop-at-test.true c.loop-at.invariant c.in_ok-print_comma.ensures
    c.in_ok-rest.ensures.text c.in_ok-rest.ensures.rest
