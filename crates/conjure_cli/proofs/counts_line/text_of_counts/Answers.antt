use Rattle.std.specs.Prelude.{codes}
use Rattle.conjure_cli.specs.Line.{counted}
use Rattle.conjure_cli.proofs.Upto.{four}
use Rattle.conjure_cli.proofs.counts_line.text_of_counts.Goals as goal

-- src/line.rt
pub returns : goal.returns
returns c =
    four c.new-text.result c.push_count.new.text c.push_count-2.new.text c.push_count-3.new.text c.push_count-4.new.text
    (counted (codes "statements ") c.args.counts.statements) (counted (codes ", cells ") c.args.counts.cells)
    (counted (codes ", constraints ") c.args.counts.constraints) (counted (codes ", members ") c.args.counts.members)
    c.new-text.ensures c.in_ok-push_count.ensures c.in_ok-push_count-2.ensures c.in_ok-push_count-3.ensures c.in_ok-push_count-4.ensures
