use Rattle.conjure_cli.specs.Texts.{value, set_line, function_line, constraint_line}
use Rattle.conjure_cli.proofs.Upto.{three}
use Rattle.conjure_cli.proofs.texts.push_pair.Goals as goal

-- src/texts.rt
pub returns : goal.returns
returns c =
    three c.push_constraint.result c.args.text.now c.push_set.new.text c.push_function.new.text c.push_constraint.new.text
    (set_line c.args.place) (function_line c.args.place) (constraint_line c.args.place (value c.args.number c.args.place))
    c.in_ok-push_set.ensures c.in_ok-push_function.ensures (rw c.value.ensures at c.push_constraint.ensures)
