use Rattle.conjure_cli.specs.CellTexts.{occurrence_line, flags_line, values_line}
use Rattle.conjure_cli.proofs.Upto.{three}
use Rattle.conjure_cli.proofs.texts.push_three.Goals as goal

-- src/texts.rt
pub returns : goal.returns
returns c =
    three c.push_values.result c.args.text.now c.push_occurrence.new.text c.push_flags.new.text c.push_values.new.text
    (occurrence_line c.args.number c.args.place) (flags_line c.args.number c.args.place) (values_line c.args.number c.args.place)
    c.in_ok-push_occurrence.ensures c.in_ok-push_flags.ensures c.push_values.ensures
